-- The forks of an area that had no files.
use Rattle.std.proofs.Common.{arith}
use Rattle.follow_command.proofs.Made.{made_of}
use Rattle.follow_command.proofs.output.write_pages.Goals as goal

pub returns-clause-made : goal.returns-clause-made
returns-clause-made g c =
    let some = c.requires.least in
    made_of g.V.Vault c.args.out c.new-forks.result c.write_all-came.new.forks c.area.result c.args.relseg c.args.follower.now.store c.write_all-came.result c.area.ensures (omega (arith, some)) c.new-forks.ensures.area c.new-forks.ensures.relseg c.new-forks.ensures.held c.write_all-came.ensures.kept c.write_all-came.ensures.copied c.write_all-came.ensures.durable
