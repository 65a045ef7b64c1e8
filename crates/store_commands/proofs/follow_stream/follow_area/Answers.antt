-- What was followed is written behind it.
use Rattle.std.proofs.Common.{subst, sym}
use Rattle.store_commands.specs.Following.{AnswersFollow}
use Rattle.store_commands.proofs.FollowedOut.{followed_out}
use Rattle.store_commands.proofs.follow_stream.follow_area.Goals as goal

pub returns-clause-answer : goal.returns-clause-answer
returns-clause-answer g c =
    subst (λ r. AnswersFollow g.V.Vault g.I.Source c.args.segment c.args.relseg c.args.out c.args.input.now c.write_pages-out.result.0 c.follow_onto.new.input r) (sym c.report_of.ensures)
    (followed_out g.V.Vault g.I.Source c.args.segment c.args.relseg c.args.out c.follow_onto.new.out c.write_pages-out.result.0 c.args.input.now c.follow_onto.new.input _ _ c.write_pages-out.result.1 c.in-Ok.ensures.answer c.write_pages-out.ensures.made c.write_pages-out.ensures.cause c.in-Ok.ensures.out_later)
