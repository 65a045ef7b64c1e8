use Rattle.page_pool.proofs.Opened.{some_blocks, told_too, opened_holds, opened_shows, opened_clean}
use Rattle.page_pool.proofs.partition.Partition.open.Goals as goal

pub invariant_of-result : goal.invariant_of-result
invariant_of-result g c = opened_holds g.V.Vault c.args.disk c.read_lengths.new.disk c.in-Ok.frames c.new.result c.args.point c.args.flushed (some_blocks c.args.disk.relseg c.read_lengths.new.disk.relseg c.requires.relseg c.read_lengths.ensures.relseg) c.read_lengths.ensures.held c.in-Ok.ensures.none c.new.ensures.items c.in-Ok.ensures.lengths (λ told. c.requires.whole (told_too g.V.Vault c.args.disk c.read_lengths.new.disk c.read_lengths.ensures.reads told))

pub returns-in-Ok-clause-frames : goal.returns-in-Ok-clause-frames
returns-in-Ok-clause-frames g c = opened_shows g.V.Vault c.args.disk c.read_lengths.new.disk c.in-Ok.frames c.new.result c.args.point c.args.flushed (some_blocks c.args.disk.relseg c.read_lengths.new.disk.relseg c.requires.relseg c.read_lengths.ensures.relseg) c.read_lengths.ensures.held c.in-Ok.ensures.none c.new.ensures.items c.in-Ok.ensures.lengths

pub returns-in-Ok-clause-clean : goal.returns-in-Ok-clause-clean
returns-in-Ok-clause-clean g c = opened_clean g.V.Vault c.args.disk c.read_lengths.new.disk c.in-Ok.frames c.new.result c.args.point c.args.flushed (some_blocks c.args.disk.relseg c.read_lengths.new.disk.relseg c.requires.relseg c.read_lengths.ensures.relseg) c.read_lengths.ensures.held c.in-Ok.ensures.none c.new.ensures.items c.in-Ok.ensures.lengths g.row.Q
