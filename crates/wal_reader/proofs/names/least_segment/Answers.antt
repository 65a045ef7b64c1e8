-- One more name, and all of them.
use Rattle.std.proofs.Common.{arith, ◌∙◌}
use Rattle.wal_reader.proofs.WalNames.{told_least, least_more, least_all, named_most}
use Rattle.wal_reader.proofs.names.least_segment.Goals as goal

pub loop-name-preserved : goal.loop-name-preserved
loop-name-preserved c =
    rw c.lesser-least.ensures (least_more c.args.size c.loop-name.name-index c.args.names.now c.as_bytes.result.now c.name-item.result c.loop-name.least c.segment_in.result c.loop-name-test.true (c.as_bytes.ensures ∙ c.name-item.is) c.loop-name.invariant (told_least c.args.size c.as_bytes.result.now c.segment_in.result (rw c.mib-mib.ensures.value at c.mib-mib.ensures.range) c.segment_in.ensures.segment))

pub returns-clause-least : goal.returns-clause-least
returns-clause-least c = least_all c.args.size c.loop-name.name-index c.args.names.now c.loop-name.least (omega arith) c.loop-name.invariant

pub returns-clause-most : goal.returns-clause-most
returns-clause-most c =
    named_most c.args.size c.args.names.now c.loop-name.least (least_all c.args.size c.loop-name.name-index c.args.names.now c.loop-name.least (omega arith) c.loop-name.invariant)
