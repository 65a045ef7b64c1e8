-- The two groups behind the timeline are written with eight digits each.
use Rattle.std.proofs.Common.{arith}
use Rattle.std.proofs.lemmas.Grind.{common_steps}
use Rattle.lsn_core.proofs.Padding.{padded_eight}
use Rattle.lsn_core.proofs.names.segment_name.Goals as goal

pub returns : goal.returns
returns c = grind (arith, common_steps, padded_eight)
