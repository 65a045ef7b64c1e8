-- Four groups of eight digits are written behind the timeline.
use Rattle.std.proofs.Common.{arith}
use Rattle.std.proofs.lemmas.Grind.{common_steps}
use Rattle.std.proofs.lemmas.List.{append_assoc}
use Rattle.lsn_core.proofs.Padding.{padded_eight}
use Rattle.summary_file.proofs.name.summary_name.Goals as goal

pub returns : goal.returns
returns c = grind (arith, common_steps, padded_eight, append_assoc)
