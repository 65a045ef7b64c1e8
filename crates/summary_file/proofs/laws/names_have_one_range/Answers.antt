use Rattle.summary_file.proofs.Ranges.{one_range}
use Rattle.summary_file.proofs.laws.names_have_one_range.Goals as goal

pub returns : goal.returns
returns c = one_range
