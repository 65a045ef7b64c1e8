use Rattle.shared_summaries.proofs.summary_publish.Since.{crew_sums_up}
use Rattle.shared_summaries.proofs.summary_publish.laws.crew_sums_up.Goals as goal

pub returns : goal.returns
returns c = crew_sums_up
