use Rattle.shared_summaries.proofs.summary_publish.Since.{runs_begin_true, true_is_honest, true_stays, publishing_keeps_true}
use Rattle.shared_summaries.proofs.summary_publish.laws.areas_stay_true.Goals as goal

pub returns-clause-begins : goal.returns-clause-begins
returns-clause-begins c = runs_begin_true

pub returns-clause-honest : goal.returns-clause-honest
returns-clause-honest c = true_is_honest

pub returns-clause-stays : goal.returns-clause-stays
returns-clause-stays c = true_stays

pub returns-clause-publishing : goal.returns-clause-publishing
returns-clause-publishing c = publishing_keeps_true
