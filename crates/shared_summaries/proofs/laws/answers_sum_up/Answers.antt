use Rattle.shared_summaries.proofs.Shelves.{answers_sum_up, crews_keep_honest}
use Rattle.shared_summaries.proofs.laws.answers_sum_up.Goals as goal

pub returns-clause-up : goal.returns-clause-up
returns-clause-up c = answers_sum_up

pub returns-clause-honest : goal.returns-clause-honest
returns-clause-honest c = crews_keep_honest
