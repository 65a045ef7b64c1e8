use Rattle.series_check.proofs.Answers.{accepted_or_refused, refused_once}
use Rattle.series_check.proofs.laws.series_have_one_answer.Goals as goal

pub returns-clause-apart : goal.returns-clause-apart
returns-clause-apart c = accepted_or_refused c.chains_have_one_answer.ensures.apart

pub returns-clause-first : goal.returns-clause-first
returns-clause-first c = refused_once c.chains_have_one_answer.ensures.first
