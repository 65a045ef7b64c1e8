use Rattle.chain_check.proofs.Links.{accepted_or_refused, refused_once}
use Rattle.chain_check.proofs.laws.chains_have_one_answer.Goals as goal

pub returns-clause-apart : goal.returns-clause-apart
returns-clause-apart c = accepted_or_refused

pub returns-clause-first : goal.returns-clause-first
returns-clause-first c = refused_once
