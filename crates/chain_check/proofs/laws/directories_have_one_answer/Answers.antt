use Rattle.chain_check.proofs.Once.{one_member, not_both, one_refusal}
use Rattle.chain_check.proofs.ListedForms.{listed_forms}
use Rattle.chain_check.proofs.laws.directories_have_one_answer.Goals as goal

pub returns-clause-one : goal.returns-clause-one
returns-clause-one c = one_member c.manifests_are_read_again.ensures.one c.heads_are_read_as_written.ensures.one

pub returns-clause-apart : goal.returns-clause-apart
returns-clause-apart c = not_both c.manifests_are_read_again.ensures.one c.heads_are_read_as_written.ensures.one

pub returns-clause-first : goal.returns-clause-first
returns-clause-first c = one_refusal c.manifests_are_read_again.ensures.one c.heads_are_read_as_written.ensures.one

pub returns-clause-forms : goal.returns-clause-forms
returns-clause-forms c = listed_forms
