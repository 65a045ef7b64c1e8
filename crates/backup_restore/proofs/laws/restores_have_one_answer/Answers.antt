-- Restores of the same files answer the same.
use Rattle.backup_restore.proofs.OneAnswer.{one_answer}
use Rattle.backup_restore.proofs.laws.restores_have_one_answer.Goals as goal

pub returns : goal.returns
returns c = one_answer
