use Rattle.history.proofs.fuzzy_copies.Covering.{answers}
use Rattle.history.proofs.fuzzy_copies.disks.covering_disks_answer.Goals as goal

pub returns : goal.returns
returns c = answers
