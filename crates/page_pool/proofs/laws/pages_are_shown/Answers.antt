use Rattle.page_pool.proofs.Shown.{pages_shown}
use Rattle.page_pool.proofs.laws.pages_are_shown.Goals as goal

pub returns : goal.returns
returns c = pages_shown
