use Rattle.history.proofs.fuzzy_copies.Frames.{blocks_stay, pages_stay}
use Rattle.history.proofs.fuzzy_copies.laws.untouched_blocks_stay.Goals as goal

pub returns-clause-stay : goal.returns-clause-stay
returns-clause-stay c = blocks_stay

pub returns-clause-pages : goal.returns-clause-pages
returns-clause-pages c = pages_stay
