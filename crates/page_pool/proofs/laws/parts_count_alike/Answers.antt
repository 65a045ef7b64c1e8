use Rattle.page_pool.proofs.PartsAlike.{counted_alike}
use Rattle.page_pool.proofs.laws.parts_count_alike.Goals as goal

pub returns : goal.returns
returns c = counted_alike
