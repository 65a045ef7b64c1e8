use Rattle.page_pool.proofs.PartsAlike.{judged_alike}
use Rattle.page_pool.proofs.laws.parts_judge_alike.Goals as goal

pub returns : goal.returns
returns c = judged_alike
