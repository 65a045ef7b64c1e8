use Rattle.page_pool.proofs.Covering.{followers_cover}
use Rattle.page_pool.proofs.laws.followers_cover.Goals as goal

pub returns : goal.returns
returns c = followers_cover
