use Rattle.std.proofs.Common.{ap, ◌∙◌}
use Rattle.std.specs.FinMap.{len}
use Rattle.history.proofs.StoreMap.{count_in}
use Rattle.history.proofs.page_map.PageMap.fork_count.Goals as goal

pub returns : goal.returns
returns c = c.len.ensures.len ∙ count_in c.self.inside.forks c.len.ensures.ordered ∙ ap len c.self.view_is
