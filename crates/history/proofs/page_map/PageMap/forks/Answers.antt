use Rattle.std.proofs.Common.{rules, ◌≡◌, ap, ◌∙◌}
use Rattle.std.specs.FinMap.{keys}
use Rattle.history.proofs.StoreMap.{keys_in}
use Rattle.history.proofs.page_map.PageMap.forks.Goals as goal

pub returns : goal.returns
returns c = let e : c.in_ok-collect.field-0.items ≡ c.keys.result = search rules in e ∙ c.keys.ensures.rest ∙ keys_in c.self.inside.forks c.keys.ensures.ordered ∙ ap keys c.self.view_is
