use Rattle.std.proofs.Common.{◌∙◌, ap, ◌++◌, [], ◌∷◌}
use Rattle.vault.proofs.lending.take_next.Goals as goal

pub returns : goal.returns
returns g c = (c.in_ok-one.one, c.in-Ok.ensures.items ∙ ap (λ items. items ++ c.in_ok-one.one ∷ []) c.reserve.ensures.items, c.in_ok-one.ensures.takes)
