use Rattle.std.proofs.Common.{◌≡◌, map, drop}
use Rattle.history.specs.Whole.{is_named}
use Rattle.command_judging.proofs.form.is_named.Given as goal

abbrev pub invariant-loop-item : goal.invariant-loop-item
invariant-loop-item l = is_named l.at (map (λ i. i.at) (drop l.item-index l.items)) ≡ is_named l.at (map (λ i. i.at) l.items)
