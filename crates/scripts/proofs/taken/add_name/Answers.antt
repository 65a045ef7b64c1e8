use Rattle.std.proofs.Common.{List, ℕ, bytes_eq, subst}
use Rattle.scripts.specs.Inside.{AddsNames}
use Rattle.scripts.proofs.Closed.{adds_name}
use Rattle.scripts.proofs.taken.add_name.Goals as goal

pub returns : goal.returns
returns c =
    subst (λ (l : List ℕ). AddsNames (λ other. bytes_eq other l) c.args.names.now c.insert.new.self) (c.in_ok-to_vec.ensures.items_if_clones_equal (λ x y e. e))
    (adds_name c.in_ok-to_vec.field-0.items c.args.names.now c.insert.new.self c.in_ok-insert.ensures.updates)
