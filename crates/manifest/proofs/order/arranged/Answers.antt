use Rattle.std.proofs.Common.{ℕ, ◌+◌, ◌<◌, List, length, subst}
use Rattle.std.specs.List.{AllAdjacentBelow}
use Rattle.manifest.specs.declared.shape.RawRow.{RawRow}
use Rattle.manifest.proofs.RisingPaths.{Neighbours, rises, Falls, none_rises}
use Rattle.manifest.proofs.order.arranged.Goals as goal

pub returns-then-is_rising-clause-found : goal.returns-then-is_rising-clause-found
returns-then-is_rising-clause-found c =
    (c.sort_rows.ensures.same, rises c.sort_rows.new.rows.items (subst (λ (l : List RawRow). AllAdjacentBelow Neighbours l (length l)) c.deref.ensures.value c.if-is_rising.ensures))

pub returns-else-is_rising-clause-none : goal.returns-else-is_rising-clause-none
returns-else-is_rising-clause-none c =
    let falls = subst (λ (l : List RawRow). (k : ℕ) × (k + 1 < length l) × Falls l k) c.deref.ensures.value c.if-is_rising.ensures in
    none_rises c.args.rows.items c.sort_rows.new.rows.items falls.0 c.sort_rows.ensures.same c.sort_rows.ensures.sorted falls.1 falls.2
