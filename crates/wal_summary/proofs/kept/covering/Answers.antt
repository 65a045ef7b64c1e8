use Rattle.std.proofs.Common.{◌<◌, length, subst, sym, refl, arith, rules}
use Rattle.wal_summary.specs.Kept.{AreInOrder, overlaps}
use Rattle.wal_summary.proofs.Cover.{gap, some_in_order}
use Rattle.wal_summary.proofs.Ranges.{some_parts, covering_is}
use Rattle.wal_summary.proofs.kept.covering.Goals as goal

pub returns-then-place-to : goal.returns-then-place-to
returns-then-place-to c = gap c.args.from.0 c.args.to.0 c.args.kept.now c.reached-place.result.0 c.requires.order c.reached-place.ensures (omega arith)

pub merged-requires : goal.merged-requires
merged-requires c = subst (AreInOrder 0) (sym c.overlapping-parts.ensures) (some_in_order (overlaps c.args.from.0 c.args.to.0) 0 c.args.kept.now c.requires.order)

pub bounds-parts-0 : goal.bounds-parts-0
bounds-parts-0 c =
    let some : 0 < length c.overlapping-parts.result.now =
    some_parts c.args.from.0 c.args.to.0 c.reached-place.result.0 c.args.kept.now c.overlapping-parts.result.now c.requires.order c.requires.range c.reached-place.ensures c.if-place-to.false c.overlapping-parts.ensures in
    search (rules, some)

pub overflow_sub-last : goal.overflow_sub-last
overflow_sub-last c =
    let some = some_parts c.args.from.0 c.args.to.0 c.reached-place.result.0 c.args.kept.now c.overlapping-parts.result.now c.requires.order c.requires.range c.reached-place.ensures c.if-place-to.false c.overlapping-parts.ensures in
    omega arith

pub bounds-parts-parts : goal.bounds-parts-parts
bounds-parts-parts c =
    let some = some_parts c.args.from.0 c.args.to.0 c.reached-place.result.0 c.args.kept.now c.overlapping-parts.result.now c.requires.order c.requires.range c.reached-place.ensures c.if-place-to.false c.overlapping-parts.ensures in
    omega arith

pub returns : goal.returns
returns c =
    covering_is c.args.from.0 c.args.to.0 c.reached-place.result.0 c.args.kept.now c.overlapping-parts.result.now c.index-parts-0.result c.index-parts-parts.result _ c.requires.order c.requires.range c.reached-place.ensures c.if-place-to.false
    c.overlapping-parts.ensures c.index-parts-0.is c.index-parts-parts.is (refl, refl, refl) c.in_ok-forks.ensures
