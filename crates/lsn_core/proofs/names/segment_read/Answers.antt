-- The three groups are those of one segment.
use Rattle.std.proofs.Common.{ℕ, List, length, ◌==◌, ◌/◌, sym, ap, arith}
use Rattle.std.proofs.lemmas.Bool.{both_ways}
use Rattle.lsn_core.proofs.byte_words.Cutting.{none_anyway}
use Rattle.lsn_core.proofs.SegmentNames.{no_high, no_low, no_number}
use Rattle.lsn_core.proofs.names.segment_read.Goals as goal
use Rattle.lsn_core.proofs.names.segment_read.Goals.{then-not-is_empty-via-then-not-is_empty, then-not-is_empty-via-else-not-is_empty+then-from-per_group}

pub returns-in_err-high-clause-none : goal.returns-in_err-high-clause-none
returns-in_err-high-clause-none c =
    none_anyway c.from_residual-in_err-high.result _
    (no_high c.args.name.now c.in_ok-timeline.behind.now c.args.size c.in_ok-timeline.timeline c.in_ok-timeline.ensures.found c.in_ok-timeline.ensures.small c.in_err-high.ensures.none)

pub returns-in_err-low-clause-none : goal.returns-in_err-low-clause-none
returns-in_err-low-clause-none c =
    none_anyway c.from_residual-in_err-low.result _
    (no_low c.args.name.now c.in_ok-timeline.behind.now c.in_ok-high.behind.now c.args.size c.in_ok-timeline.timeline c.in_ok-high.high c.in_ok-timeline.ensures.found c.in_ok-timeline.ensures.small c.in_ok-high.ensures.found c.in_ok-high.ensures.small c.in_err-low.ensures.none)

pub returns-then-not-is_empty-clause-none : goal.returns-then-not-is_empty-clause-none
returns-then-not-is_empty-clause-none c =
    no_number c.args.name.now c.in_ok-timeline.behind.now c.in_ok-high.behind.now c.in_ok-low.behind.now c.args.size c.in_ok-timeline.timeline c.in_ok-high.high c.in_ok-low.low c.in_ok-timeline.ensures.found c.in_ok-timeline.ensures.small c.in_ok-high.ensures.found c.in_ok-high.ensures.small c.in_ok-low.ensures.found c.in_ok-low.ensures.small
    (λ empty less. elim c.then-not-is_empty.branch [
      | then-not-is_empty-via-then-not-is_empty w ↦ both_ways _ (sym w.if-not-is_empty.ensures) (ap (λ (l : List ℕ). length l == 0) empty)
      | then-not-is_empty-via-else-not-is_empty+then-from-per_group w ↦ omega (arith, less, w.if-from-per_group.true, w.from.ensures, ap (λ (n : ℕ). 4294967296 / n) c.bytes-per_group.ensures.bytes)
    ])
