use Rattle.std.proofs.Common.{◌≡◌, drop}
use Rattle.store_core.specs.InMemory.{next_redo_in}
use Rattle.store_core.proofs.summaries.next_redo.Given as goal

abbrev pub invariant-loop-record : goal.invariant-loop-record
invariant-loop-record l =
    next_redo_in l.place.0 (drop l.record-index l.records) ≡ next_redo_in l.place.0 l.records
