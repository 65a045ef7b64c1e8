use Rattle.std.proofs.Common.{◌≡◌, ◌++◌, length}
use Rattle.std.specs.Vec.Iter.{into_iter_items, into_iter_len}
use Rattle.run_command.specs.Inner.{HasPlaces, areas_held, passes_of, told_of}
use Rattle.run_command.proofs.seats.raise_all.Given as goal

-- what is left of the crew would stand behind what went back
abbrev pub invariant-loop-worker : goal.invariant-loop-worker
invariant-loop-worker g l =
    (l.passes.items ++ passes_of (into_iter_items l.worker-iterator) ≡ l.fn.passes.items ++ passes_of l.fn.crew.items)
    × (l.held.items ++ areas_held (into_iter_items l.worker-iterator) ≡ l.fn.held.items ++ areas_held l.fn.crew.items)
    × (l.told.items ++ told_of (into_iter_items l.worker-iterator) ≡ l.fn.told.items ++ told_of l.fn.crew.items)
    × (into_iter_len l.worker-iterator ≡ length (into_iter_items l.worker-iterator))
    × HasPlaces l.passes (length (into_iter_items l.worker-iterator))
    × HasPlaces l.held (length (areas_held (into_iter_items l.worker-iterator)))
    × HasPlaces l.told (length (into_iter_items l.worker-iterator))
