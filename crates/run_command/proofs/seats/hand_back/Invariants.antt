use Rattle.std.proofs.Common.{◌≡◌, ◌+◌, ◌≤◌, ◌++◌, length}
use Rattle.std.specs.Vec.{vec_len, vec_capacity}
use Rattle.std.specs.Vec.Iter.{into_iter_items, into_iter_len}
use Rattle.run_command.proofs.seats.hand_back.Given as goal

-- what is left of the areas would stand behind what is held now
abbrev pub invariant-loop-one : goal.invariant-loop-one
invariant-loop-one g l =
    (l.held.items ++ into_iter_items l.one-iterator ≡ l.fn.held.items ++ l.fn.areas.items)
    × (into_iter_len l.one-iterator ≡ length (into_iter_items l.one-iterator))
    × (vec_len l.held + into_iter_len l.one-iterator ≡ vec_len l.fn.held + length l.fn.areas.items)
    × (vec_capacity l.fn.held ≤ vec_capacity l.held)
