use Rattle.std.proofs.Common.{◌≡◌, ◌+◌, ◌≤◌, ◌++◌, length, reverse}
use Rattle.std.specs.Vec.{vec_len, vec_capacity}
use Rattle.run_command.proofs.seats.take_last.Given as goal

-- so many areas were taken off the end, the last of them first
abbrev pub invariant-loop : goal.invariant-loop
invariant-loop g l =
    (l.fn.held.items ≡ l.held.items ++ reverse l.areas.items)
    × (length l.areas.items ≡ l.counter) × (vec_len l.areas ≡ l.counter)
    × (vec_len l.held + l.counter ≡ vec_len l.fn.held)
    × (vec_capacity l.held ≡ vec_capacity l.fn.held)
    × (vec_capacity l.fn.areas ≤ vec_capacity l.areas)
