use Rattle.std.proofs.Common.{◌≡◌, ◌+◌, ◌≤◌, length, reverse}
use Rattle.std.specs.Vec.{vec_len, vec_capacity}
use Rattle.run_command.specs.Inner.{areas_counted}
use Rattle.run_command.proofs.Seated.{SatSoFar}
use Rattle.run_command.proofs.seats.seat_all.Given as goal

-- the last seats are taken, by workers of whom the last one was seated first
abbrev pub invariant-loop-seat : goal.invariant-loop-seat
invariant-loop-seat g l =
    SatSoFar l.fn.seats.items l.seats.items (reverse l.crew.items) l.fn.passes.items l.passes.items
    l.fn.held.items l.held.items
    × (vec_len l.passes + length l.crew.items ≡ vec_len l.fn.passes)
    × (vec_capacity l.passes ≡ vec_capacity l.fn.passes)
    × (vec_len l.held + (areas_counted l.fn.seats.items) ≡ vec_len l.fn.held + areas_counted l.seats.items)
    × (vec_capacity l.held ≡ vec_capacity l.fn.held)
    × (vec_len l.crew ≡ length l.crew.items)
    × (vec_capacity l.fn.crew ≤ vec_capacity l.crew)

abbrev pub decreases-loop-seat : goal.decreases-loop-seat
decreases-loop-seat g l = vec_len l.seats
