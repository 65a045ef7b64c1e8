-- A crew is seated, the last worker first.
use Rattle.std.proofs.Common.{[], ◌∷◌, length, length-append, reverse, ap, arith}
use Rattle.std.proofs.lemmas.List.{length-reverse}
use Rattle.run_command.proofs.Seated.{sat_length}
use Rattle.run_command.proofs.seats.seat_all.Goals as goal

pub put-requires : goal.put-requires
put-requires g c =
    let many = sat_length c.args.seats.items c.loop-seat.seats.items (reverse c.loop-seat.crew.items) c.args.passes.now.items c.loop-seat.passes.items c.args.held.now.items c.loop-seat.held.items c.loop-seat.invariant.0 in
    omega (arith, many, length-reverse c.loop-seat.crew.items, ap (λ xs. length xs) c.in-Some.ensures.items, length-append c.pop.new.self.items (c.in-Some.seat ∷ []), c.requires.room.2, c.loop-seat.invariant.5, c.loop-seat.invariant.6)

pub returns-clause-passes_places : goal.returns-clause-passes_places
returns-clause-passes_places g c =
    let many = sat_length c.args.seats.items c.loop-seat.seats.items (reverse c.loop-seat.crew.items) c.args.passes.now.items c.loop-seat.passes.items c.args.held.now.items c.loop-seat.held.items c.loop-seat.invariant.0 in
    omega (arith, many, length-reverse c.loop-seat.crew.items, c.in_default.ensures.cases, c.loop-seat.seats.ok, c.args.passes.now.ok, c.loop-seat.invariant.1, c.loop-seat.invariant.2)
