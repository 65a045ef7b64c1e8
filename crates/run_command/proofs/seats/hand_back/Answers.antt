-- Areas go back one by one.
use Rattle.std.proofs.Common.{◌≡◌, ◌∷◌, ◌++◌, ◌∙◌, length, ap, sym, arith}
use Rattle.std.specs.Vec.Iter.{into_iter_items}
use Rattle.run_command.proofs.Seated.{pushed, at_end}
use Rattle.run_command.proofs.seats.hand_back.Goals as goal

pub put-requires : goal.put-requires
put-requires g c =
    let gone = c.in-Some.ensures.steps.1 in
    omega (arith, c.loop-one.invariant.2, c.loop-one.invariant.3, c.requires, gone)

pub loop-one-preserved : goal.loop-one-preserved
loop-one-preserved g c =
    let steps : into_iter_items c.loop-one.one-iterator ≡ c.in-Some.one ∷ into_iter_items c.next.new.self = c.in-Some.ensures.steps.0 in
    let gone = c.in-Some.ensures.steps.1 in (
      pushed c.loop-one.held.items c.put.new.list.items (into_iter_items c.next.new.self) c.in-Some.one _ c.put.ensures.items (ap (λ xs. c.loop-one.held.items ++ xs) (sym steps) ∙ c.loop-one.invariant.0),
      omega (arith, c.loop-one.invariant.1, gone, ap (λ xs. length xs) steps),
      omega (arith, c.loop-one.invariant.2, gone, c.put.ensures.len),
      omega (arith, c.loop-one.invariant.3, c.put.ensures.capacity),
    )

pub returns-clause-held : goal.returns-clause-held
returns-clause-held g c = at_end c.loop-one.held.items (into_iter_items c.loop-one.one-iterator) _ (sym c.loop-one.invariant.1 ∙ c.in-None.ensures.steps.0) c.loop-one.invariant.0

pub returns-clause-len : goal.returns-clause-len
returns-clause-len g c = omega (arith, c.loop-one.invariant.2, c.in-None.ensures.steps.0)
