-- The two areas, lent at once.
use Rattle.std.proofs.Common.{List, ℕ, sym, subst}
use Rattle.crew.specs.Backups.{area_asked, areas_of, AreHeld}
use Rattle.scripts.specs.declared.script.Command.TheVariants as command
use Rattle.crew.specs.Running.{AreAt}
use Rattle.crew.proofs.Two.{two_parts}
use Rattle.crew.proofs.increments.incr.Goals as goal

pub places_of-at-requires-clause-held : goal.places_of-at-requires-clause-held
places_of-at-requires-clause-held g c κs within =
    subst (λ (n : List ℕ). AreHeld (area_asked (command.Incr n c.as_bytes-2.result.now)) c.args.held.now) (sym c.as_bytes.ensures)
    (subst (λ (n : List ℕ). AreHeld (area_asked (command.Incr c.args.name.now n)) c.args.held.now) (sym c.as_bytes-2.ensures) c.requires.held)

pub returns-clause-runs : goal.returns-clause-runs
returns-clause-runs g c =
    let at : AreAt c.args.name.now c.args.prior.now c.args.held.now c.places_of-at.result =
    subst (λ (n : List ℕ). AreAt n c.args.prior.now c.args.held.now c.places_of-at.result) c.as_bytes.ensures
    (subst (λ (n : List ℕ). AreAt c.as_bytes.result.now n c.args.held.now c.places_of-at.result) c.as_bytes-2.ensures c.places_of-at.ensures) in
    let lent = two_parts g.V.Vault c.args.name.now c.args.prior.now c.places_of-at.result.turn c.args.held.now c.split_at_mut-front.result.0.now c.split_at_mut-front.result.1.now c.places_of-at.result.low c.places_of-at.result.high
    c.index-front-at.result c.index-back-0.result c.incr_turned.new.low c.incr_turned.new.high c.requires.apart at.order at.within at.prior_at at.out_at c.split_at_mut-front.ensures.front c.split_at_mut-front.ensures.back
    c.incr_turned.ensures.low c.incr_turned.ensures.high in
    c.incr_turned.ensures.runs c.args.prior.now (areas_of g.V.Vault c.args.held.now) _ (lent.was c.args.pass.now) (lent.is c.incr_turned.new.pass) lent.others

pub returns-clause-later : goal.returns-clause-later
returns-clause-later g c =
    let at : AreAt c.args.name.now c.args.prior.now c.args.held.now c.places_of-at.result =
    subst (λ (n : List ℕ). AreAt n c.args.prior.now c.args.held.now c.places_of-at.result) c.as_bytes.ensures
    (subst (λ (n : List ℕ). AreAt c.as_bytes.result.now n c.args.held.now c.places_of-at.result) c.as_bytes-2.ensures c.places_of-at.ensures) in
    let lent = two_parts g.V.Vault c.args.name.now c.args.prior.now c.places_of-at.result.turn c.args.held.now c.split_at_mut-front.result.0.now c.split_at_mut-front.result.1.now c.places_of-at.result.low c.places_of-at.result.high
    c.index-front-at.result c.index-back-0.result c.incr_turned.new.low c.incr_turned.new.high c.requires.apart at.order at.within at.prior_at at.out_at c.split_at_mut-front.ensures.front c.split_at_mut-front.ensures.back
    c.incr_turned.ensures.low c.incr_turned.ensures.high in
    lent.later
