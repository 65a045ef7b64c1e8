use Rattle.std.proofs.Common.{refl, ap, ◌∙◌, arith}
use Rattle.store_locks.specs.Locked.{AllHeld, gathered, empty_shares}
use Rattle.shared_store.proofs.Sums.{settled, gathered_parts, gathered_made}
use Rattle.store_lifecycle.proofs.settling.settle.Goals as goal

pub audit_all-requires-after_bounds : goal.audit_all-requires-after_bounds
audit_all-requires-after_bounds g c κs within =
    let all = c.gather.ensures.all ∙ ap (λ (a : AllHeld). gathered a c.args.passes.items) c.requires.none in
    let parts = ap (λ (a : AllHeld). a.parts) (c.all.view_is ∙ all) in
    omega (arith, parts, gathered_parts (empty_shares 0) c.args.passes.items, c.requires.many, c.requires.parts)

pub returns-clause-counted : goal.returns-clause-counted
returns-clause-counted g c =
    let all = c.gather.ensures.all ∙ ap (λ (a : AllHeld). gathered a c.args.passes.items) c.requires.none in
    let amount = ap (λ (a : AllHeld). a.made) (c.all.view_is ∙ all) in
    settled c.args.passes.items c.args.desk.now c.gather.new.desk c.args.desk.now 0 c.all.inside.made.amount
    c.audit_all.ensures.all c.requires.order c.gather.ensures.same refl c.gather.ensures.within (omega (arith, amount, gathered_made (empty_shares 0) c.args.passes.items)) refl

pub returns-clause-full : goal.returns-clause-full
returns-clause-full g c =
    let all = c.gather.ensures.all ∙ ap (λ (a : AllHeld). gathered a c.args.passes.items) c.requires.none in
    let parts = ap (λ (a : AllHeld). a.parts) (c.all.view_is ∙ all) in
    omega (arith, c.audit_all.ensures.parts, parts, gathered_parts (empty_shares 0) c.args.passes.items, c.requires.many, c.requires.parts)
