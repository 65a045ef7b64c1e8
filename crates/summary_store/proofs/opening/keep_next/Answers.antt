use Rattle.std.proofs.Common.{◌≡◌, arith, ap, ◌∙◌, IfSome, subst}
use Rattle.summary_store.specs.Kept.{end_behind}
use Rattle.summary_store.specs.Inside.{HasRange, FoundIn}
use Rattle.summary_store.proofs.Keeping.{order_push, overlaps, told}
use Rattle.summary_store.proofs.opening.keep_next.Goals as goal

pub returns-in_ok-push-clause-order : goal.returns-in_ok-push-clause-order
returns-in_ok-push-clause-order g c =
    let same : c.end_behind.result.0 ≡ end_behind 0 c.args.sums.now.items = c.end_behind.ensures ∙ ap (end_behind 0) c.deref.ensures.value in
    rw c.in_ok-push.ensures.items (order_push 0 c.args.sums.now.items c.in-Some.sum c.requires (omega (arith, same))
    (subst (λ o. IfSome o HasRange) c.in-Some.is c.in_ok-sum.ensures.range))

pub returns-else-end_behind-sum-clause-kept : goal.returns-else-end_behind-sum-clause-kept
returns-else-end_behind-sum-clause-kept g c =
    let same : c.end_behind.result.0 ≡ end_behind 0 c.args.sums.now.items = c.end_behind.ensures ∙ ap (end_behind 0) c.deref.ensures.value in
    told (g.V.Vault.files c.args.area.now) (λ m found. overlaps m c.args.name.now c.args.sums.now.items c.in-Some.sum found (omega (arith, same)))
    (subst (λ o. IfSome (g.V.Vault.files c.args.area.now) (λ m. FoundIn m c.args.name.now o)) c.in-Some.is c.in_ok-sum.ensures.found)
