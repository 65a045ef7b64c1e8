use Rattle.std.proofs.Common.{◌≡◌, true, None, Result, Ok, refl, subst, sym, ap, ◌∙◌, arith, ◌∷◌, [], ◌-◌, length, length-append}
use Rattle.summary_store.specs.Kept.{end_behind}
use Rattle.lsn_core.specs.declared.fault.AreaFault.{AreaFault}
use Rattle.vault.proofs.Through.{settled}
use Rattle.shared_summaries.specs.summary_publish.Inside.{CanStart, MayGoOn, PublishesNext}
use Rattle.vault.proofs.Changed.{changes_on}
use Rattle.summary_store.specs.Expiry.{IsSummaryName}
use Rattle.shared_summaries.specs.summary_publish.Partly.{LeavesFirst}
use Rattle.shared_summaries.proofs.summary_publish.Frames.{changes_none, sync_changes}
use Rattle.shared_summaries.proofs.summary_publish.Adding.{looks_on, looks_still, to_none, to_next, to_unkept}
use Rattle.shared_summaries.proofs.summary_publish.Partly.{to_first, to_end}
use Rattle.shared_summaries.proofs.summary_publish.publishing.publish.Goals as goal

pub loop-sum-init : goal.loop-sum-init
loop-sum-init g c =
    let at : c.end_behind-at.result.0 ≡ end_behind c.args.first.0 c.args.kept.now.items = c.end_behind-at.ensures ∙ ap (end_behind c.args.first.0) c.deref.ensures.value in
    record {
      to = to_none g.V.Vault (g.J.OfStore.tells ≡ true) c.args.pass.now.list c.args.first.0 c.args.when c.args.area.now c.args.kept.now.items c.end_behind-at.result.0 at;
      orderly = c.requires.orderly;
      start = λ told. subst (λ n. CanStart c.args.pass.now.list n c.args.known.now.0) (sym at) (c.requires.start told);
      later = omega arith;
      changes = changes_none g.V.Vault c.args.area.now;
      looks = looks_still c.args.pass.now;
      faults = refl;
      few = omega arith;
    }

pub loop-sum-preserved : goal.loop-sum-preserved
loop-sum-preserved g c =
    let h = c.loop-sum.pass.list in
    let n = c.publish_next.new.pass.list in
    let next = subst (PublishesNext g.V.Vault (g.J.OfStore.tells ≡ true) n c.loop-sum.at.0 c.args.when c.loop-sum.area c.publish_next.new.area) c.in-Some.is c.in_ok-sum.ensures.next in
    record {
      to = to_next g.V.Vault (g.J.OfStore.tells ≡ true) h n c.args.first.0 c.args.when c.args.area.now c.loop-sum.area c.publish_next.new.area c.args.kept.now.items c.loop-sum.kept.items c.push.new.self.items c.loop-sum.at.0 c.in-Some.sum c.loop-sum.invariant.to c.in_ok-sum.ensures.looks.seen c.in_ok-sum.ensures.orderly next c.in_ok-push.ensures.items;
      orderly = c.in_ok-sum.ensures.orderly;
      start = λ told. subst (λ o. MayGoOn n o c.publish_next.new.known.0) c.in-Some.is (c.in_ok-sum.ensures.start told);
      later = let a = c.loop-sum.invariant.later in let b = c.in_ok-sum.ensures.later in omega (arith, a, b);
      changes = changes_on g.V.Vault IsSummaryName c.args.area.now c.loop-sum.area c.publish_next.new.area c.loop-sum.invariant.changes c.in_ok-sum.ensures.changes;
      looks = looks_on c.args.pass.now c.loop-sum.pass c.publish_next.new.pass c.loop-sum.invariant.looks c.in_ok-sum.ensures.looks;
      faults = c.in_ok-sum.ensures.cause ∙ c.loop-sum.invariant.faults;
      few = let a = c.loop-sum.invariant.few in let l = ap length c.in_ok-push.ensures.items in let m = length-append c.loop-sum.kept.items (c.in-Some.sum ∷ []) in omega (arith, a, l, m);
    }

pub loop-sum-smaller : goal.loop-sum-smaller
loop-sum-smaller g c =
    let next = subst (PublishesNext g.V.Vault (g.J.OfStore.tells ≡ true) c.publish_next.new.pass.list c.loop-sum.at.0 c.args.when c.loop-sum.area c.publish_next.new.area) c.in-Some.is c.in_ok-sum.ensures.next in
    let starts = next.0.starts in
    let rises = next.0.written.rises in
    let room = next.2.room.end in
    omega (arith, starts, rises, room)

pub returns-in_err-sum-clause-left : goal.returns-in_err-sum-clause-left
returns-in_err-sum-clause-left g c =
    to_first g.V.Vault (g.J.OfStore.tells ≡ true) c.loop-sum.pass.list c.publish_next.new.pass.list c.args.first.0 c.args.when c.args.area.now c.loop-sum.area c.args.kept.now.items c.loop-sum.kept.items c.loop-sum.at.0 (g.V.Vault.files c.publish_next.new.area)
    c.loop-sum.invariant.to c.publish_next.ensures.looks.seen c.publish_next.ensures.orderly c.publish_next.ensures.left

pub returns-in-Ok-clause-left : goal.returns-in-Ok-clause-left
returns-in-Ok-clause-left g c =
    subst (λ o. LeavesFirst (g.J.OfStore.tells ≡ true) c.publish_next.new.pass.list c.args.when c.args.first.0 (g.V.Vault.files c.args.area.now) o c.args.kept.now.items c.loop-sum.kept.items) (sym c.sync.ensures.same)
    (to_first g.V.Vault (g.J.OfStore.tells ≡ true) c.loop-sum.pass.list c.publish_next.new.pass.list c.args.first.0 c.args.when c.args.area.now c.loop-sum.area c.args.kept.now.items c.loop-sum.kept.items c.loop-sum.at.0 (g.V.Vault.files c.publish_next.new.area)
    c.loop-sum.invariant.to c.publish_next.ensures.looks.seen c.publish_next.ensures.orderly c.publish_next.ensures.left)

pub returns-in-Err-clause-left : goal.returns-in-Err-clause-left
returns-in-Err-clause-left g c =
    subst (λ o. LeavesFirst (g.J.OfStore.tells ≡ true) c.publish_next.new.pass.list c.args.when c.args.first.0 (g.V.Vault.files c.args.area.now) o c.args.kept.now.items c.loop-sum.kept.items) (sym c.sync.ensures.same)
    (to_first g.V.Vault (g.J.OfStore.tells ≡ true) c.loop-sum.pass.list c.publish_next.new.pass.list c.args.first.0 c.args.when c.args.area.now c.loop-sum.area c.args.kept.now.items c.loop-sum.kept.items c.loop-sum.at.0 (g.V.Vault.files c.publish_next.new.area)
    c.loop-sum.invariant.to c.publish_next.ensures.looks.seen c.publish_next.ensures.orderly c.publish_next.ensures.left)

pub returns-in_err-sum-clause-looks : goal.returns-in_err-sum-clause-looks
returns-in_err-sum-clause-looks g c = looks_on c.args.pass.now c.loop-sum.pass c.publish_next.new.pass c.loop-sum.invariant.looks c.publish_next.ensures.looks

pub returns-in-Ok-clause-looks : goal.returns-in-Ok-clause-looks
returns-in-Ok-clause-looks g c = looks_on c.args.pass.now c.loop-sum.pass c.publish_next.new.pass c.loop-sum.invariant.looks c.publish_next.ensures.looks

pub returns-in-Err-clause-looks : goal.returns-in-Err-clause-looks
returns-in-Err-clause-looks g c = looks_on c.args.pass.now c.loop-sum.pass c.publish_next.new.pass c.loop-sum.invariant.looks c.publish_next.ensures.looks

pub returns-in_err-sum-clause-changes : goal.returns-in_err-sum-clause-changes
returns-in_err-sum-clause-changes g c = changes_on g.V.Vault IsSummaryName c.args.area.now c.loop-sum.area c.publish_next.new.area c.loop-sum.invariant.changes c.publish_next.ensures.changes

pub returns-in-Ok-clause-changes : goal.returns-in-Ok-clause-changes
returns-in-Ok-clause-changes g c = changes_on g.V.Vault IsSummaryName c.args.area.now c.publish_next.new.area c.sync.new.self
    (changes_on g.V.Vault IsSummaryName c.args.area.now c.loop-sum.area c.publish_next.new.area c.loop-sum.invariant.changes c.publish_next.ensures.changes)
    (sync_changes g.V.Vault c.publish_next.new.area c.sync.new.self c.sync.result c.sync.ensures.same c.sync.ensures.noted c.sync.ensures.tried c.sync.ensures.cause.later)

pub returns-in-Err-clause-changes : goal.returns-in-Err-clause-changes
returns-in-Err-clause-changes g c = changes_on g.V.Vault IsSummaryName c.args.area.now c.publish_next.new.area c.sync.new.self
    (changes_on g.V.Vault IsSummaryName c.args.area.now c.loop-sum.area c.publish_next.new.area c.loop-sum.invariant.changes c.publish_next.ensures.changes)
    (sync_changes g.V.Vault c.publish_next.new.area c.sync.new.self c.sync.result c.sync.ensures.same c.sync.ensures.noted c.sync.ensures.tried c.sync.ensures.cause.later)

pub returns-in-Ok-clause-published : goal.returns-in-Ok-clause-published
returns-in-Ok-clause-published g c =
    let h = c.loop-sum.pass.list in
    let n = c.publish_next.new.pass.list in
    let told = g.J.OfStore.tells ≡ true in
    let done : Result (Unit {0}) AreaFault = Ok c.in-Ok.field-0 in
    let none : PublishesNext g.V.Vault told n c.loop-sum.at.0 c.args.when c.loop-sum.area c.publish_next.new.area None =
    subst (PublishesNext g.V.Vault told n c.loop-sum.at.0 c.args.when c.loop-sum.area c.publish_next.new.area) c.in_default.is c.in_ok-sum.ensures.next in
    to_end g.V.Vault told h n c.args.first.0 c.args.when c.args.area.now c.loop-sum.area c.publish_next.new.area c.sync.new.self c.args.kept.now.items c.loop-sum.kept.items c.loop-sum.at.0 (c.len.result - c.len-before.result) c.loop-sum.invariant.to c.in_ok-sum.ensures.looks.seen c.in_ok-sum.ensures.orderly none c.in-Ok.ensures.same
    (settled done (g.V.Vault.files c.publish_next.new.area) (g.V.Vault.files c.sync.new.self) (g.V.Vault.past c.publish_next.new.area) (g.V.Vault.past c.sync.new.self) c.in-Ok.ensures.same c.in-Ok.ensures.noted)
    (let few = c.loop-sum.invariant.few in let a = c.len-before.ensures in let b = c.len.ensures in omega (arith, few, a, b))

-- the last one was written, and couldn't be kept
pub returns-in_err-push-clause-left : goal.returns-in_err-push-clause-left
returns-in_err-push-clause-left g c =
    let n = c.publish_next.new.pass.list in
    let told = g.J.OfStore.tells ≡ true in
    let next = subst (PublishesNext g.V.Vault told n c.loop-sum.at.0 c.args.when c.loop-sum.area c.publish_next.new.area) c.in-Some.is c.in_ok-sum.ensures.next in
    subst (λ l. LeavesFirst told n c.args.when c.args.first.0 (g.V.Vault.files c.args.area.now) (g.V.Vault.files c.publish_next.new.area) c.args.kept.now.items l) (sym c.in_err-push.ensures.items)
    (to_unkept g.V.Vault told c.loop-sum.pass.list n c.args.first.0 c.args.when c.args.area.now c.loop-sum.area c.publish_next.new.area c.args.kept.now.items c.loop-sum.kept.items c.loop-sum.at.0 c.in-Some.sum c.loop-sum.invariant.to c.in_ok-sum.ensures.looks.seen c.in_ok-sum.ensures.orderly next)

pub returns-in_err-push-clause-looks : goal.returns-in_err-push-clause-looks
returns-in_err-push-clause-looks g c = looks_on c.args.pass.now c.loop-sum.pass c.publish_next.new.pass c.loop-sum.invariant.looks c.publish_next.ensures.looks

pub returns-in_err-push-clause-changes : goal.returns-in_err-push-clause-changes
returns-in_err-push-clause-changes g c = changes_on g.V.Vault IsSummaryName c.args.area.now c.loop-sum.area c.publish_next.new.area c.loop-sum.invariant.changes c.publish_next.ensures.changes
