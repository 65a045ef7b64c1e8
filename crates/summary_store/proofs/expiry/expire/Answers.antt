use Rattle.std.proofs.Common.{◌≡◌, ◌+◌, ◌-◌, ◌<◌, true, false, length, subst, sym, ap, ◌∙◌, arith}
use Rattle.vault.specs.Frame.{ChangesOnly}
use Rattle.vault.proofs.Changed.{changes_on}
use Rattle.summary_store.specs.Expiry.{IsSummaryName, is_expired}
use Rattle.summary_store.proofs.Expiring.{none_by, some_by, test_by, same_there, so_by, stays_long, step_removed, step_kept, ends_well, ends_so}
use Rattle.summary_store.proofs.expiry.expire.Goals as goal
use Rattle.summary_store.proofs.expiry.expire.Goals.{then-is_none+then-is_expired, else-is_none, else-is_none-via-then-is_none+else-is_expired, else-is_none-via-else-is_none}

pub loop-at-preserved : goal.loop-at-preserved
loop-at-preserved g c = elim c.if-is_none.branch [
  | then-is_none+then-is_expired w ↦
      let now = c.loop-at in
      let sum = w.index-then-is_expired.result.now in
      let le = now.invariant.behind in
      let long = c.len-at-end.ensures in
      let same_long = now.invariant.long in
      let inside = c.loop-at-test.true in
      let lt : now.at < length now.kept.items = omega (arith, inside, long, same_long) in
      let none = none_by now.fault c.is_none.result c.is_none.ensures w.if-is_none.true in
      let same : w.index.result.now ≡ sum = same_there now.kept.items now.at w.index.result.now sum lt w.index.ensures w.index-then-is_expired.ensures in
      let test : is_expired c.args.limit c.args.kept.now.items sum ≡ true =
      subst (λ s. is_expired c.args.limit c.args.kept.now.items s ≡ true) same
      (test_by c.args.limit c.args.kept.now.items c.deref.result.now w.index.result.now c.end_behind-end.result.0 w.is_expired.result true w.is_expired.ensures c.end_behind-end.ensures c.deref.ensures.value w.if-is_expired.true) in
      let removes = w.remove_summary.ensures in
      record {
        behind = omega (arith, le, w.left-is);
        long = ap (λ v. length v.items) w.kept-is ∙ now.invariant.long;
        so_far =
            so_by g.V.Vault c.args.limit c.args.area.now c.args.kept.now.items (now.at + 1) w.remove_summary.new.area c.if-is_none.area now.kept.items c.if-is_none.kept.items now.left c.if-is_none.left _ c.if-is_none.fault
            w.area-is (ap (λ v. v.items) w.kept-is) w.left-is (w.fault-is ∙ w.err-fault.ensures.value)
            (step_removed g.V.Vault c.args.limit c.args.area.now now.area w.remove_summary.new.area c.args.kept.now.items now.kept.items now.left now.at now.fault sum w.remove_summary.result
            none now.invariant.so_far lt w.index-then-is_expired.ensures test removes.removed removes.left removes.cause now.invariant.changes.faults);
        changes = subst (λ a. ChangesOnly g.V.Vault IsSummaryName c.args.area.now a) (sym w.area-is) (changes_on g.V.Vault IsSummaryName c.args.area.now now.area w.remove_summary.new.area now.invariant.changes removes.changes);
      }
  | else-is_none w ↦
      let now = c.loop-at in
      let le = now.invariant.behind in
      let long = c.len-at-end.ensures in
      let same_long = now.invariant.long in
      let inside = c.loop-at-test.true in
      let lt : now.at < length now.kept.items = omega (arith, inside, long, same_long) in
      let swap_long : length w.swap.new.self.items ≡ length now.kept.items = stays_long now.kept.items w.swap.new.self.items now.left now.at w.swap.ensures.by_index lt in
      record {
        behind = omega (arith, le, w.left-is);
        long = ap (λ v. length v.items) w.kept-is ∙ (swap_long ∙ now.invariant.long);
        so_far =
            so_by g.V.Vault c.args.limit c.args.area.now c.args.kept.now.items (now.at + 1) now.area c.if-is_none.area w.swap.new.self.items c.if-is_none.kept.items (now.left + 1) c.if-is_none.left now.fault c.if-is_none.fault
            w.area-is (ap (λ v. v.items) w.kept-is) w.left-is w.fault-is
            (step_kept g.V.Vault c.args.limit c.args.area.now now.area c.args.kept.now.items now.kept.items w.swap.new.self.items now.left now.at now.fault now.invariant.so_far le lt w.swap.ensures.by_index
            (elim w.else-is_none.branch [
              | else-is_none-via-then-is_none+else-is_expired v ↦ λ none. (
                v.index.result.now,
                v.index.ensures,
                test_by c.args.limit c.args.kept.now.items c.deref.result.now v.index.result.now c.end_behind-end.result.0 v.is_expired.result false v.is_expired.ensures c.end_behind-end.ensures c.deref.ensures.value v.if-is_expired.false,
              )
              | else-is_none-via-else-is_none v ↦ λ none. absurd (some_by now.fault c.is_none.result c.is_none.ensures v.if-is_none.false none)
            ]));
        changes = subst (λ a. ChangesOnly g.V.Vault IsSummaryName c.args.area.now a) (sym w.area-is) now.invariant.changes;
      }
]

pub returns-in-None-clause-expired : goal.returns-in-None-clause-expired
returns-in-None-clause-expired g c =
    let now = c.loop-at in
    let l = c.len.ensures in
    let le = now.invariant.behind in
    let long = c.len-at-end.ensures in
    let same_long = now.invariant.long in
    let out = c.loop-at-test.false in
    let end = now.auto.at-end in
    ends_well g.V.Vault c.args.limit c.args.area.now now.area c.args.kept.now.items now.kept.items c.truncate.new.self.items now.left now.at (c.len.result - now.left) now.fault
    c.in-None.is now.invariant.so_far (omega (arith, out, end, long, same_long)) c.truncate.ensures.items (omega (arith, le, end, long, same_long)) same_long (omega (arith, l, le, end, long, same_long))

pub returns-in-None-clause-left : goal.returns-in-None-clause-left
returns-in-None-clause-left g c =
    let now = c.loop-at in
    let long = c.len-at-end.ensures in
    let same_long = now.invariant.long in
    let out = c.loop-at-test.false in
    let end = now.auto.at-end in
    ends_so g.V.Vault c.args.limit c.args.area.now now.area c.args.kept.now.items now.kept.items c.truncate.new.self.items now.left now.at now.fault
    now.invariant.so_far (omega (arith, out, end, long, same_long)) c.truncate.ensures.items
