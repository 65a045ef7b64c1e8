use Rattle.std.proofs.Common.{◌≡◌, ℕ, ◌+◌, ◌-◌, ◌<◌, false, length, get_or, take, drop, subst, sym, ap, ◌∙◌, arith}
use Rattle.vault.specs.Record.{changes_of, is_sync}
use Rattle.memory_vault.specs.Stopped.{left_since, left_by}
use Rattle.memory_vault.proofs.Picked.{earlier_cut}
use Rattle.memory_vault.proofs.stopped.durable_count.Goals as goal

pub loop-count-preserved : goal.loop-count-preserved
loop-count-preserved c =
    let kept = c.args.changes.now in
    let count = c.loop-count.count in
    let n : ℕ = count - 1 in
    let last = c.index-changes-count.result in
    let more : count ≡ n + 1 = omega (arith, c.loop-count-test.true) in
    let lt : n < length kept = omega (arith, c.loop-count-test.true, c.loop-count.invariant.within) in
    let none : is_sync (get_or kept n last) ≡ false = ap is_sync (sym c.index-changes-count.is) ∙ sym c.is_sync.ensures ∙ c.if-not-is_sync.true in
    record {
      within = omega (arith, c.loop-count.invariant.within);
      splits = λ pick. earlier_cut pick kept n last lt none
          (subst (λ (m : ℕ). left_by pick (changes_of kept) ≡ left_since pick (changes_of (drop m kept)) (left_by pick (changes_of (take m kept)))) more (c.loop-count.invariant.splits pick));
    }
