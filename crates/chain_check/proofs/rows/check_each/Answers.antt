use Rattle.std.proofs.Common.{rules, ◌≡◌, sym, subst, Option, Bool, Err, None, IfSome, arith}
use Rattle.lsn_core.specs.byte_words.Told.{when_both_told}
use Rattle.lsn_core.specs.Files.{Files}
use Rattle.chain_check.specs.Refusals.{row_fault}
use Rattle.chain_check.specs.Inside.{Answers}
use Rattle.file_sums.specs.LaneSums.{Knows}
use Rattle.chain_check.specs.Sizes.{IsSized}
use Rattle.chain_check.proofs.Sized.{Left, left_more, left_refused}
use Rattle.chain_check.proofs.rows.check_each.Goals as goal

pub returns-in-Err-clause-answer : goal.returns-in-Err-clause-answer
returns-in-Err-clause-answer g c =
    let rows = c.args.rows.now in
    let row = c.in-Some.row.now in
    when_both_told (g.V.Vault.files c.args.area.now) (λ m. Left m rows c.args.known.now c.loop-row.left.now c.loop-row.checked)
    (λ m. IsSized m row → Knows m row c.known_at-same.result → Answers (row_fault m row) (Err c.in-Err.fault)) _
    (λ m left fails sized all.
    left_refused m rows c.args.known.now row c.in-Some.behind.now c.loop-row.left.now c.loop-row.checked c.in-Err.fault c.in-Some.ensures.cases.0
    (λ s k. fails s (subst (λ (o : Option Bool). Knows m row o) (sym c.known_at-same.ensures) k)) left sized all)
    c.loop-row.invariant.left
    (subst (λ (o : Option Files). IfSome o (λ m. IsSized m row → Knows m row c.known_at-same.result → Answers (row_fault m row) (Err c.in-Err.fault))) c.loop-row.invariant.reads.files c.in-Err.ensures.answer)

pub loop-row-preserved : goal.loop-row-preserved
loop-row-preserved g c =
    let rows = c.args.rows.now in
    let row = c.in-Some.row.now in record {
      buffer = search rules;
      reads = search rules;
      count = omega (arith, c.loop-row.invariant.count, c.in-Some.ensures.cases.1);
      left = when_both_told (g.V.Vault.files c.args.area.now) (λ m. Left m rows c.args.known.now c.loop-row.left.now c.loop-row.checked)
          (λ m. IsSized m row → Knows m row c.known_at-same.result → row_fault m row ≡ None) _
          (λ m left passes.
          left_more m rows c.args.known.now row c.in-Some.behind.now c.loop-row.left.now c.loop-row.checked c.in-Some.ensures.cases.0
          (λ s k. passes s (subst (λ (o : Option Bool). Knows m row o) (sym c.known_at-same.ensures) k)) left)
          c.loop-row.invariant.left
          (subst (λ (o : Option Files). IfSome o (λ m. IsSized m row → Knows m row c.known_at-same.result → row_fault m row ≡ None)) c.loop-row.invariant.reads.files c.in_default-check_sum.ensures.answer);
    }
