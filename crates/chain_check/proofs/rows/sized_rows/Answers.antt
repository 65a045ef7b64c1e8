use Rattle.std.proofs.Common.{rules, ◌∙◌, sym, subst, take, Option, IfSome, arith}
use Rattle.std.specs.List.{AllByRecursion}
use Rattle.lsn_core.specs.byte_words.Told.{when_both_told}
use Rattle.lsn_core.specs.Files.{Files}
use Rattle.chain_check.specs.Sizes.{IsSized, SizeAnswer}
use Rattle.chain_check.specs.declared.fault.ChainFault.{ChainFault}
use Rattle.chain_check.proofs.Sized.{sized_next, left_next}
use Rattle.chain_check.proofs.rows.sized_rows.Goals as goal

pub loop-row-preserved : goal.loop-row-preserved
loop-row-preserved g c =
    let rows = c.args.rows.now in
    let row = c.in-Some.row.now in
    let at = sym c.loop-row.invariant.left ∙ c.in-Some.ensures.cases.0 in record {
      reads = search rules;
      count = omega (arith, c.loop-row.invariant.count, c.in-Some.ensures.cases.1);
      left = left_next rows c.loop-row.sized row c.in-Some.behind.now at;
      before = when_both_told (g.V.Vault.files c.args.area.now) (λ m. AllByRecursion (IsSized m) (take c.loop-row.sized rows)) (λ m. SizeAnswer m row c.in_ok-fault.field-0) _
          (λ m all is. sized_next m rows c.loop-row.sized row c.in-Some.behind.now at (subst (λ (o : Option ChainFault). SizeAnswer m row o) c.in_default-2.is is) all)
          c.loop-row.invariant.before
          (subst (λ (o : Option Files). IfSome o (λ m. SizeAnswer m row c.in_ok-fault.field-0)) c.loop-row.invariant.reads.files c.in_ok-fault.ensures.answer);
    }
