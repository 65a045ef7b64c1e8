-- All names that were found are removed in turn.
use Rattle.std.proofs.Common.{◌≡◌, ℕ, List, get_or, Option, IfSome, ap, sym, subst, ◌∙◌, arith, option_map}
use Rattle.std.specs.FinMap.{keys}
use Rattle.lsn_core.specs.Files.{Files}
use Rattle.vault.specs.Area.{after_remove}
use Rattle.command_base.proofs.Emptied.{told_more, told_gone}
use Rattle.command_base.proofs.clear.empty_area.Goals as goal

pub loop-name-preserved : goal.loop-name-preserved
loop-name-preserved g c =
    let names : List (List ℕ) = c.deref-name-items.result.now in
    let name : List ℕ = c.as_bytes.result.now in
    let old : Option Files = g.V.Vault.files c.args.area.now in
    record {
      files =
          c.in_ok-remove.ensures.removed
          ∙ ap (option_map (after_remove name)) c.loop-name.invariant.files
          ∙ told_more names old c.loop-name.name-index name c.loop-name-test.true (subst (λ (n : List ℕ). n ≡ get_or names c.loop-name.name-index n) (sym c.as_bytes.ensures) c.name-item.is);
      later = omega (arith, c.loop-name.invariant.later, c.in_ok-remove.ensures.cause.later);
    }

pub returns-clause-emptied : goal.returns-clause-emptied
returns-clause-emptied g c =
    let names : List (List ℕ) = c.deref-name-items.result.now in
    let old : Option Files = g.V.Vault.files c.args.area.now in
    let keyed = subst (λ (ns : List (List ℕ)). IfSome old (λ m. ns ≡ keys m)) (sym c.deref-name-items.ensures.value) c.in_ok-names.ensures.names in
    c.loop-name.invariant.files ∙ told_gone names old c.loop-name.name-index keyed (omega (arith, c.loop-name-test.false))
