-- All names that were found are removed in turn.
use Rattle.std.proofs.Common.{◌≡◌, ℕ, List, get_or, Option, IfSome, ap, sym, subst, ◌∙◌, arith, option_map}
use Rattle.std.specs.FinMap.{keys}
use Rattle.lsn_core.specs.Files.{Files}
use Rattle.vault.specs.Area.{after_remove}
use Rattle.data_areas.proofs.Cleared.{told_more, told_gone}
use Rattle.data_areas.proofs.Moments.{goes_further, removal_goes_on}
use Rattle.data_areas.proofs.marking.clear_area.Goals as goal

pub loop-name-preserved : goal.loop-name-preserved
loop-name-preserved g c =
    let names : List (List ℕ) = c.deref-name-items.result.now in
    let name : List ℕ = c.as_bytes.result.now in
    let old : Option Files = g.V.Vault.files c.args.area.now in
    record {
      files =
          c.in_ok-remove.ensures.removed
          ∙ ap (option_map (after_remove name)) c.loop-name.invariant.files
          ∙ told_more names old c.loop-name.name-index name c.loop-name-test.true (subst (λ (n : List ℕ). n ≡ get_or names c.loop-name.name-index n) (sym c.as_bytes.ensures) c.name-item.is);
      on = goes_further (g.V.Vault.past c.args.area.now) (g.V.Vault.past c.loop-name.area) (g.V.Vault.past c.remove.new.self) c.loop-name.invariant.on
          (removal_goes_on name (g.V.Vault.past c.loop-name.area) (g.V.Vault.past c.remove.new.self) c.remove.result c.remove.ensures.noted c.remove.ensures.tried);
      later = omega (arith, c.loop-name.invariant.later, c.in_ok-remove.ensures.cause.later);
    }

pub returns-clause-cleared : goal.returns-clause-cleared
returns-clause-cleared g c =
    let names : List (List ℕ) = c.deref-name-items.result.now in
    let old : Option Files = g.V.Vault.files c.args.area.now in
    let keyed = subst (λ (ns : List (List ℕ)). IfSome old (λ m. ns ≡ keys m)) (sym c.deref-name-items.ensures.value) c.in_ok-names.ensures.names in
    c.loop-name.invariant.files ∙ told_gone names old c.loop-name.name-index keyed (omega (arith, c.loop-name-test.false))

pub returns-in_err-remove-clause-goes_on : goal.returns-in_err-remove-clause-goes_on
returns-in_err-remove-clause-goes_on g c =
    goes_further (g.V.Vault.past c.args.area.now) (g.V.Vault.past c.loop-name.area) (g.V.Vault.past c.remove.new.self) c.loop-name.invariant.on
    (removal_goes_on c.as_bytes.result.now (g.V.Vault.past c.loop-name.area) (g.V.Vault.past c.remove.new.self) c.remove.result c.remove.ensures.noted c.remove.ensures.tried)
