-- All names that were found are removed in turn, but the mark's.
use Rattle.std.proofs.Common.{◌≡◌, ℕ, List, get_or, Option, IfSome, ap, sym, subst, ◌∙◌, arith, option_map}
use Rattle.std.specs.FinMap.{keys}
use Rattle.lsn_core.specs.Files.{Files}
use Rattle.vault.proofs.Changed.{changes_on}
use Rattle.data_areas.specs.Marking.{IsOther}
use Rattle.data_areas.specs.Inside.{without_other}
use Rattle.data_areas.proofs.Cleared.{others_more, others_gone}
use Rattle.data_areas.proofs.marking.clear_marked.Goals as goal

pub loop-name-preserved : goal.loop-name-preserved
loop-name-preserved g c =
    let names : List (List ℕ) = c.deref-name-items.result.now in
    let name : List ℕ = c.as_bytes.result.now in
    let old : Option Files = g.V.Vault.files c.args.area.now in
    record {
      files =
          c.in_ok-remove_other.ensures.removed
          ∙ ap (option_map (without_other name)) c.loop-name.invariant.files
          ∙ others_more names old c.loop-name.name-index name c.loop-name-test.true (subst (λ (n : List ℕ). n ≡ get_or names c.loop-name.name-index n) (sym c.as_bytes.ensures) c.name-item.is);
      changes = changes_on g.V.Vault IsOther c.args.area.now c.loop-name.area c.remove_other.new.area c.loop-name.invariant.changes c.in_ok-remove_other.ensures.changes;
    }

pub returns-clause-cleared : goal.returns-clause-cleared
returns-clause-cleared g c =
    let names : List (List ℕ) = c.deref-name-items.result.now in
    let old : Option Files = g.V.Vault.files c.args.area.now in
    let keyed = subst (λ (ns : List (List ℕ)). IfSome old (λ m. ns ≡ keys m)) (sym c.deref-name-items.ensures.value) c.in_ok-names.ensures.names in
    others_gone names old (g.V.Vault.files c.loop-name.area) c.loop-name.name-index keyed (omega (arith, c.loop-name-test.false)) c.loop-name.invariant.files

pub returns-in_err-remove_other-clause-changes : goal.returns-in_err-remove_other-clause-changes
returns-in_err-remove_other-clause-changes g c = changes_on g.V.Vault IsOther c.args.area.now c.loop-name.area c.remove_other.new.area c.loop-name.invariant.changes c.in_err-remove_other.ensures.changes
