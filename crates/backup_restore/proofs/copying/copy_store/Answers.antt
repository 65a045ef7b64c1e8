-- Each name's fork is copied in turn.
use Rattle.std.proofs.Common.{◌≡◌, ℕ, List, get_or, sym, subst, arith}
use Rattle.vault.proofs.Changed.{changes_on}
use Rattle.rel_files.specs.Forks.{IsForkPath}
use Rattle.rel_files.proofs.ForkFrames.{changes_none}
use Rattle.chain_files.specs.Told.{chain_told}
use Rattle.chain_files.proofs.Told.{reads_refl, reads_trans, reads_told}
use Rattle.chain_files.specs.Sources.{OfChain}
use Rattle.backup_restore.specs.Inside.{CopyCause, AddsNamed, area_shows, newest_names}
use Rattle.backup_restore.proofs.Chains.{of_told, cause_on, err_cause}
use Rattle.backup_restore.proofs.StoreCopies.{names_begun, names_more, names_ended}
use Rattle.backup_restore.proofs.copying.copy_store.Goals as goal

pub loop-name-init : goal.loop-name-init
loop-name-init g c = (
  names_begun (area_shows g.V.Vault c.args.relseg) c.args.relseg (chain_told g.V.Vault c.args.areas.now c.args.places.now) c.args.out.now c.none-tally.result c.none-tally.ensures,
  c.in_ok-names.ensures.reads,
  changes_none g.V.Vault IsForkPath c.args.out.now,
  omega arith,
)

pub loop-name-preserved : goal.loop-name-preserved
loop-name-preserved g c =
    let names : List (List ℕ) = c.deref-name-items.result.now in
    let name : List ℕ = c.as_bytes.result.now in
    let keyed = subst (λ (ns : List (List ℕ)). OfChain (chain_told g.V.Vault c.args.areas.now c.args.places.now) (λ chain. ns ≡ newest_names chain)) (sym c.deref-name-items.ensures.value) (of_told (chain_told g.V.Vault c.args.areas.now c.args.places.now) (λ chain. c.in_ok-names.names.items ≡ newest_names chain) c.in_ok-names.ensures.names) in (
      names_more (area_shows g.V.Vault c.args.relseg) c.args.relseg (chain_told g.V.Vault c.args.areas.now c.args.places.now) names c.loop-name.name-index name c.args.out.now c.loop-name.out c.copy_named.new.out c.loop-name.tally c.copy_named.new.tally keyed c.loop-name-test.true
          (subst (λ (n : List ℕ). n ≡ get_or names c.loop-name.name-index n) (sym c.as_bytes.ensures) c.name-item.is)
          (subst (λ f. AddsNamed (area_shows g.V.Vault c.args.relseg) c.args.relseg f name c.loop-name.out c.copy_named.new.out c.loop-name.tally c.copy_named.new.tally) (reads_told g.V.Vault c.args.areas.now c.loop-name.areas c.loop-name.invariant.1 c.args.places.now) c.in_ok-copy_named.ensures.added)
          c.loop-name.invariant.0,
      reads_trans g.V.Vault c.args.areas.now c.loop-name.areas c.copy_named.new.areas c.loop-name.invariant.1 c.in_ok-copy_named.ensures.reads,
      changes_on g.V.Vault IsForkPath c.args.out.now c.loop-name.out c.copy_named.new.out c.loop-name.invariant.2 c.in_ok-copy_named.ensures.kept,
      omega (arith, c.loop-name.invariant.3, c.in_ok-copy_named.ensures.later),
    )

pub returns-clause-copied : goal.returns-clause-copied
returns-clause-copied g c =
    let names : List (List ℕ) = c.deref-name-items.result.now in
    let keyed = subst (λ (ns : List (List ℕ)). OfChain (chain_told g.V.Vault c.args.areas.now c.args.places.now) (λ chain. ns ≡ newest_names chain)) (sym c.deref-name-items.ensures.value) (of_told (chain_told g.V.Vault c.args.areas.now c.args.places.now) (λ chain. c.in_ok-names.names.items ≡ newest_names chain) c.in_ok-names.ensures.names) in
    names_ended (area_shows g.V.Vault c.args.relseg) c.args.relseg (chain_told g.V.Vault c.args.areas.now c.args.places.now) names c.loop-name.name-index c.args.out.now c.loop-name.out c.loop-name.tally keyed (omega (arith, c.loop-name-test.false)) c.loop-name.invariant.0

pub returns-in_err-copy_named-clause-kept : goal.returns-in_err-copy_named-clause-kept
returns-in_err-copy_named-clause-kept g c = changes_on g.V.Vault IsForkPath c.args.out.now c.loop-name.out c.copy_named.new.out c.loop-name.invariant.2 c.in_err-copy_named.ensures.kept

pub returns-in_err-copy_named-clause-reads : goal.returns-in_err-copy_named-clause-reads
returns-in_err-copy_named-clause-reads g c = reads_trans g.V.Vault c.args.areas.now c.loop-name.areas c.copy_named.new.areas c.loop-name.invariant.1 c.in_err-copy_named.ensures.reads

pub returns-in_err-copy_named-clause-cause : goal.returns-in_err-copy_named-clause-cause
returns-in_err-copy_named-clause-cause g c =
    let now = c.copy_named.new.areas in
    let left = g.V.Vault.faults c.copy_named.new.out in
    err_cause c.from_residual-in_err-copy_named.result c.in_err-copy_named.field-0.0 (CopyCause g.V.Vault c.args.areas.now now (g.V.Vault.faults c.args.out.now) left) c.from_residual-in_err-copy_named.ensures.1
    (cause_on g.V.Vault c.args.areas.now c.loop-name.areas now now (g.V.Vault.faults c.args.out.now) (g.V.Vault.faults c.loop-name.out) left left c.in_err-copy_named.field-0.0
    c.loop-name.invariant.1 (reads_refl g.V.Vault now) c.loop-name.invariant.3 (omega arith) c.in_err-copy_named.ensures.cause)
