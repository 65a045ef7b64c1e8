-- What is restored into the forks of an empty area.
use Rattle.std.proofs.Common.{ℕ, ◌<◌, refl, sym, subst, ◌∙◌}
use Rattle.vault.specs.Frame.{ChangesOnly}
use Rattle.vault.proofs.Changed.{changes_on}
use Rattle.rel_files.specs.Forks.{IsForkPath}
use Rattle.rel_files.specs.Shown.{AreFilesOf}
use Rattle.chain_files.specs.Told.{chain_told}
use Rattle.backup_restore.specs.Inside.{CopiesStore, area_shows}
use Rattle.backup_restore.proofs.Outputs.{restored_out}
use Rattle.backup_restore.proofs.restoring.restore.Goals as goal

pub returns-clause-answer : goal.returns-clause-answer
returns-clause-answer g c =
    restored_out g.V.Vault _ c.args.settings.now c.args.start c.args.upto c.args.places.now c.args.wal.now c.args.areas.now c.args.out c.redo_over-came.new.wal c.copy_store.new.areas c.area.result c.redo_over-came.result (record {
      mid = c.copy_store.new.out;
      counted = c.in-Ok.counted;
      old = c.new-forks.result;
      new = c.redo_over-came.new.target;
      shows = λ f s held. held;
      shown = λ f s held. held;
      faults = λ f. refl;
      clear = c.requires.clear;
      copied = subst (λ (n : ℕ). CopiesStore (area_shows g.V.Vault n) n (chain_told g.V.Vault c.args.areas.now c.args.places.now) c.args.out c.copy_store.new.out c.in-Ok.counted) c.relseg-relseg.ensures.value c.in-Ok.ensures.copied;
      changes = c.in-Ok.ensures.kept;
      relseg = c.new-forks.ensures.relseg ∙ c.relseg-relseg.ensures.value;
      some = subst (λ (n : ℕ). 0 < n) c.relseg-relseg.ensures.value c.relseg-relseg.ensures.least;
      area = c.new-forks.ensures.area;
      held = λ s are. c.new-forks.ensures.held s (subst (λ (n : ℕ). AreFilesOf n (g.V.Vault.files c.copy_store.new.out) s) (sym c.relseg-relseg.ensures.value) are);
      kept = c.redo_over-came.ensures.kept;
      redone = c.redo_over-came.ensures.answer;
    }) c.area.ensures

pub returns-clause-kept : goal.returns-clause-kept
returns-clause-kept g c =
    subst (λ v. ChangesOnly g.V.Vault IsForkPath c.args.out v) (sym c.area.ensures)
    (changes_on g.V.Vault IsForkPath c.args.out c.copy_store.new.out c.redo_over-came.new.target.area c.in-Ok.ensures.kept
    (subst (λ v. ChangesOnly g.V.Vault IsForkPath v c.redo_over-came.new.target.area) c.new-forks.ensures.area c.redo_over-came.ensures.kept.area))
