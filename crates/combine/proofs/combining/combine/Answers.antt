use Rattle.std.proofs.Common.{◌≡◌, ℕ, List, length, ap, ◌∙◌}
use Rattle.backup_files.proofs.Kept.{kept_same}
use Rattle.backup_files.proofs.Passed.{err_more, ok_more}
use Rattle.chain_files.proofs.Told.{reads_refl}
use Rattle.combine.specs.Combined.{other_rows}
use Rattle.combine.specs.Calls.{CannotList, Combines, LeavesManifest}
use Rattle.combine.specs.Inside.{PutsAll}
use Rattle.directory_files.specs.declared.targets.Target.{Target}
use Rattle.combine.proofs.Left.{leaves_behind}
use Rattle.combine.proofs.PathsFor.{counted}
use Rattle.combine.proofs.Whole.{combines, never_unlisted, on_ok}
use Rattle.combine.proofs.combining.combine.Goals as goal

pub returns-in_err-targets-clause-reads : goal.returns-in_err-targets-clause-reads
returns-in_err-targets-clause-reads g c = reads_refl g.V.Vault c.args.areas.now

pub returns-clause-combined : goal.returns-clause-combined
returns-clause-combined g c =
    ok_more c.put_all.result (PutsAll g.V.Vault c.args.places.now c.args.newest.now.manifest c.args.when c.args.areas.now c.put_all.new.out) (Combines g.V.Vault c.args.places.now c.args.newest.now c.args.when c.args.areas.now c.put_all.new.out)
    (λ count puts. combines g.V.Vault c.args.places.now c.args.newest.now c.args.when c.args.areas.now c.put_all.new.out count puts) c.put_all.ensures.put

pub returns-clause-counted : goal.returns-clause-counted
returns-clause-counted g c =
    ok_more c.put_all.result (λ count. count ≡ length c.deref.result.now) (λ count. count ≡ length (other_rows c.args.newest.now.manifest.files))
    (λ count is. is ∙ (ap (λ (l : List Target). length l) c.deref.ensures.value ∙ counted (other_rows c.args.newest.now.manifest.files) c.in_ok-targets.targets.items c.in_ok-targets.ensures.targets.rows)) c.put_all.ensures.counted

pub returns-clause-listable : goal.returns-clause-listable
returns-clause-listable g c =
    on_ok c.put_all.result (CannotList c.args.newest.now.manifest → ⊥) (λ cannot. never_unlisted c.args.newest.now.manifest (g.V.Vault.files c.args.out.now) c.in_ok-targets.targets.items c.in_ok-targets.ensures.targets cannot)

pub returns-clause-manifest : goal.returns-clause-manifest
returns-clause-manifest g c =
    let part = (count : ℕ) × PutsAll g.V.Vault c.args.places.now c.args.newest.now.manifest c.args.when c.args.areas.now c.put_all.new.out count in
    let whole = (count : ℕ) × Combines g.V.Vault c.args.places.now c.args.newest.now c.args.when c.args.areas.now c.put_all.new.out count in
    err_more c.put_all.result (LeavesManifest g.V.Vault part c.targets_for.new.out c.put_all.new.out) (LeavesManifest g.V.Vault whole c.args.out.now c.put_all.new.out)
    (λ why left.
    leaves_behind g.V.Vault part whole c.args.out.now c.targets_for.new.out c.put_all.new.out why (kept_same (g.V.Vault.files c.args.out.now) (g.V.Vault.files c.targets_for.new.out) c.targets_for.ensures.reads.files) c.targets_for.ensures.reads.faults
    (λ all. (all.0, combines g.V.Vault c.args.places.now c.args.newest.now c.args.when c.args.areas.now c.put_all.new.out all.0 all.1)) left)
    c.put_all.ensures.left
