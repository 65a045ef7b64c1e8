use Rattle.std.proofs.Common.{◌≡◌, ℕ, List, length, ap, subst, sym, ◌∙◌}
use Rattle.backup_files.proofs.Kept.{kept_same}
use Rattle.backup_files.proofs.Passed.{err_more, ok_more}
use Rattle.chain_files.specs.Told.{chain_told}
use Rattle.chain_files.proofs.Told.{places_kept, reads_trans}
use Rattle.combine.specs.Calls.{LeavesManifest}
use Rattle.combine.proofs.Left.{leaves_behind}
use Rattle.directory_files.specs.Relisted.{other_rows}
use Rattle.directory_files.specs.declared.targets.Target.{Target}
use Rattle.combine.specs.Inside.{WorkCause}
use Rattle.combine.proofs.Whole.{on_ok}
use Rattle.incr_merge.specs.Calls.{CanMerge, Merges, MergeCause}
use Rattle.incr_merge.specs.Inside.{CanPut, PutsAll}
use Rattle.incr_merge.proofs.Paths.{can_merge, counted}
use Rattle.incr_merge.proofs.Whole.{can_still, merge_behind, merges_then}
use Rattle.incr_merge.proofs.merging.merge_incr.Goals as goal

pub put_all-requires-clause-places : goal.put_all-requires-clause-places
put_all-requires-clause-places g c = λ κs lives. places_kept g.V.Vault c.args.areas.now c.targets_for.new.areas c.targets_for.ensures.reads c.args.places.now c.requires.places

pub put_all-requires-clause-can : goal.put_all-requires-clause-can
put_all-requires-clause-can g c = λ κs lives.
    can_still g.V.Vault c.args.areas.now c.targets_for.new.areas c.args.places.now c.args.newest.now.manifest c.args.out.now c.targets_for.new.out c.deref.result.now c.targets_for.ensures.reads c.targets_for.ensures.quiet
    (subst (CanPut (chain_told g.V.Vault c.args.areas.now c.args.places.now) c.args.newest.now.manifest (g.V.Vault.files c.args.out.now)) (sym c.deref.ensures.value) c.in_ok-targets.ensures.targets)

pub returns-clause-reads : goal.returns-clause-reads
returns-clause-reads g c = reads_trans g.V.Vault c.args.areas.now c.targets_for.new.areas c.put_all.new.areas c.targets_for.ensures.reads c.put_all.ensures.reads

pub returns-clause-merged : goal.returns-clause-merged
returns-clause-merged g c =
    ok_more c.put_all.result (PutsAll g.V.Vault c.args.places.now c.args.newest.now.manifest c.args.when c.targets_for.new.areas c.put_all.new.out) (Merges g.V.Vault c.args.places.now c.args.newest.now c.args.when c.args.areas.now c.put_all.new.out)
    (λ count puts. merges_then g.V.Vault c.args.places.now c.args.newest.now c.args.when c.args.areas.now c.targets_for.new.areas c.put_all.new.out count c.targets_for.ensures.reads puts) c.put_all.ensures.put

pub returns-clause-counted : goal.returns-clause-counted
returns-clause-counted g c =
    ok_more c.put_all.result (λ count. count ≡ length c.deref.result.now) (λ count. count ≡ length (other_rows c.args.newest.now.manifest.files))
    (λ count is. is ∙ (ap (λ (l : List Target). length l) c.deref.ensures.value ∙ counted (chain_told g.V.Vault c.args.areas.now c.args.places.now) (other_rows c.args.newest.now.manifest.files) c.in_ok-targets.targets.items c.in_ok-targets.ensures.targets.rows)) c.put_all.ensures.counted

pub returns-clause-manifest : goal.returns-clause-manifest
returns-clause-manifest g c =
    let part = (count : ℕ) × PutsAll g.V.Vault c.args.places.now c.args.newest.now.manifest c.args.when c.targets_for.new.areas c.put_all.new.out count in
    let whole = (count : ℕ) × Merges g.V.Vault c.args.places.now c.args.newest.now c.args.when c.args.areas.now c.put_all.new.out count in
    err_more c.put_all.result (LeavesManifest g.V.Vault part c.targets_for.new.out c.put_all.new.out) (LeavesManifest g.V.Vault whole c.args.out.now c.put_all.new.out)
    (λ why left.
    leaves_behind g.V.Vault part whole c.args.out.now c.targets_for.new.out c.put_all.new.out why (kept_same (g.V.Vault.files c.args.out.now) (g.V.Vault.files c.targets_for.new.out) c.targets_for.ensures.quiet.files) c.targets_for.ensures.quiet.faults
    (λ all. (all.0, merges_then g.V.Vault c.args.places.now c.args.newest.now c.args.when c.args.areas.now c.targets_for.new.areas c.put_all.new.out all.0 c.targets_for.ensures.reads all.1)) left)
    c.put_all.ensures.left

pub returns-clause-listable : goal.returns-clause-listable
returns-clause-listable g c =
    on_ok c.put_all.result (CanMerge g.V.Vault c.args.places.now c.args.newest.now.manifest c.args.areas.now)
    (can_merge (chain_told g.V.Vault c.args.areas.now c.args.places.now) c.args.newest.now.manifest (g.V.Vault.files c.args.out.now) c.in_ok-targets.targets.items c.in_ok-targets.ensures.targets)

pub returns-clause-cause : goal.returns-clause-cause
returns-clause-cause g c =
    err_more c.put_all.result (WorkCause g.V.Vault c.targets_for.new.areas c.targets_for.new.out c.put_all.new.areas c.put_all.new.out)
    (MergeCause g.V.Vault c.args.places.now c.args.newest.now.manifest c.args.areas.now c.args.out.now c.put_all.new.areas c.put_all.new.out)
    (λ why cause. merge_behind g.V.Vault c.args.places.now c.args.newest.now.manifest c.args.areas.now c.targets_for.new.areas c.put_all.new.areas c.args.out.now c.targets_for.new.out c.put_all.new.out why c.targets_for.ensures.reads c.targets_for.ensures.quiet.faults cause) c.put_all.ensures.cause
