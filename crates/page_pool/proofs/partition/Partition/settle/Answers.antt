use Rattle.std.proofs.Common.{◌≡◌, max, Option, refl, ap, sym, subst, ◌∙◌}
use Rattle.lsn_core.specs.Files.{Files}
use Rattle.vault.specs.Stops.{synced, noted}
use Rattle.page_frames.specs.Marks.{is_dirty}
use Rattle.page_pool.specs.Part.{Part}
use Rattle.page_pool.proofs.OnDisk.{holds_again, shown_again, own_shown, same_done, same_unwritten, frames_held, settled_now}
use Rattle.page_pool.proofs.InTurn.{on_err}
use Rattle.page_pool.proofs.Stopped.{flushed_moved, sync_moves}
use Rattle.stop_areas.proofs.Calls.{sync_adds}
use Rattle.page_pool.proofs.partition.Partition.settle.Goals as goal

pub invariant_of-self : goal.invariant_of-self
invariant_of-self g c =
    let p = c.self.inside in
    let e = c.in_err-sync.ensures in
    holds_again g.V.Vault p c.self.invariant c.sync.new.self e.kept p.frames p.works p.point p.flushed (own_shown g.V.Vault p) (same_done g.V.Vault p c.self.invariant c.sync.new.self e.kept e.held)

pub returns-in_err-sync-clause-kept : goal.returns-in_err-sync-clause-kept
returns-in_err-sync-clause-kept g c =
    let p = c.self.inside in
    let e = c.in_err-sync.ensures in
    on_err c.from_residual.result _ (same_unwritten g.V.Vault p c.args.self.now c.self.view_is c.sync.new.self (shown_again g.V.Vault p c.self.invariant c.sync.new.self e.kept p.frames p.works.items (λ other. refl) (same_done g.V.Vault p c.self.invariant c.sync.new.self e.kept e.held)))

pub invariant_of-self-2 : goal.invariant_of-self-2
invariant_of-self-2 g c =
    let p = c.self.inside in
    let e = c.in_ok-sync.ensures in
    holds_again g.V.Vault p c.self.invariant c.sync.new.self e.kept p.frames p.works _ _ (own_shown g.V.Vault p) (same_done g.V.Vault p c.self.invariant c.sync.new.self e.kept e.held)

pub returns-clause-settled : goal.returns-clause-settled
returns-clause-settled g c =
    let p = c.self.inside in
    let new = c.sync.new.self in
    let clean = c.requires in
    let e = c.in_ok-sync.ensures in
    let shown = shown_again g.V.Vault p c.self.invariant new e.kept p.frames p.works.items (λ other. refl) (same_done g.V.Vault p c.self.invariant new e.kept e.held) in
    record {
      frames = shown ∙ ap (λ (x : Part). x.frames) c.self.view_is;
      clean = record { marks = λ fork block. ap (λ (x : Part). is_dirty x.marks fork block) c.self.view_is ∙ clean.marks fork block; works = ap (λ (x : Part). x.works) c.self.view_is ∙ clean.works };
      point = c.max.ensures ∙ ap (λ (x : Part). max x.point c.args.redo.0) c.self.view_is;
      held = frames_held g.V.Vault p c.self.invariant new e.kept c.args.self.now c.self.view_is e.held clean p.point p.flushed;
      settled = settled_now (g.V.Vault.files new.area) (g.V.Vault.past p.disk.area) (g.V.Vault.past new.area) (subst (λ (x : Option Files). g.V.Vault.past new.area ≡ noted (synced x) (g.V.Vault.past p.disk.area)) (sym e.same) e.noted);
    }

pub returns-in_err-sync-clause-moments : goal.returns-in_err-sync-clause-moments
returns-in_err-sync-clause-moments g c =
    let p = c.self.inside in
    let new = c.sync.new.self in
    let e = c.sync.ensures in
    flushed_moved g.V.Vault p c.self.invariant new c.args.self.now c.self.view_is _
    (sync_moves g.V.Vault p c.self.invariant new c.args.self.now c.self.view_is
    (λ base. sync_adds p.disk.relseg base (g.V.Vault.files p.disk.area) (g.V.Vault.past p.disk.area) (g.V.Vault.past new.area) c.sync.result e.noted e.tried) e.held) p.frames p.works p.point

pub returns-clause-moments : goal.returns-clause-moments
returns-clause-moments g c =
    let p = c.self.inside in
    let new = c.sync.new.self in
    let e = c.sync.ensures in
    flushed_moved g.V.Vault p c.self.invariant new c.args.self.now c.self.view_is _
    (sync_moves g.V.Vault p c.self.invariant new c.args.self.now c.self.view_is
    (λ base. sync_adds p.disk.relseg base (g.V.Vault.files p.disk.area) (g.V.Vault.past p.disk.area) (g.V.Vault.past new.area) c.sync.result e.noted e.tried) e.held) p.frames p.works _
