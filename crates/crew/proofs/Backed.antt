-- Full backups of a worker.
use Rattle.std.proofs.Common.{◌≡◌, ◌≢◌, ℕ, ◌≤◌, List, [], length, Some, None, Option, IfSome, refl, ap, sym, subst, inl, inr}
use Rattle.std.specs.FinMap.{empty}
use Rattle.lsn_core.specs.Files.{Files}
use Rattle.lsn_core.specs.declared.fault.StoreArea.{StoreArea}
use Rattle.lsn_core.specs.declared.fault.StoreFault.TheVariants as store
use Rattle.vault.specs.declared.area.Vault.{Ghosts}
use Rattle.vault.specs.Site.{AreaState, IsStill, state_in}
use Rattle.store_locks.specs.Seen.{Seen, ShareRose}
use Rattle.backup_sending.specs.declared.done.Done.{Done}
use Rattle.store_faults.specs.declared.backup_fault.BackupFault.{BackupFault}
use Rattle.store_faults.specs.declared.backup_fault.BackupFault.TheVariants as backup
use Rattle.backup_files.specs.Area.{EndsSynced, HoldsNothing}
use Rattle.backup_files.proofs.Synced.{synced_is_durable}
use Rattle.backup_sending.specs.Backup.{LooksOn, IsTakenFull, IsTakenWhole, BackupCause, GoesPast, LeavesManifest, KeepsFull, IsUntouched, site_of}
use Rattle.command_base.specs.Areas.{backup_name, AreaIsDurable}
use Rattle.run_answers.specs.declared.answer.Answer.TheVariants.{Backup, BackupRefused}
use Rattle.run_answers.specs.declared.answer.Stop.TheVariants as stop
use Rattle.crew.specs.Run.{Basis, HoldsBackup, StaysFull, IsBackupRefused}
use Rattle.run_answers.specs.Stopping.{backup_stop}
use Rattle.crew.specs.Running.{WentOn, BackupRuns}
use Rattle.crew.proofs.Held.{files_at, only_at}
use Rattle.crew.proofs.Steps.{went_still}

pub looked : (old new : Seen) → LooksOn 3 old new → WentOn 3 old new []
looked old new l = went_still old new l.stays l.accepted l.marks l.shares

-- ---- a backup that was taken

holds : (tells : Type 0) (b : Basis) (name : List ℕ) (old new : Seen) (files : Option Files) (done : Done) → IsTakenFull tells b.settings name b.when old new files done
    → HoldsBackup tells b old.worker (length old.list) new.list name done.start done.end files
holds tells b name old new files done t = record {
  copy = t.copy;
  checkpoint = t.checkpoint;
  count = done.files;
  entries = t.entries;
  directory = t.directory;
  taken = t.taken;
}

pub taken : {V : Type 0} (g : Ghosts V) (tells : Type 0) (b : Basis) (name : List ℕ) (old new : Seen) (area now : V) (done : Done) → IsTakenFull tells b.settings name b.when old new (g.files now) done → EndsSynced g now → HoldsNothing (g.files area)
    → LooksOn 3 old new → g.faults area ≤ g.faults now → BackupRuns g tells b name old new area now (Backup done.start done.end)
taken g tells b name old new area now done t synced empty l later = λ held mid was is others. record {
  made = [];
  went = looked old new l;
  answered = (
    refl,
    inl (
      name,
      refl,
      subst HoldsNothing (sym (files_at g area (held (backup_name name)) was)) empty,
      only_at g area now (backup_name name) held mid was is others later,
      subst (λ (f : Option Files). HoldsBackup tells b old.worker (length old.list) new.list name done.start done.end f) (sym (files_at g now (mid (backup_name name)) is)) (holds tells b name old new (g.files now) done t),
      subst AreaIsDurable (sym is) (synced_is_durable g now synced),
    ),
  );
  risen = λ area t. absurd cc;
  run = refl;
}

-- ---- one that was refused, or failed

why_not : {V : Type 0} (g : Ghosts V) (tells : Type 0) (b : Basis) (name : List ℕ) (old new : Seen) (area now : V) (why : BackupFault) → GoesPast (g.files area) why → LeavesManifest g (IsTakenWhole tells b.settings name b.when old new (g.files now)) area now why
    → BackupCause g b.settings.segment (site_of old area) (site_of new now) why → IsBackupRefused tells b old.worker (length old.list) new.list name (state_in g area) (state_in g now) why
why_not g tells b name old new area now backup.NotEmpty past left cause = (cause.0, ap (λ (s : Seen). length s.list) cause.1, left)
why_not g tells b name old new area now (backup.WalFull n) past left cause = (past, cause.0, cause.1, left)
why_not g tells b name old new area now (backup.StoreFailed which) past left cause = (past, left)
why_not g tells b name old new area now backup.OutFailed past left cause = (cause, left)
why_not g tells b name old new area now backup.NoMemory past (inl kept) cause = inl kept
why_not g tells b name old new area now backup.NoMemory past (inr (inl rose)) cause = inr (inl rose)
why_not g tells b name old new area now backup.NoMemory past (inr (inr t)) cause = inr (inr (t.0.start, t.0.end, holds tells b name old new (g.files now) t.0 t.1))

failed_by : {V : Type 0} (g : Ghosts V) (mib : ℕ) (old new : Seen) (area now : V) (why : BackupFault) (which : StoreArea) → BackupCause g mib (site_of old area) (site_of new now) why → backup_stop why ≡ Some (stop.Store (store.Failed which)) → ShareRose which old new
failed_by g mib old new area now backup.NotEmpty which cause e = absurd cc
failed_by g mib old new area now (backup.WalFull n) which cause e = absurd cc
failed_by g mib old new area now (backup.StoreFailed other) which cause e =
    let same : other ≡ which = cc in
    subst (λ (a : StoreArea). ShareRose a old new) same cause
failed_by g mib old new area now backup.OutFailed which cause e = absurd cc
failed_by g mib old new area now backup.NoMemory which cause e = absurd cc

-- an area that held a file
pub weaker : (o : Option Files) (P Q : Files → Type 0) → ((m : Files) → P m → Q m) → IfSome o P → IfSome o Q
weaker None P Q step holds = tt
weaker (Some m) P Q step holds = step m holds

stays_full : {V : Type 0} (g : Ghosts V) (old new : Seen) (area now : V) → KeepsFull g (site_of old area) (site_of new now) → StaysFull (state_in g area) (state_in g now)
stays_full g old new area now kept =
    weaker (g.files area) (λ m. m ≢ empty → IsUntouched g (site_of old area) (site_of new now)) (λ m. m ≢ empty → IsStill (state_in g area) (state_in g now)) (λ m whole some. record { files = (whole some).files; past = (whole some).past }) kept

pub refused : {V : Type 0} (g : Ghosts V) (tells : Type 0) (b : Basis) (name : List ℕ) (old new : Seen) (area now : V) (why : BackupFault) → GoesPast (g.files area) why → KeepsFull g (site_of old area) (site_of new now)
    → LeavesManifest g (IsTakenWhole tells b.settings name b.when old new (g.files now)) area now why → BackupCause g b.settings.segment (site_of old area) (site_of new now) why → LooksOn 3 old new → g.faults area ≤ g.faults now
    → BackupRuns g tells b name old new area now (BackupRefused why)
refused g tells b name old new area now why past kept left cause l later = λ held mid was is others. record {
  made = [];
  went = looked old new l;
  answered = (
    name,
    refl,
    refl,
    only_at g area now (backup_name name) held mid was is others later,
    subst (λ (x : AreaState). StaysFull x (mid (backup_name name))) (sym was) (subst (λ (x : AreaState). StaysFull (state_in g area) x) (sym is) (stays_full g old new area now kept)),
    subst (λ (x : AreaState). IsBackupRefused tells b old.worker (length old.list) new.list name x (mid (backup_name name)) why) (sym was)
        (subst (λ (x : AreaState). IsBackupRefused tells b old.worker (length old.list) new.list name (state_in g area) x why) (sym is) (why_not g tells b name old new area now why past left cause)),
  );
  risen = λ which t. failed_by g b.settings.segment old new area now why which cause t;
  run = refl;
}
