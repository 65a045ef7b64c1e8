-- What a full backup answers and leaves.
use Rattle.std.specs.Prelude.{◌≡◌, ◌≢◌, ℕ, ◌+◌, ◌≤◌, ◌⊎◌, List, length, Option, IfSome}
use Rattle.std.specs.FinMap.{empty}
use Rattle.lsn_core.specs.Causes.{Rose}
use Rattle.lsn_core.specs.Files.{Files}
use Rattle.lsn_core.specs.Segment.{StoreSettings}
use Rattle.lsn_core.specs.Store.{Store}
use Rattle.vault.specs.declared.area.Vault.{Ghosts}
use Rattle.history.specs.fuzzy_copies.Taken.{IsTaken}
use Rattle.store_locks.specs.Seen.{Seen, StaysBy, SharesStay, ShareRose}
use Rattle.backup_sending.specs.declared.done.Done.{Done}
use Rattle.store_faults.specs.declared.backup_fault.BackupFault.{BackupFault}
use Rattle.store_faults.specs.declared.backup_fault.BackupFault.TheVariants.{NotEmpty, WalFull, StoreFailed, OutFailed, NoMemory}
use Rattle.backup_sending.specs.Directory.{IsFullBackup}
use Rattle.backup_sending.specs.Entries.{HasBackupAt, MeetsFullWal}
use Rattle.backup_files.specs.Area.{HoldsNothing, HoldsSomething, KeepsManifest, RoseTwice}

-- a pass has lost nothing of what it had seen, it stays its worker's, counts no command and so many
-- marks at most, and no share of faults on it fell
pub record LooksOn (most : ℕ) (old new : Seen) : Type 0 where
  pub stays : StaysBy old new
  pub accepted : new.accepted ≡ old.accepted
  pub marks : new.marks ≤ old.marks + most
  pub shares : SharesStay old.faults new.faults

-- ---- a backup that was taken

-- an area's files are a full backup's directory. Its entries stand behind all that the worker had
-- seen. Its pages were copied, each at a moment of its own, while what the worker has seen now was
-- written, from the start of the backup's checkpoint on to the end of its last entry
pub record IsTakenFull (tells : Type 0) (settings : StoreSettings) (name : List ℕ) (when : ℕ)
    (old new : Seen) (files : Option Files) (done : Done) : Type 0 where
  pub copy : Store
  pub checkpoint : ℕ
  pub entries : HasBackupAt old.worker (length old.list) new.list done.start.0 checkpoint done.end.0
  pub directory : IsFullBackup settings name when copy
      done.start (record { 0 = checkpoint }) done.end done.files files
  pub taken : tells → IsTaken copy new.list done.start.0 done.end.0

-- it was taken, whatever is answered
abbrev pub IsTakenWhole : Type 0 → StoreSettings → List ℕ → ℕ → Seen → Seen → Option Files → Type 0
IsTakenWhole tells settings name when old new files =
    (done : Done) × IsTakenFull tells settings name when old new files done

-- ---- refusals

-- a worker's pass and the area of a backup
pub record Site (V : Type 0) : Type 0 where
  pub seen : Seen
  pub out : V

abbrev pub site_of : {V : Type 0} → Seen → V → Site V
site_of seen out = record { seen = seen; out = out }

-- why it is refused: the area holds a file, and nothing was done; the WAL had no room behind all
-- that the worker has seen now; or a device failed, of the store one of whose faults the pass's
-- share rose, or the area's, whose count rose. Want of memory may come at any time
abbrev pub BackupCause : {V : Type 0} → Ghosts V → ℕ → Site V → Site V → BackupFault → Type 0
BackupCause g mib old new NotEmpty = HoldsSomething (g.files old.out) × (new.seen ≡ old.seen)
BackupCause g mib old new (WalFull n) =
    (n ≡ length new.seen.list)
    × MeetsFullWal mib old.seen.worker (length old.seen.list) new.seen.list
BackupCause g mib old new (StoreFailed area) = ShareRose area old.seen new.seen
BackupCause g mib old new OutFailed = Rose (g.faults old.out) (g.faults new.out)
BackupCause g mib old new NoMemory = Unit {0}

-- it goes past the look at the area only where that held nothing
abbrev pub GoesPast : Option Files → BackupFault → Type 0
GoesPast files NotEmpty = Unit {0}
GoesPast files (WalFull n) = HoldsNothing files
GoesPast files (StoreFailed area) = HoldsNothing files
GoesPast files OutFailed = Unit {0}
GoesPast files NoMemory = Unit {0}

-- nothing was done to an area and by the pass
pub record IsUntouched {V : Type 0} (g : Ghosts V) (old new : Site V) : Type 0 where
  pub files : g.files new.out ≡ g.files old.out
  pub past : g.past new.out ≡ g.past old.out
  pub seen : new.seen ≡ old.seen

-- where the area held a file, whatever the refusal is
abbrev pub KeepsFull : {V : Type 0} → Ghosts V → Site V → Site V → Type 0
KeepsFull g old new = IfSome (g.files old.out) (λ m. m ≢ empty → IsUntouched g old new)

-- what a refusal leaves of the manifest: nothing. Its removal alone, which follows a fault in
-- writing or syncing it, may fail too: then the area's count rose twice, or once and there was no
-- memory; or memory was missing twice, and the whole directory stands
abbrev pub LeavesManifest : {V : Type 0} → Ghosts V → Type 0 → V → V → BackupFault → Type 0
LeavesManifest g whole old new NotEmpty = KeepsManifest (g.files old) (g.files new)
LeavesManifest g whole old new (WalFull n) = KeepsManifest (g.files old) (g.files new)
LeavesManifest g whole old new (StoreFailed area) = KeepsManifest (g.files old) (g.files new)
LeavesManifest g whole old new OutFailed =
    KeepsManifest (g.files old) (g.files new) ⊎ RoseTwice (g.faults old) (g.faults new)
LeavesManifest g whole old new NoMemory =
    KeepsManifest (g.files old) (g.files new) ⊎ (Rose (g.faults old) (g.faults new) ⊎ whole)
