-- What the steps of an incremental backup answer: no public contract cites these.
use Rattle.std.specs.Prelude.{◌≡◌, ℕ, ◌<◌, ◌≤◌, List, length, Option, IfSome, Result, Ok, Err}
use mathlib.Core.List.{IsPrefix}
use Rattle.lsn_core.specs.Causes.{Rose}
use Rattle.lsn_core.specs.Files.{Files}
use Rattle.lsn_core.specs.declared.lsn.Lsn.{Lsn}
use Rattle.lsn_core.specs.declared.fault.StoreArea.TheVariants.{Sums}
use Rattle.lsn_core.specs.declared.fault.StoreFault.TheVariants as store
use Rattle.vault.specs.declared.area.Vault.{Ghosts}
use Rattle.wal_writer.specs.declared.state.Flushed.{Flushed}
use Rattle.wal_summary.specs.declared.summary.Summary.{Summary}
use Rattle.history.specs.Entry.{Entry, Mark, BackupEnd}
use Rattle.manifest.specs.Listing.{Listing}
use Rattle.manifest.specs.declared.listing.FileRow.{FileRow}
use Rattle.store_locks.specs.declared.receipt.Redo.{Redo}
use Rattle.store_locks.specs.Seen.{Seen, ShareRose}
use Rattle.store_locks.specs.Calls.{HasNoRoom}
use Rattle.shared_store.specs.Shared.{HasCheckpointIn, HasEnded, FindsNoRoomIn}
use Rattle.store_locks.specs.Calls.{IsPlaced}
use Rattle.shared_summaries.specs.Shelf.{HasCovered}
use Rattle.store_faults.specs.declared.advance_fault.AdvanceFault.{AdvanceFault}
use Rattle.store_faults.specs.declared.advance_fault.AdvanceFault.TheVariants as advance
use Rattle.store_faults.specs.declared.backup_fault.BackupFault.{BackupFault}
use Rattle.store_faults.specs.declared.backup_fault.BackupFault.TheVariants as backup
use Rattle.store_faults.specs.declared.incr_fault.IncrFault.{IncrFault}
use Rattle.store_faults.specs.declared.incr_fault.IncrFault.TheVariants as fault
use Rattle.backup_sending.specs.declared.basis.Basis.{Basis}
use Rattle.backup_files.specs.Area.{HoldsNothing, HoldsSomething}
use Rattle.backup_sending.specs.Backup.{Site}
use Rattle.backup_sending.specs.Entries.{HasCheckpointAt}
use Rattle.incr_backup.specs.Prior.{PriorAnswer}
use Rattle.incr_backup.specs.Incr.{Origin, IsSummedUp}
use Rattle.backup_sending.specs.Sending.{SendsStore}

-- ---- before the checkpoint

-- the area holds a file, or the prior's manifest isn't taken, or one of the two areas failed
abbrev pub EarlyRefusal : {V : Type 0} → Ghosts V → ℕ → V → V → V → V → IncrFault → Type 0
EarlyRefusal g system before behind old new fault.NotEmpty = HoldsSomething (g.files old)
EarlyRefusal g system before behind old new fault.NoManifest = HoldsNothing (g.files old)
    × IfSome (g.files before) (λ m. PriorAnswer m system (Err fault.NoManifest))
EarlyRefusal g system before behind old new (fault.ManifestRefused why) =
    HoldsNothing (g.files old)
    × IfSome (g.files before) (λ m. PriorAnswer m system (Err (fault.ManifestRefused why)))
EarlyRefusal g system before behind old new (fault.SystemDiffers have expected) =
    HoldsNothing (g.files old)
    × IfSome (g.files before) (λ m.
    PriorAnswer m system (Err (fault.SystemDiffers have expected)))
EarlyRefusal g system before behind old new fault.PriorFailed =
    HoldsNothing (g.files old) × Rose (g.faults before) (g.faults behind)
EarlyRefusal g system before behind old new fault.OutFailed =
    Rose (g.faults old) (g.faults new)
EarlyRefusal g system before behind old new fault.NoMemory = Unit {0}
EarlyRefusal g system before behind old new _ = ⊥

-- ---- the checkpoint and the summary

-- the summary from the prior's start to a redo point, or why there is none
abbrev pub SumAnswer :
    Type 0 → Origin → ℕ → Seen → Seen → Listing → Lsn → Result Summary IncrFault → Type 0
SumAnswer tells o when old new m redo (Ok sum) =
    (m.end ≤ redo.0) × HasCovered tells o.found o.sums new.list when o.limit m.start redo.0
    (Ok sum)
SumAnswer tells o when old new m redo (Err (fault.Overlap start end)) =
    (start ≡ redo) × (end.0 ≡ m.end) × (redo.0 < m.end)
SumAnswer tells o when old new m redo (Err (fault.Gap place)) =
    (m.end ≤ redo.0)
    × HasCovered tells o.found o.sums new.list when o.limit m.start redo.0
    (Err (advance.Gap place))
SumAnswer tells o when old new m redo (Err (fault.StoreFailed area)) = ShareRose area old new
SumAnswer tells o when old new m redo (Err fault.SumsFailed) = ShareRose Sums old new
SumAnswer tells o when old new m redo (Err fault.NoMemory) = Unit {0}
SumAnswer tells o when old new m redo (Err _) = ⊥

-- a checkpoint stands, and the WAL is summed up to its redo point
pub record HasBegun (tells : Type 0) (o : Origin) (when : ℕ) (old new : Seen) (m : Listing)
    (redo : Redo) (b : Basis) : Type 0 where
  pub mid : List Entry
  pub flushed : Flushed
  pub checkpoint : HasCheckpointIn old.worker old.list mid redo flushed
  pub behind : IsPrefix mid new.list
  pub relseg : b.relseg ≡ o.settings.relseg
  pub prior : b.prior ≡ m
  pub apart : m.end ≤ redo.redo.0
  pub summed : IsSummedUp tells o when old new redo.redo.0 m.start (Ok b.summary)

-- why it doesn't
abbrev pub BeginRefusal :
    Type 0 → Origin → ℕ → Seen → Seen → Listing → IncrFault → Type 0
BeginRefusal tells o when old new m (fault.Overlap start end) =
    HasCheckpointAt old.worker (length old.list) new.list start.0 × (m.end ≡ end.0)
    × (start.0 < end.0)
BeginRefusal tells o when old new m (fault.Gap place) =
    (start : ℕ) × (m.end ≤ start)
    × IsSummedUp tells o when old new start m.start (Err (advance.Gap place))
BeginRefusal tells o when old new m (fault.WalFull n) =
    (n ≡ length new.list) × FindsNoRoomIn o.settings.segment old.worker (length old.list) new.list
BeginRefusal tells o when old new m (fault.StoreFailed area) = ShareRose area old new
BeginRefusal tells o when old new m fault.SumsFailed = ShareRose Sums old new
BeginRefusal tells o when old new m fault.NoMemory = Unit {0}
BeginRefusal tells o when old new m _ = ⊥

-- ---- the files

-- all files stand, and the backup's end
pub record IsSentWhole (tells : Type 0) (mib : ℕ) (old new : Seen) (b : Basis)
    (modified : List ℕ) (files : Option Files) (redo : Redo) (end : Lsn) (rows : List FileRow)
    : Type 0 where
  pub seen : List Entry
  pub later : IsPrefix old.list seen
  pub sends : SendsStore tells seen redo.redo.0 b modified files rows
  pub flushed : Flushed
  pub ends : HasEnded old.worker redo.redo.0 seen new.list end flushed
  pub placed : IsPlaced mib new.list end.0
  pub size : 1 ≤ mib

-- the WAL had no room for the backup's end; or a device failed: of the store one of whose faults
-- the pass's share rose, or the area's, whose count rose
abbrev pub SendCause :
    {V : Type 0} → Ghosts V → ℕ → Redo → Site V → Site V → BackupFault → Type 0
SendCause g mib redo old new backup.NotEmpty = ⊥
SendCause g mib redo old new (backup.WalFull n) =
    (n ≡ length new.seen.list) × HasNoRoom mib new.seen.list (Mark (BackupEnd redo.redo.0))
SendCause g mib redo old new (backup.StoreFailed which) = ShareRose which old.seen new.seen
SendCause g mib redo old new backup.OutFailed = Rose (g.faults old.out) (g.faults new.out)
SendCause g mib redo old new backup.NoMemory = Unit {0}
