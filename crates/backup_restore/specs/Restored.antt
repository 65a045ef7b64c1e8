-- What is restored of a chain of backups and of the WAL.
use Rattle.std.specs.Prelude.{◌≡◌, ◌≤◌, ℕ, List, Option, Some, Result, Ok, Err, IsSome, IfSome}
use Rattle.std.specs.FinMap.{len}
use Rattle.lsn_core.specs.Causes.{Rose}
use Rattle.lsn_core.specs.Files.{Files}
use Rattle.lsn_core.specs.declared.fault.AreaFault.{AreaFault}
use Rattle.lsn_core.specs.declared.fault.AreaFault.TheVariants.{Failed}
use Rattle.lsn_core.specs.declared.lsn.Lsn.{Lsn}
use Rattle.lsn_core.specs.Segment.{StoreSettings}
use Rattle.lsn_core.specs.Store.{Store, files_of}
use Rattle.lsn_core.specs.Tip.{Tip}
use Rattle.vault.specs.Site.{AreaState}
use Rattle.wal_archive.specs.Rules.{End}
use Rattle.wal_record.specs.declared.record.Record.{Record}
use Rattle.history.specs.Pages.{page_count}
use Rattle.history.specs.Redo.{redo_all}
use Rattle.rel_files.specs.Forks.{Holds, HasWholePages}
use Rattle.recovery.specs.declared.reading.Beginning.TheVariants.{AtPlace}
use Rattle.recovery.specs.declared.replaying.Replayed.{Replayed}
use Rattle.recovery.specs.Onward.{IsReadFrom, IsReadFromTo, replayed_to, ending_by, end_from}
use Rattle.recovery.specs.Recovered.{first_bad_redo}
use Rattle.recovery.specs.Causes.{RecoveryCauses, CauseOf, reading_causes}
use Rattle.chain_files.specs.declared.fault.MemberFault.{MemberFault}
use Rattle.chain_files.specs.Held.{IsStoreOfChain}
use Rattle.chain_files.specs.Sources.{OfChain}
use Rattle.backup_restore.specs.declared.fault.RestoreFault.{RestoreFault}
use Rattle.backup_restore.specs.declared.fault.RestoreFault.TheVariants.{Backup, Wal, Out}

-- the areas of the WAL, of a chain of backups and of an output
pub record RestoreAreas : Type 0 where
  pub wal : AreaState
  pub chain : Option (List Files)  -- the files of its directories, the oldest first
  pub faults : ℕ → ℕ  -- the counts of faults of the areas that hold them, by their places
  pub out : AreaState

-- the entries that end at a place or before it were redone over the store that the chain holds, and
-- the output's files are those of what they made, a store of whole pages, and hold just that, with
-- so many forks and pages
pub record MakesOf
    (relseg : ℕ) (chain : List Files) (entries : List Record) (place : ℕ) (replayed : Replayed)
    (out : Option Files)
    : Type 0 where
  pub copy : Store
  pub held : IsStoreOfChain relseg chain copy
  pub store : Store
  pub redone : redo_all copy (ending_by place entries) ≡ Some store
  pub written : out ≡ Some (files_of relseg store)
  pub holds : Holds relseg (files_of relseg store) store
  pub pages_whole : HasWholePages store
  pub forks : replayed.forks ≡ len store
  pub pages : replayed.pages ≡ page_count store

-- the WAL was read from a place on, up to a target or to its end, and redone over what the chain
-- holds, where both it and the output tell their files
pub record IsRestored
    (s : StoreSettings) (start : Lsn) (upto : Option Lsn) (old new : RestoreAreas)
    (replayed : Replayed)
    : Type 0 where
  pub entries : List Record
  pub read : IsReadFromTo s old.wal.files (AtPlace start) upto entries replayed.tip
  pub end : replayed.end.0
      ≡ end_from s.segment (AtPlace start) (ending_by (replayed_to upto replayed.tip) entries)
  pub made : IsSome old.out.files → OfChain old.chain (λ chain.
      MakesOf s.relseg chain entries (replayed_to upto replayed.tip) replayed new.out.files)

-- the archive is read up to the target, and over the store that the chain holds the entry at a
-- place is the first of those that end at the target or before it which can't be redone
pub record HasBadEntry
    (s : StoreSettings) (wal : Files) (chain : List Files) (start : Lsn) (upto : Option Lsn)
    (place : Lsn)
    : Type 0 where
  pub entries : List Record
  pub last : Tip
  pub read : IsReadFrom s wal (AtPlace start) upto entries last End
  pub reached : replayed_to upto last ≤ last.end
  pub copy : Store
  pub held : IsStoreOfChain s.relseg chain copy
  pub bad : first_bad_redo copy (ending_by (replayed_to upto last) entries) ≡ Some place.0

abbrev pub restore_causes : StoreSettings → Lsn → Option Lsn → RestoreAreas → RecoveryCauses
restore_causes s start upto old =
    record (reading_causes s (AtPlace start) upto old.wal.files) {
      bad = λ place. IsSome old.out.files → OfChain old.chain (λ chain.
          IfSome old.wal.files (λ w. HasBadEntry s w chain start upto place));
    }

-- a call on an area failed, whose count rose
abbrev pub FailsIn : AreaState → AreaState → AreaFault → Type 0
FailsIn old new why = why ≡ Failed → Rose old.faults new.faults

-- one on the area of a member did
abbrev pub MemberFails : (ℕ → ℕ) → (ℕ → ℕ) → MemberFault → Type 0
MemberFails old new fault = fault.why ≡ Failed → Rose (old fault.area) (new fault.area)

-- why a restore comes to its answer
abbrev pub RestoreAnswer : StoreSettings → Lsn → Option Lsn → RestoreAreas → RestoreAreas
    → Result Replayed RestoreFault → Type 0
RestoreAnswer s start upto old new (Ok replayed) = IsRestored s start upto old new replayed
RestoreAnswer s start upto old new (Err (Wal why)) =
    CauseOf (restore_causes s start upto old) old.wal.faults new.wal.faults why
RestoreAnswer s start upto old new (Err (Backup fault)) = MemberFails old.faults new.faults fault
RestoreAnswer s start upto old new (Err (Out why)) = FailsIn old.out new.out why
