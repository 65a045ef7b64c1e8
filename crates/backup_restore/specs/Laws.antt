-- That restores of the same files answer the same.
use Rattle.std.specs.Prelude.{◌≡◌, List, Option, Some, IsSome, Result, Ok, Err}
use Rattle.lsn_core.specs.Files.{Files}
use Rattle.lsn_core.specs.Segment.{StoreSettings}
use Rattle.lsn_core.specs.declared.lsn.Lsn.{Lsn}
use Rattle.recovery.specs.declared.replaying.Replayed.{Replayed}
use Rattle.recovery.specs.Causes.{IsOfFiles}
use Rattle.chain_files.specs.Segments.{AllHaveForms}
use Rattle.backup_restore.specs.declared.fault.RestoreFault.{RestoreFault}
use Rattle.backup_restore.specs.declared.fault.RestoreFault.TheVariants.{Backup, Wal, Out}
use Rattle.backup_restore.specs.Restored.{RestoreAreas, IsRestored, RestoreAnswer}

-- a restore of these files of a chain and of the WAL, whose output tells its files
pub record IsRestoreOf (wal : Files) (chain : List Files) (old : RestoreAreas) : Type 0 where
  pub wal_told : old.wal.files ≡ Some wal
  pub chain_told : old.chain ≡ Some chain
  pub forms : AllHaveForms chain
  pub out_told : IsSome old.out.files

-- two restores of the same files from the same place on, up to the same target, answer the same and
-- leave the same files
abbrev pub RestoresHaveOneAnswer : Type 0
RestoresHaveOneAnswer =
    (s : StoreSettings) (start : Lsn) (upto : Option Lsn) (wal : Files) (chain : List Files)
    (old new before behind : RestoreAreas) (one other : Replayed)
    → IsRestoreOf wal chain old → IsRestoreOf wal chain before
    → IsRestored s start upto old new one → IsRestored s start upto before behind other
    → (one ≡ other) × (new.out.files ≡ behind.out.files)

-- an answer that the files decide, and no failed device and no want of memory
abbrev pub FilesDecide : Result Replayed RestoreFault → Type 0
FilesDecide (Ok replayed) = Unit {0}
FilesDecide (Err (Backup fault)) = ⊥
FilesDecide (Err (Wal why)) = IsOfFiles why
FilesDecide (Err (Out why)) = ⊥

-- two restores of the same files from the same place on, up to the same target, are both done, or
-- refused for one reason, as far as the files decide it
abbrev pub RestoresEndAlike : Type 0
RestoresEndAlike =
    (s : StoreSettings) (start : Lsn) (upto : Option Lsn) (wal : Files) (chain : List Files)
    (old new before behind : RestoreAreas) (a b : Result Replayed RestoreFault)
    → IsRestoreOf wal chain old → IsRestoreOf wal chain before
    → RestoreAnswer s start upto old new a → RestoreAnswer s start upto before behind b
    → FilesDecide a → FilesDecide b → a ≡ b
