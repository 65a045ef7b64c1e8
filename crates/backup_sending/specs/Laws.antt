-- What holds of finished backups, among the entries of several workers.
use Rattle.std.specs.Prelude.{◌≡◌, ◌≤◌, ◌&&◌, ◌==◌, ℕ, Bool, true, List, ◌++◌, length, Option}
use Rattle.std.specs.List.{list_any}
use mathlib.Core.List.{IsPrefix}
use Rattle.lsn_core.specs.Files.{Files}
use Rattle.lsn_core.specs.Segment.{StoreSettings}
use Rattle.history.specs.Entry.{Entry}
use Rattle.history.specs.Written.{is_redo}
use Rattle.history.specs.fuzzy_copies.Sound.{IsSoundCopy}
use Rattle.history.specs.fuzzy_copies.Taken.{IsSeen}
use Rattle.journal.specs.Lawful.{IsLawful}
use Rattle.store_locks.specs.Seen.{Seen}
use Rattle.store_locks.specs.Copied.{HasRedoPoint}
use Rattle.backup_sending.specs.declared.done.Done.{Done}
use Rattle.backup_sending.specs.Backup.{IsTakenFull}
use Rattle.backup_sending.specs.Entries.{HasCheckpointAt, HasBackupEndAt}

-- the copy of a finished backup is sound, from its start to its end, for every lawful history that
-- goes on from what its worker has seen then, where that is told
abbrev pub FullBackupsAreSound : Type 0
FullBackupsAreSound =
    (tells : Bool) (settings : StoreSettings) (name : List ℕ) (when : ℕ) (old new : Seen)
    (files : Option Files) (done : Done)
    (taken : IsTakenFull (tells ≡ true) settings name when old new files done)
    (history : List Entry)
    → tells ≡ true → IsPrefix new.list history → IsLawful settings.segment history
    → IsSoundCopy taken.copy history done.start.0 done.end.0

-- a checkpoint of this run leaves its redo point in what has been seen then
abbrev pub CheckpointsHaveRedoPoints : Type 0
CheckpointsHaveRedoPoints =
    (worker before : ℕ) (now : List Entry) (redo : ℕ)
    → HasCheckpointAt worker before now redo → HasRedoPoint now redo

-- what a worker had seen before it ended its backup it had seen behind the backup's start and
-- before its end, however many entries of others stand between
abbrev pub BackupsEndBehind : Type 0
BackupsEndBehind =
    (worker start from : ℕ) (seen old new : List Entry) (end : ℕ)
    → HasRedoPoint seen from → IsPrefix seen old → IsPrefix old new
    → HasBackupEndAt worker (length old) new start end → IsSeen seen new from end

-- a redo point of a checkpoint behind what a run found is one of the run's own entries
abbrev pub RedoPointsAreOwn : Type 0
RedoPointsAreOwn =
    (worker before : ℕ) (found own : List Entry) (redo : ℕ)
    → length found ≤ before → HasCheckpointAt worker before (found ++ own) redo
    → list_any (λ e. is_redo e.act && (e.start == redo)) own ≡ true
