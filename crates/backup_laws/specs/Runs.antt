-- The backups that a run answered, and that replay of the WAL completes them.
use Rattle.std.specs.Prelude.{◌≡◌, ℕ, List, ◌∷◌, map, drop, slice_get, Option, Some}
use Rattle.lsn_core.specs.Files.{Files}
use Rattle.lsn_core.specs.Segment.{StoreSettings}
use Rattle.lsn_core.specs.Store.{Store}
use Rattle.lsn_core.specs.declared.lsn.Lsn.{Lsn}
use Rattle.vault.specs.Site.{Areas, AreaState, IsStill}
use Rattle.vault.specs.Lending.{IsNoneOf}
use Rattle.wal_record.specs.declared.record.Record.{Record}
use Rattle.history.specs.Whole.{entry_of}
use Rattle.history.specs.fuzzy_copies.Sound.{IsSoundCopy}
use Rattle.backup_sending.specs.Directory.{IsFullBackup}
use Rattle.command_base.specs.Areas.{backup_name, AreaIsDurable}
use Rattle.scripts.specs.declared.script.Command.TheVariants.{Full}
use Rattle.scripts.specs.declared.script.Line.{Line}
use Rattle.run_answers.specs.declared.answer.Answer.{Answer}
use Rattle.run_answers.specs.declared.answer.Answer.TheVariants.{Backup}
use Rattle.crew.specs.Backups.{areas_asked}
use Rattle.run_answers.specs.declared.told.Told.{Told}
use Rattle.run_answers.specs.declared.outcome.RunReport.{RunReport}
use Rattle.run_command.specs.Run.{RunDone, AreTold, all_records}

-- a worker's line took a backup of this name, and was answered `backup START END`
pub record IsBackedUp (told : List Told) (name : List ℕ) (start end : Lsn) : Type 0 where
  pub worker : ℕ
  pub by : Told
  pub there : slice_get told worker ≡ Some by
  pub number : ℕ
  pub line : Line
  -- the worker's lines behind this one, and its answers to them
  pub behind : List Line
  pub lines : drop number by.task.lines ≡ line ∷ behind
  pub takes : line.command ≡ Full name
  pub later : List Answer
  pub answers : drop number by.answers ≡ Backup start end ∷ later

-- no line of the worker behind it takes a backup of the same name
abbrev pub IsLastOfName :
    (told : List Told) (name : List ℕ) (start end : Lsn) → IsBackedUp told name start end → Type 0
IsLastOfName told name start end taken = IsNoneOf (backup_name name) (areas_asked taken.behind)

-- an area's files are the directory of a full backup of a name, of a copy that replay completes
-- from its start on, for each place from its end on, over a WAL of these records
pub record IsSoundBackup
    (s : StoreSettings) (when : ℕ) (records : List Record) (name : List ℕ) (start end : Lsn)
    (files : Option Files)
    : Type 0 where
  pub copy : Store
  pub checkpoint : Lsn
  pub count : ℕ
  pub directory : IsFullBackup s name when copy start checkpoint end count files
  pub sound : IsSoundCopy copy (map entry_of records) start.0 end.0

-- each backup that a run answered is one, over all records of the WAL that the run came to, of the
-- files that its area had then, durably; and has still, where no later line takes one of its name
abbrev pub BackupsOfRunsAreSound : Type 0
BackupsOfRunsAreSound =
    (when : ℕ) (old new : Areas) (report : RunReport) (run : RunDone when old new report)
    (name : List ℕ) (start end : Lsn) (taken : IsBackedUp report.told name start end)
    → AreTold old
    → (area : AreaState)
    × IsSoundBackup run.settings when (all_records run.settings run.found run.history)
    name start end area.files
    × AreaIsDurable area
    × (IsLastOfName report.told name start end taken → IsStill area (new (backup_name name)))
