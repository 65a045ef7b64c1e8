-- The backups of chains that a run answered, and that they make sound chains.
use Rattle.std.specs.Prelude.{◌≡◌, ℕ, ◌≤◌, max, List, [], ◌∷◌, ◌++◌, map, length, drop, slice_get, Some, IsSome}
use Rattle.std.specs.FinMap.{empty}
use Rattle.lsn_core.specs.Files.{Files}
use Rattle.lsn_core.specs.Segment.{StoreSettings}
use Rattle.lsn_core.specs.Store.{Store}
use Rattle.lsn_core.specs.declared.lsn.Lsn.{Lsn}
use Rattle.vault.specs.Site.{Areas}
use Rattle.vault.specs.Lending.{Names, IsOneOf}
use Rattle.history.specs.Entry.{Entry}
use Rattle.history.specs.Whole.{entry_of}
use Rattle.history.specs.fuzzy_copies.Covers.{AreTidy}
use Rattle.manifest.specs.Listing.{Listing}
use Rattle.backup_sending.specs.Directory.{IsDirectory, IsFullBackup, incr_label}
use Rattle.incr_backup.specs.Prior.{HasListing}
use Rattle.store_locks.specs.Seen.{accepted_by}
use Rattle.chain_laws.specs.Chain.{IsSoundChain}
use Rattle.command_base.specs.Areas.{backup_name, sums_name}
use Rattle.scripts.specs.declared.script.Command.TheVariants.{Incr}
use Rattle.scripts.specs.declared.script.Line.{Line}
use Rattle.run_answers.specs.declared.answer.Answer.{Answer}
use Rattle.run_answers.specs.declared.answer.Answer.TheVariants.{Backup}
use Rattle.crew.specs.Backups.{areas_asked}
use Rattle.crew.specs.Run.{Basis, Answered, IsHonestFor}
use Rattle.run_answers.specs.declared.told.Told.{Told}
use Rattle.run_answers.specs.declared.outcome.RunReport.{RunReport}
use Rattle.run_command.specs.Run.{RunDone, AreTold, all_records, backups_asked, run_basis, tasks_told}
use Rattle.backup_laws.specs.Runs.{IsBackedUp}

-- a worker's line took an incremental backup of this name, and was answered `backup START END`
pub record IsIncremented (told : List Told) (name : List ℕ) (start end : Lsn) : Type 0 where
  pub worker : ℕ
  pub by : Told
  pub there : slice_get told worker ≡ Some by
  pub number : ℕ
  pub line : Line
  pub prior : List ℕ
  -- the worker's lines behind this one, and its answers to them
  pub behind : List Line
  pub lines : drop number by.task.lines ≡ line ∷ behind
  pub takes : line.command ≡ Incr name prior
  pub later : List Answer
  pub answers : drop number by.answers ≡ Backup start end ∷ later

-- ---- areas that tell their files all the while

-- the areas of these names do
abbrev pub AllTell : Names → Areas → Type 0
AllTell names areas = (name : List ℕ) → IsOneOf name names → IsSome (areas name).files

-- so they do behind each of a worker's lines
abbrev pub TellBehindLines :
    (names : Names) (tells : Type 0) (b : Basis) (worker : ℕ) (history : List Entry) (from : ℕ)
    (lines : List Line) (answers : List Answer) (made : List Entry) (to : ℕ) (held new : Areas)
    → Answered tells b worker history from lines answers made to held new → Type 0
TellBehindLines names tells b worker history from [] answers made to held new a = Unit {0}
TellBehindLines names tells b worker history from (line ∷ lines) [] made to held new a = Unit {0}
TellBehindLines names tells b worker history from (line ∷ lines) (x ∷ answers) made to held new a =
    AllTell names a.3
    × TellBehindLines names tells b worker history a.0 lines answers a.2 to a.3 new a.8

-- where a run took an incremental backup, the area of summaries told its files when it began
abbrev pub SumsTold : List Told → Areas → Type 0
SumsTold told old =
    (name : List ℕ) (start end : Lsn) → IsIncremented told name start end
    → IsSome (old sums_name).files

-- all areas that a run's lines ask for tell their files when it begins, and those of its backups
-- behind each line
pub record TellsThroughout
    (when : ℕ) (old new : Areas) (report : RunReport) (run : RunDone when old new report)
    : Type 0 where
  pub store : AreTold old
  pub before : AllTell (backups_asked (tasks_told report.told)) old
  pub sums : SumsTold report.told old
  pub behind : (worker : ℕ) (t : Told) (there : slice_get report.told worker ≡ Some t)
      → TellBehindLines (areas_asked t.task.lines) (AreTold old)
      (run_basis run.settings when run.limit run.found old) worker run.history
      (length (map entry_of run.found)) t.task.lines t.answers (accepted_by worker run.history)
      (run.happened.answered worker t there).to (run.held worker) (run.kept worker)
      (run.happened.answered worker t there).answered

-- ---- what stands of a run's backups

-- what a run found is what this program's own runs leave: its entries are tidy, and the area of
-- summaries is honest for them
pub record FindsOwn
    (when : ℕ) (old new : Areas) (report : RunReport) (run : RunDone when old new report)
    : Type 0 where
  pub tidy : AreTidy empty (map entry_of run.found)
  pub honest : IsHonestFor (map entry_of run.found) (old sums_name)

-- files are the directory of a full backup of a name, and make a sound chain of one
pub record IsSoundFull
    (s : StoreSettings) (when : ℕ) (history : List Entry) (name : List ℕ) (start end : Lsn)
    (files : Files)
    : Type 0 where
  pub copy : Store
  pub checkpoint : Lsn
  pub count : ℕ
  pub directory : IsFullBackup s name when copy start checkpoint end count (Some files)
  pub sound : IsSoundChain s.relseg history (files ∷ []) start.0 end.0

-- files are the directory of an incremental backup of a name. It names the start of the prior
-- backup's manifest as its prior LSN, and extends each chain that is sound from there, up to the
-- later of both ends
pub record IsSoundIncrement
    (s : StoreSettings) (when : ℕ) (history : List Entry) (name : List ℕ) (start end : Lsn)
    (prior files : Files)
    : Type 0 where
  pub manifest : Listing
  pub listing : HasListing prior manifest
  pub behind : manifest.end ≤ start.0
  pub checkpoint : Lsn
  pub put : List (List ℕ × List ℕ)
  pub count : ℕ
  pub directory : IsDirectory s
      (λ begun. incr_label start checkpoint (record { 0 = manifest.start }) begun name) when put
      start end count (Some files)
  pub extends : (chain : List Files) (to : ℕ)
      → IsSoundChain s.relseg history chain manifest.start to
      → IsSoundChain s.relseg history (chain ++ (files ∷ [])) start.0 (max to end.0)

-- each full backup that a run answered is a sound chain of one, for the history that the run came
-- to
abbrev pub FullBackupsOfRunsAreSound : Type 0
FullBackupsOfRunsAreSound =
    (when : ℕ) (old new : Areas) (report : RunReport) (run : RunDone when old new report)
    (name : List ℕ) (start end : Lsn) (taken : IsBackedUp report.told name start end)
    → TellsThroughout when old new report run
    → (files : Files) × ((new (backup_name name)).files ≡ Some files)
    × IsSoundFull run.settings when run.history name start end files

-- and each incremental one extends the sound chains of that history on which it was taken
abbrev pub IncrementsOfRunsExtendChains : Type 0
IncrementsOfRunsExtendChains =
    (when : ℕ) (old new : Areas) (report : RunReport) (run : RunDone when old new report)
    (name : List ℕ) (start end : Lsn) (taken : IsIncremented report.told name start end)
    → TellsThroughout when old new report run → FindsOwn when old new report run
    → (prior : Files) × ((new (backup_name taken.prior)).files ≡ Some prior)
    × (files : Files) × ((new (backup_name name)).files ≡ Some files)
    × IsSoundIncrement run.settings when run.history name start end prior files

-- a chain that is sound for the entries that a run found is sound for the history that it came to,
-- and then for all records of the WAL that it left
abbrev pub RunsKeepChainsSound : Type 0
RunsKeepChainsSound =
    (when : ℕ) (old new : Areas) (report : RunReport) (run : RunDone when old new report)
    (chain : List Files) (from to : ℕ)
    → AreTold old
    → (IsSoundChain run.settings.relseg (map entry_of run.found) chain from to
    → IsSoundChain run.settings.relseg run.history chain from to)
    × (IsSoundChain run.settings.relseg run.history chain from to
    → IsSoundChain run.settings.relseg
    (map entry_of (all_records run.settings run.found run.history)) chain from to)
