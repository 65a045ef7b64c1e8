-- What is kept of an area of summaries when more are published there, and where what nothing covers
-- of the WAL since a prior backup lies.
use Rattle.std.specs.Prelude.{◌≡◌, ◌<◌, ◌≤◌, ℕ, Bool, true, List, ◌∷◌, ◌++◌, drop, length, slice_get, Some, Err}
use Rattle.std.specs.List.{list_any}
use mathlib.Core.List.{IsPrefix}
use Rattle.lsn_core.specs.Files.{Files}
use Rattle.lsn_core.specs.declared.lsn.Lsn.{Lsn}
use Rattle.vault.specs.Site.{Areas}
use Rattle.vault.specs.declared.area.Vault.{Ghosts}
use Rattle.history.specs.Entry.{Entry}
use Rattle.wal_summary.specs.declared.summary.Summary.{Summary}
use Rattle.wal_summary.specs.Kept.{AreInOrder, IsCovering, IsGap}
use Rattle.manifest.specs.Listing.{Listing}
use Rattle.summary_store.specs.Kept.{AreKept, end_behind}
use Rattle.summary_store.specs.Expiry.{young, unexpired}
use Rattle.summary_store.specs.Honest.{is_redo_start}
use Rattle.shared_summaries.specs.summary_publish.Entries.{first_start}
use Rattle.shared_summaries.specs.summary_publish.Published.{ArePublished, AdvancesTo, with_files}
use Rattle.shared_summaries.specs.declared.summary_publish.known.Known.{Known}
use Rattle.shared_summaries.specs.Grown.{IsOldGap}
use Rattle.shared_summaries.specs.Shelf.{states}
use Rattle.backup_sending.specs.Entries.{HasCheckpointAt}
use Rattle.incr_backup.specs.Incr.{IncrSite, Origin, IsPrior, IncrAnswers}
use Rattle.store_faults.specs.declared.incr_fault.IncrFault.TheVariants.{Gap}
use Rattle.command_base.specs.Areas.{backup_name, sums_name}
use Rattle.scripts.specs.declared.script.Command.TheVariants.{Incr}
use Rattle.scripts.specs.declared.script.Line.{Line}
use Rattle.run_answers.specs.declared.answer.Answer.{Answer}
use Rattle.run_answers.specs.declared.answer.Answer.TheVariants.{IncrRefused}
use Rattle.crew.specs.Run.{IsPriorOf}
use Rattle.run_answers.specs.declared.told.Told.{Told}
use Rattle.run_answers.specs.declared.outcome.RunReport.{RunReport}
use Rattle.run_command.specs.Run.{RunDone, AreTold}

-- ---- what is kept

-- of an area's files one list of summaries is kept
abbrev pub FilesKeepOneList : Type 0
FilesKeepOneList =
    (files : Files) (one other : List Summary) → AreKept files one → AreKept files other
    → one ≡ other

-- behind those that were kept all are kept that were published, whatever other files there are
abbrev pub PublishedAreKept : Type 0
PublishedAreKept =
    (history : List Entry) (made : ℕ) (files : Files) (kept sums : List Summary)
    → AreKept files kept → ArePublished history made files kept sums
    → AreKept (with_files sums files) (kept ++ sums)

-- an expiry takes the old ones alone, and never the last one
abbrev pub OldOnesExpire : Type 0
OldOnesExpire =
    (limit : ℕ) (kept : List Summary)
    → (young limit (unexpired limit kept) ≡ young limit kept)
    × ((low : ℕ) → end_behind low (unexpired limit kept) ≡ end_behind low kept)

-- ---- a range up to a redo point of a history

-- an area tells its files, of which these are kept
pub record KeptBefore {V : Type 0} (g : Ghosts V) (area : V) (kept : List Summary) : Type 0 where
  pub files : Files
  pub told : g.files area ≡ Some files
  pub held : AreKept files kept

-- where `advance_covering` finds a gap below a redo point, it is such a place: behind what was kept
-- before and isn't old all is covered
abbrev pub GapsAreOld : {V : Type 0} → Ghosts V → Type 0
GapsAreOld {V} g =
    (tells : Bool) (history : List Entry) (made limit from to : ℕ) (old new : V)
    (before known : Known) (place : Lsn) (files : Files)
    → tells ≡ true → limit ≤ made → list_any (is_redo_start to) history ≡ true
    → g.files old ≡ Some files
    → (a : AdvancesTo g (tells ≡ true) history made limit old new before known
    (λ kept. IsGap kept from to place.0))
    → IsOldGap (first_start history) limit a.advanced.kept from to place.0

-- and where it answers a summary, what is kept then goes up to the end of the range at least
abbrev pub AnswersAreCovered : {V : Type 0} → Ghosts V → Type 0
AnswersAreCovered {V} g =
    (tells : Bool) (history : List Entry) (made limit from to : ℕ) (old new : V)
    (before known : Known) (sum : Summary)
    → from < to
    → (a : AdvancesTo g (tells ≡ true) history made limit old new before known
    (λ kept. IsCovering kept from to sum))
    → AreInOrder 0 a.advanced.now → to ≤ end_behind 0 a.advanced.now

-- ---- incremental backups

-- a prior backup and the start of a checkpoint, between which there is such a gap: at its start or
-- past it, and below the new backup's start
pub record HasOldGap {V : Type 0} (g : Ghosts V) (o : Origin) (old new : IncrSite V)
    (kept : List Summary) (place : ℕ) : Type 0 where
  pub prior : Listing
  pub start : ℕ
  pub taken : IsPrior g o old prior start
  pub begins : HasCheckpointAt old.seen.worker (length old.seen.list) new.seen.list start
  pub gap : IsOldGap (first_start new.seen.list) o.limit kept prior.start start place

-- summaries that the area kept when the run began, which found an entry and of which a worker has
-- seen what it found
pub record KeptAtFirst (o : Origin) (seen : List Entry) (kept : List Summary) : Type 0 where
  pub some : 0 < length o.found
  pub found : IsPrefix o.found seen
  pub files : Files
  pub told : o.sums ≡ Some files
  pub held : AreKept files kept

-- a place that an incremental backup is refused for, since nothing covers it, is one, whatever
-- other workers published since
abbrev pub RefusedGapsAreOld : {V : Type 0} → Ghosts V → Type 0
RefusedGapsAreOld {V} g =
    (tells : Bool) (o : Origin) (name : List ℕ) (when : ℕ) (old new : IncrSite V) (place : Lsn)
    (kept : List Summary)
    → tells ≡ true → KeptAtFirst o new.seen.list kept
    → IncrAnswers g (tells ≡ true) o name when old new (Err (Gap place))
    → HasOldGap g o old new kept place.0

-- ---- runs

-- a worker's line was refused an incremental backup for a place that nothing covers
pub record IsRefusedFor (told : List Told) (place : Lsn) : Type 0 where
  pub worker : ℕ
  pub by : Told
  pub there : slice_get told worker ≡ Some by
  pub number : ℕ
  pub line : Line
  -- the worker's lines behind this one, and its answers to them
  pub behind : List Line
  pub lines : drop number by.task.lines ≡ line ∷ behind
  pub later : List Answer
  pub answers : drop number by.answers ≡ IncrRefused (Gap place) ∷ later

-- the manifest that the prior backup's area told then, and the start of the line's checkpoint,
-- between which the gap lies
pub record HasGapOfRun
    (system limit : ℕ) (history : List Entry) (kept : List Summary) (line : Line) (place : ℕ)
    : Type 0 where
  pub name : List ℕ
  pub prior : List ℕ
  pub takes : line.command ≡ Incr name prior
  pub areas : Areas
  pub manifest : Listing
  pub start : ℕ
  pub taken : IsPriorOf system (areas (backup_name prior)) manifest start
  pub redo : list_any (is_redo_start start) history ≡ true
  pub gap : IsOldGap (first_start history) limit kept manifest.start start place

-- where a run's areas tell their files, such a place is one that no summary covers that the area
-- kept when the run began and that isn't old, and it is below their greatest end or the start of
-- the WAL's first entry
abbrev pub GapsOfRunsAreOld : Type 0
GapsOfRunsAreOld =
    (when : ℕ) (old new : Areas) (report : RunReport) (run : RunDone when old new report)
    (place : Lsn) (kept : List Summary)
    → AreTold old → (refused : IsRefusedFor report.told place)
    → KeptBefore states (old sums_name) kept
    → HasGapOfRun run.settings.system run.limit run.history kept refused.line place.0
