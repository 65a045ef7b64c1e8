-- What the lines of a worker are answered, over the history that it has seen.
use Rattle.std.specs.Prelude.{◌≡◌, ◌≢◌, ℕ, ◌+◌, ◌<◌, ◌≤◌, ◌⊎◌, ◌||◌, Bool, true, false, List, [], ◌∷◌, ◌++◌, map, length, take, slice_get, Option, Some, None, IsSome, IfSome, Ok, Err}
use Rattle.std.specs.List.{All, sum_by}
use Rattle.std.specs.Option.{is_some}
use Rattle.std.specs.FinMap.{empty}
use mathlib.Core.List.{IsPrefix}
use Rattle.lsn_core.specs.declared.ids.BlockId.{BlockId}
use Rattle.lsn_core.specs.declared.lsn.Place.{Place}
use Rattle.lsn_core.specs.declared.fault.MarkFault.{MarkFault}
use Rattle.lsn_core.specs.declared.fault.MarkFault.TheVariants as mark
use Rattle.lsn_core.specs.declared.fault.StoreArea.{StoreArea}
use Rattle.lsn_core.specs.declared.fault.StoreArea.TheVariants.{Sums}
use Rattle.lsn_core.specs.declared.fault.StoreFault.TheVariants as store
use Rattle.lsn_core.specs.Causes.{Rose}
use Rattle.lsn_core.specs.Files.{Files}
use Rattle.lsn_core.specs.Segment.{StoreSettings}
use Rattle.lsn_core.specs.Store.{Store}
use Rattle.lsn_core.specs.declared.lsn.Lsn.{Lsn}
use Rattle.lsn_core.specs.declared.ids.ForkLen.{ForkLen}
use Rattle.vault.specs.Site.{Areas, AreaState, IsStill}
use Rattle.vault.specs.Lending.{Names, IsOneOf, IsNoneOf}
use Rattle.history.specs.declared.op.Op.{Op}
use Rattle.history.specs.Entry.{Entry}
use Rattle.history.specs.fuzzy_copies.Taken.{IsTaken}
use Rattle.history.specs.Apply.{apply_all}
use Rattle.history.specs.Op.{act_of_op}
use Rattle.history.specs.Written.{record_of, tip_of}
use Rattle.store_faults.specs.declared.insert_fault.InsertFault.{InsertFault}
use Rattle.store_faults.specs.declared.insert_fault.InsertFault.TheVariants as insert
use Rattle.store_locks.specs.Seen.{Seen, StaysBy, ShareRose, accepted_by, marks_by}
use Rattle.store_locks.specs.Refusals.{judged_at, IsRefusedBehind}
use Rattle.shared_store.specs.Shared.{FindsNoRoomIn}
use Rattle.store_faults.specs.declared.backup_fault.BackupFault.{BackupFault}
use Rattle.store_faults.specs.declared.backup_fault.BackupFault.TheVariants as backup
use Rattle.backup_files.specs.Area.{HoldsNothing, HoldsSomething, KeepsManifest, RoseTwice}
use Rattle.backup_sending.specs.Entries.{HasCheckpointAt, HasBackupAt, MeetsFullWal}
use Rattle.incr_backup.specs.Incr.{SumsUp}
use Rattle.backup_sending.specs.Directory.{IsFullBackup, IsDirectory, incr_label}
use Rattle.backup_sending.specs.declared.basis.Basis.{Basis as Plan}
use Rattle.store_faults.specs.declared.incr_fault.IncrFault.{IncrFault}
use Rattle.store_faults.specs.declared.incr_fault.IncrFault.TheVariants as incr
use Rattle.incr_backup.specs.Prior.{HasListing, IsOfStore, PriorAnswer}
use Rattle.backup_sending.specs.Sent.{SentFile, AreListed, AreSent, file_of}
use Rattle.manifest.specs.Listing.{Listing}
use Rattle.command_base.specs.Areas.{backup_name, AreaIsDurable}
use Rattle.scripts.specs.declared.script.Command.{Command}
use Rattle.scripts.specs.declared.script.Command.TheVariants as command
use Rattle.scripts.specs.declared.script.Line.{Line}
use Rattle.scripts.specs.declared.order.Order.{Order}
use Rattle.run_answers.specs.Stopping.{stop_of, is_not_run, stops_with}
use Rattle.run_answers.specs.declared.answer.Answer.{Answer}
use Rattle.run_answers.specs.declared.answer.Answer.TheVariants.{Accepted, Refused, Grown, Stopped, Redo, CheckpointRefused, Wrote, Published, CallFailed, Backup, BackupRefused, IncrRefused, NotRun}
use Rattle.run_answers.specs.declared.answer.Stop.{Stop}
use Rattle.run_answers.specs.declared.answer.Stop.TheVariants as stop
use Rattle.crew.specs.Backups.{area_asked, areas_asked}
use Rattle.scripts.specs.Named.{backup_taken, prior_taken}
use Rattle.scripts.specs.Orders.{op_asked, grow_op, grow_ops}
use Rattle.scripts.specs.Shape.{Shape}
use Rattle.summary_store.specs.Honest.{IsHonest}
use Rattle.shared_summaries.specs.Shelf.{HasPublished}
use Rattle.store_faults.specs.declared.advance_fault.AdvanceFault.TheVariants as advance

-- ---- commands in a history

-- nothing refuses a command behind a history, and the entry of it, by a worker, stands where its
-- record is written next
pub record IsTakenAt (mib : ℕ) (before : List Entry) (asked : Op) (entry : Entry) : Type 0 where
  pub store : Store
  pub state : apply_all empty before ≡ Some store
  pub taken : judged_at mib store (tip_of mib before) asked ≡ None
  pub start : entry.start ≡ (record_of mib store (tip_of mib before) (act_of_op asked)).start.0
  pub end : entry.end ≡ (record_of mib store (tip_of mib before) (act_of_op asked)).end.0

-- the entry of this number is the command's, by the worker, with the number of its commands that
-- were accepted before; and, where areas tell their files, nothing refuses the command there
pub record IsMade (tells : Type 0) (mib worker : ℕ) (history : List Entry) (number : ℕ)
    (asked : Op) (entry : Entry) : Type 0 where
  pub there : slice_get history number ≡ Some entry
  pub act : entry.act ≡ act_of_op asked
  pub by : entry.worker ≡ Some worker
  pub seq : entry.seq ≡ Some (length (accepted_by worker (take number history)))
  pub told : tells → IsTakenAt mib (take number history) asked entry

-- the entries of commands in turn, from a moment on
abbrev pub Made : Type 0 → ℕ → ℕ → List Entry → ℕ → List Op → List Entry → Type 0
Made tells mib worker history from [] [] = from ≤ length history
Made tells mib worker history from [] (entry ∷ entries) = ⊥
Made tells mib worker history from (asked ∷ ops) [] = ⊥
Made tells mib worker history from (asked ∷ ops) (entry ∷ entries) =
    (number : ℕ) × (from ≤ number)
    × IsMade tells mib worker history number asked entry
    × Made tells mib worker history (number + 1) ops entries

-- where entries begin and end, one behind the other
abbrev pub span_end : ℕ → List Entry → ℕ
span_end end [] = end
span_end end (entry ∷ entries) = span_end entry.end entries

abbrev pub span_of : List Entry → Place
span_of [] = record { start = record { 0 = 0 }; end = record { 0 = 0 } }
span_of (entry ∷ entries) = record {
  start = record { 0 = entry.start };
  end = record { 0 = span_end entry.end entries };
}

-- where areas tell their files, a command is refused so behind a history
abbrev pub IsRefusedNow : Type 0 → ℕ → List Entry → Op → InsertFault → Type 0
IsRefusedNow tells mib now asked why = tells → IsRefusedBehind mib now asked why

-- ---- checkpoints in a history

-- a checkpoint was refused for want of room in the WAL, which it met behind all that was seen then;
-- want of memory and devices that fail may come at any time
abbrev pub IsCheckpointRefused : ℕ → ℕ → ℕ → List Entry → MarkFault → Type 0
IsCheckpointRefused mib worker before now (mark.Failed area) = Unit {0}
IsCheckpointRefused mib worker before now (mark.WalFull n) =
    (n ≡ length now) × FindsNoRoomIn mib worker before now
IsCheckpointRefused mib worker before now mark.NoMemory = Unit {0}

-- ---- backups

-- what lines run on: the settings of the store, the moment of their backups, the entries that the
-- run found, the files that the area of summaries had then, where it told them, and the moment
-- before which a summary is old that was made then
pub record Basis : Type 0 where
  pub settings : StoreSettings
  pub when : ℕ
  pub found : List Entry
  pub sums : Option Files
  pub limit : ℕ

abbrev pub basis_of : StoreSettings → ℕ → List Entry → Option Files → ℕ → Basis
basis_of settings when found sums limit =
    record { settings = settings; when = when; found = found; sums = sums; limit = limit }

-- files are the directory of that backup under a name. Its pages were copied, each at a moment of
-- its own, while this history was written
pub record HoldsBackup (tells : Type 0) (b : Basis) (worker before : ℕ) (now : List Entry)
    (name : List ℕ) (start end : Lsn) (files : Option Files) : Type 0 where
  pub copy : Store
  pub checkpoint : ℕ
  pub count : ℕ
  pub entries : HasBackupAt worker before now start.0 checkpoint end.0
  pub directory : IsFullBackup b.settings name b.when copy
      start (record { 0 = checkpoint }) end count files
  pub taken : tells → IsTaken copy now start.0 end.0

-- it does, wherever the backup starts and ends
abbrev pub HoldsSomeBackup :
    Type 0 → Basis → ℕ → ℕ → List Entry → List ℕ → Option Files → Type 0
HoldsSomeBackup tells b worker before now name files =
    (start : Lsn) × (end : Lsn) × HoldsBackup tells b worker before now name start end files

-- of the areas that a worker holds this one alone may have changed, and its count didn't fall
pub record OnlyAt (name : List ℕ) (held mid : Areas) : Type 0 where
  pub others : (n : List ℕ) → n ≢ name → mid n ≡ held n
  pub later : (held name).faults ≤ (mid name).faults

-- nothing happened to the files of an area that held one
abbrev pub StaysFull : AreaState → AreaState → Type 0
StaysFull old new = IfSome old.files (λ m. m ≢ empty → IsStill old new)

-- why a backup into an area was refused, and what it left there: no manifest, in an area that held
-- none. Where its device failed in the manifest's removal too, or memory was missing then, one may
-- be left: a part of it, or the whole
abbrev pub IsBackupRefused :
    Type 0 → Basis → ℕ → ℕ → List Entry → List ℕ → AreaState → AreaState → BackupFault → Type 0
IsBackupRefused tells b worker before now name old new backup.NotEmpty =
    HoldsSomething old.files × (length now ≡ before) × KeepsManifest old.files new.files
IsBackupRefused tells b worker before now name old new (backup.WalFull n) =
    HoldsNothing old.files × (n ≡ length now)
    × MeetsFullWal b.settings.segment worker before now × KeepsManifest old.files new.files
IsBackupRefused tells b worker before now name old new (backup.StoreFailed area) =
    HoldsNothing old.files × KeepsManifest old.files new.files
IsBackupRefused tells b worker before now name old new backup.OutFailed =
    Rose old.faults new.faults
    × (KeepsManifest old.files new.files ⊎ RoseTwice old.faults new.faults)
IsBackupRefused tells b worker before now name old new backup.NoMemory =
    KeepsManifest old.files new.files
    ⊎ (Rose old.faults new.faults ⊎ HoldsSomeBackup tells b worker before now name new.files)

-- ---- incremental backups

-- the areas of an incremental backup that are its worker's: of the prior backup, and its own
pub record IncrAreas : Type 0 where
  pub prior : AreaState
  pub out : AreaState

abbrev pub incr_areas : Areas → List ℕ → List ℕ → IncrAreas
incr_areas areas name prior =
    record { prior = areas (backup_name prior); out = areas (backup_name name) }

-- of the areas that a worker holds these alone may have changed, and no count fell
pub record OnlyAmong (names : Names) (held mid : Areas) : Type 0 where
  pub others : (n : List ℕ) → IsNoneOf n names → mid n ≡ held n
  pub later : (n : List ℕ) → IsOneOf n names → (held n).faults ≤ (mid n).faults

-- the manifest of a prior backup, where its area tells it: it is of a store with this system
-- identifier, and ends at a place or before
pub record IsPriorOf (system : ℕ) (prior : AreaState) (m : Listing) (start : ℕ) : Type 0 where
  pub told : IfSome prior.files (λ files. HasListing files m)
  pub ours : IsOfStore system m
  pub behind : m.end ≤ start

-- the files of its own area are the directory of that backup under a name: those of the forks that
-- were listed, each as it is planned by the prior backup's manifest and the summary of the WAL
-- since that backup's start. Each fork was listed and each page that is sent was copied at a moment
-- of its own, while this history was written
pub record HoldsIncr (tells : Type 0) (b : Basis) (worker before : ℕ) (now : List Entry)
    (name : List ℕ) (start end : Lsn) (old new : IncrAreas) : Type 0 where
  pub checkpoint : ℕ
  pub count : ℕ
  pub entries : HasBackupAt worker before now start.0 checkpoint end.0
  pub plan : Plan
  pub relseg : plan.relseg ≡ b.settings.relseg
  pub prior : IsPriorOf b.settings.system old.prior plan.prior start.0
  pub summed : SumsUp tells b.found b.sums b.when b.limit worker before now start.0
      plan.prior.start (Ok plan.summary)
  pub list : List ForkLen
  pub listed : AreListed tells now start.0 end.0 list
  pub files : List SentFile
  pub sent : AreSent tells now start.0 end.0 plan list files
  pub directory : IsDirectory b.settings (λ begun. incr_label start
      (record { 0 = checkpoint }) (record { 0 = plan.prior.start }) begun name)
      b.when (map file_of files) start end count new.out.files

-- it does, wherever the backup starts and ends
abbrev pub HoldsSomeIncr :
    Type 0 → Basis → ℕ → ℕ → List Entry → List ℕ → IncrAreas → IncrAreas → Type 0
HoldsSomeIncr tells b worker before now name old new =
    (start : Lsn) × (end : Lsn) × HoldsIncr tells b worker before now name start end old new

-- the worker has seen no more, and the backup's area is as it was
pub record StandsStill (before : ℕ) (now : List Entry) (old new : IncrAreas) : Type 0 where
  pub history : length now ≡ before
  pub out : IsStill old.out new.out

-- the backup's area held nothing, and the prior's manifest is answered so, where its area tells it
abbrev pub RefusesPrior : Basis → IncrAreas → IncrFault → Type 0
RefusesPrior b old why =
    HoldsNothing old.out.files
    × IfSome old.prior.files (λ files. PriorAnswer files b.settings.system (Err why))

-- the same where it was taken
abbrev pub TakesPrior : Basis → IncrAreas → Type 0
TakesPrior b old =
    HoldsNothing old.out.files
    × IfSome old.prior.files
    (λ files. (m : Listing) × PriorAnswer files b.settings.system (Ok m))

-- the checkpoint was done, and the prior backup ends past its redo point
pub record Overlaps (b : Basis) (worker before : ℕ) (now : List Entry) (old : IncrAreas)
    (start end : ℕ) : Type 0 where
  pub manifest : Listing
  pub told : IfSome old.prior.files (λ files. HasListing files manifest)
  pub ours : IsOfStore b.settings.system manifest
  pub checkpoint : HasCheckpointAt worker before now start
  pub end_is : manifest.end ≡ end
  pub past : start < end

-- the checkpoint was done and summaries were published, and they don't cover a place
pub record LeavesGap (tells : Type 0) (b : Basis) (worker before : ℕ) (now : List Entry)
    (old : IncrAreas) (place : Lsn) : Type 0 where
  pub manifest : Listing
  pub start : ℕ
  pub prior : IsPriorOf b.settings.system old.prior manifest start
  pub summed : SumsUp tells b.found b.sums b.when b.limit worker before now start
      manifest.start (Err (advance.Gap place))

-- why an incremental backup was refused, what was judged before that, and what it left: of the
-- backup's area no manifest, as for a full one
abbrev pub IsIncrRefused :
    Type 0 → Basis → ℕ → ℕ → List Entry → List ℕ → IncrAreas → IncrAreas → IncrFault → Type 0
IsIncrRefused tells b worker before now name old new incr.NotEmpty =
    HoldsSomething old.out.files × StandsStill before now old new
IsIncrRefused tells b worker before now name old new incr.NoManifest =
    RefusesPrior b old incr.NoManifest × StandsStill before now old new
IsIncrRefused tells b worker before now name old new (incr.ManifestRefused why) =
    RefusesPrior b old (incr.ManifestRefused why) × StandsStill before now old new
IsIncrRefused tells b worker before now name old new (incr.SystemDiffers have expected) =
    RefusesPrior b old (incr.SystemDiffers have expected) × StandsStill before now old new
IsIncrRefused tells b worker before now name old new (incr.Overlap start end) =
    TakesPrior b old × Overlaps b worker before now old start.0 end.0 × IsStill old.out new.out
IsIncrRefused tells b worker before now name old new (incr.Gap place) =
    TakesPrior b old × LeavesGap tells b worker before now old place × IsStill old.out new.out
IsIncrRefused tells b worker before now name old new (incr.WalFull n) =
    TakesPrior b old × (n ≡ length now) × MeetsFullWal b.settings.segment worker before now
    × KeepsManifest old.out.files new.out.files
IsIncrRefused tells b worker before now name old new (incr.StoreFailed area) =
    TakesPrior b old × KeepsManifest old.out.files new.out.files
IsIncrRefused tells b worker before now name old new incr.SumsFailed =
    TakesPrior b old × KeepsManifest old.out.files new.out.files
IsIncrRefused tells b worker before now name old new incr.PriorFailed =
    HoldsNothing old.out.files × Rose old.prior.faults new.prior.faults
    × StandsStill before now old new
IsIncrRefused tells b worker before now name old new incr.OutFailed =
    Rose old.out.faults new.out.faults
    × (KeepsManifest old.out.files new.out.files ⊎ RoseTwice old.out.faults new.out.faults)
IsIncrRefused tells b worker before now name old new incr.NoMemory =
    KeepsManifest old.out.files new.out.files
    ⊎ (Rose old.out.faults new.out.faults ⊎ HoldsSomeIncr tells b worker before now name old new)

-- ---- one line

-- a full backup was taken into an area that held nothing, and is durable there
abbrev pub TakesFull :
    Type 0 → Basis → ℕ → ℕ → List Entry → Command → Lsn → Lsn → Areas → Areas → Type 0
TakesFull tells b worker before now line start end held mid =
    (name : List ℕ) × (line ≡ command.Full name)
    × HoldsNothing (held (backup_name name)).files × OnlyAt (backup_name name) held mid
    × HoldsBackup tells b worker before now name start end (mid (backup_name name)).files
    × AreaIsDurable (mid (backup_name name))

-- an incremental one was, on a prior backup to whose area nothing happened
abbrev pub TakesIncr :
    Type 0 → Basis → ℕ → ℕ → List Entry → Command → Lsn → Lsn → Areas → Areas → Type 0
TakesIncr tells b worker before now line start end held mid =
    (name : List ℕ) × (prior : List ℕ) × (line ≡ command.Incr name prior)
    × HoldsNothing (held (backup_name name)).files × OnlyAmong (area_asked line) held mid
    × IsStill (held (backup_name prior)) (mid (backup_name prior))
    × HoldsIncr tells b worker before now name start end
    (incr_areas held name prior) (incr_areas mid name prior)
    × AreaIsDurable (mid (backup_name name))

-- a line flushes pages, or publishes summaries
abbrev pub IsCallOf : Command → Type 0
IsCallOf line = ((count : ℕ) × (line ≡ command.Flush count)) ⊎ (line ≡ command.Summarise)

-- what a line's command was answered by a worker that had seen so many entries before and has seen
-- this history now, the entries that its commands made, and what it left of the areas that are held
abbrev pub LineAnswer :
    Type 0 → Basis → ℕ → ℕ → List Entry → Command → Answer → List Entry → Areas → Areas → Type 0
LineAnswer tells b worker before now line (Accepted place) made held mid =
    (order : Order) × (line ≡ command.Insert order)
    × Made tells b.settings.segment worker now before (op_asked order ∷ []) made
    × (place ≡ span_of made) × (mid ≡ held)
LineAnswer tells b worker before now line (Refused why) made held mid =
    (order : Order) × (line ≡ command.Insert order) × (made ≡ [])
    × IsRefusedNow tells b.settings.segment now (op_asked order) why × (mid ≡ held)
LineAnswer tells b worker before now line (Grown k place) made held mid =
    (at : BlockId) × (shape : Shape) × (line ≡ command.Grow at k shape)
    × Made tells b.settings.segment worker now before (grow_ops at shape k) made
    × (place ≡ span_of made) × (mid ≡ held)
LineAnswer tells b worker before now line (Stopped k why) made held mid =
    (at : BlockId) × (count : ℕ) × (shape : Shape) × (line ≡ command.Grow at count shape)
    × (k < count) × Made tells b.settings.segment worker now before (grow_ops at shape k) made
    × IsRefusedNow tells b.settings.segment now (grow_op at shape k) why × (mid ≡ held)
LineAnswer tells b worker before now line (Redo redo) made held mid =
    (line ≡ command.Checkpoint) × (made ≡ []) × HasCheckpointAt worker before now redo.0
    × (mid ≡ held)
LineAnswer tells b worker before now line (CheckpointRefused why) made held mid =
    (line ≡ command.Checkpoint) × (made ≡ [])
    × IsCheckpointRefused b.settings.segment worker before now why × (mid ≡ held)
LineAnswer tells b worker before now line (Wrote k) made held mid =
    (count : ℕ) × (line ≡ command.Flush count) × (made ≡ []) × (k ≤ count) × (mid ≡ held)
LineAnswer tells b worker before now line (Published k) made held mid =
    (line ≡ command.Summarise) × (made ≡ [])
    × HasPublished tells b.found b.sums now b.when b.limit k × (mid ≡ held)
LineAnswer tells b worker before now line (CallFailed why) made held mid =
    (made ≡ []) × IsCallOf line × (mid ≡ held)
LineAnswer tells b worker before now line (Backup start end) made held mid =
    (made ≡ []) × (TakesFull tells b worker before now line start end held mid
    ⊎ TakesIncr tells b worker before now line start end held mid)
LineAnswer tells b worker before now line (BackupRefused why) made held mid =
    (name : List ℕ) × (line ≡ command.Full name) × (made ≡ [])
    × OnlyAt (backup_name name) held mid
    × StaysFull (held (backup_name name)) (mid (backup_name name))
    × IsBackupRefused tells b worker before now name
    (held (backup_name name)) (mid (backup_name name)) why
LineAnswer tells b worker before now line (IncrRefused why) made held mid =
    (name : List ℕ) × (prior : List ℕ) × (line ≡ command.Incr name prior) × (made ≡ [])
    × OnlyAmong (area_asked line) held mid
    × IsStill (held (backup_name prior)) (mid (backup_name prior))
    × StaysFull (held (backup_name name)) (mid (backup_name name))
    × IsIncrRefused tells b worker before now name
    (incr_areas held name prior) (incr_areas mid name prior) why
LineAnswer tells b worker before now line NotRun made held mid = (made ≡ []) × (mid ≡ held)

-- how many marks of a worker a line's answer allows: the start and the end of a checkpoint, and
-- behind these the end of a backup; none of a line that asks for neither
abbrev pub marks_allowed : Answer → ℕ
marks_allowed (Redo redo) = 2
marks_allowed (CheckpointRefused why) = 2
marks_allowed (Backup start end) = 3
marks_allowed (BackupRefused why) = 3
marks_allowed (IncrRefused why) = 3
marks_allowed answer = 0

-- ---- lines in turn

-- lines and their answers, one each, from a moment of a history to another, the entries that their
-- commands made, and what they left of the areas that are held. Each answer is a fact of the
-- beginning of the history that the worker had seen when it was given
abbrev pub Answered :
    Type 0 → Basis → ℕ → List Entry → ℕ → List Line → List Answer → List Entry → ℕ
    → Areas → Areas → Type 0
Answered tells b worker history from [] [] made to held new =
    (made ≡ []) × (from ≡ to) × (new ≡ held)
Answered tells b worker history from [] (answer ∷ answers) made to held new = ⊥
Answered tells b worker history from (line ∷ lines) [] made to held new = ⊥
Answered tells b worker history from (line ∷ lines) (answer ∷ answers) made to held new =
    (next : ℕ) × (here : List Entry) × (rest : List Entry) × (mid : Areas)
    × (from ≤ next) × (next ≤ length history) × (made ≡ here ++ rest)
    × LineAnswer tells b worker from (take next history) line.command answer here held mid
    × Answered tells b worker history next lines answers rest to mid new

-- ---- what stops a worker

-- lines aren't run exactly behind an answer that stops the worker
abbrev pub InOrder : Bool → List Answer → Type 0
InOrder stopped [] = Unit {0}
InOrder stopped (answer ∷ answers) =
    (is_not_run answer ≡ stopped) × InOrder (stops_with answer) answers

-- an answer tells that an area of the store failed
abbrev pub TellsFault : StoreArea → Answer → Type 0
TellsFault area answer = stop_of answer ≡ Some (stop.Store (store.Failed area))

-- of the faults of each area that an answer tells to have failed, the pass's share rose
abbrev pub SharesRose : List Answer → Seen → Seen → Type 0
SharesRose answers old new =
    All (λ answer. (area : StoreArea) → TellsFault area answer → ShareRose area old new) answers

-- ---- a worker's run

-- a worker ran its lines: over what it has seen now each is answered, its accepted commands there
-- are those that the answers name, in order, it made no more marks than these allow, and an answer
-- names an area of the store, or of summaries, only where the pass's share of its faults rose
pub record RunsLines (tells : Type 0) (b : Basis) (lines : List Line) (old new : Seen)
    (held mid : Areas) (answers : List Answer) : Type 0 where
  pub stays : StaysBy old new
  pub made : List Entry
  pub answered : Answered tells b old.worker new.list (length old.list) lines answers made
      (length new.list) held mid
  pub counted : new.accepted ≡ old.accepted + length made
  pub marked : new.marks ≤ old.marks + sum_by marks_allowed answers
  pub order : InOrder false answers
  pub risen : SharesRose answers old new

-- a worker's answers over the finished history, of which so many entries were found: its accepted
-- commands are exactly those that the answers name, in order, and it made no more marks than these
-- allow
pub record IsAnswered (tells : Type 0) (b : Basis) (worker : ℕ) (history : List Entry)
    (found : ℕ) (lines : List Line) (answers : List Answer) (held new : Areas) : Type 0 where
  pub to : ℕ
  pub within : to ≤ length history
  pub answered :
      Answered tells b worker history found lines answers (accepted_by worker history) to held new
  pub marked : length (marks_by worker history) ≤ sum_by marks_allowed answers
  pub order : InOrder false answers

-- ---- what stands of backups when all lines were run

-- nothing happened since to the area of a name, which was this one: where it told its files then,
-- or where no line behind names it too
abbrev pub KeepsTo : List ℕ → List Line → AreaState → Areas → Type 0
KeepsTo name lines area areas =
    IsSome area.files ⊎ IsNoneOf name (areas_asked lines) → IsStill area (areas name)

-- where a line was answered that its backup was taken, the area of its name had the directory of
-- the backup then, durably, taken over a beginning of the history; and has it still
abbrev pub StandsFor :
    Type 0 → Basis → ℕ → List Entry → Line → List Line → Answer → Areas → Type 0
StandsFor tells b worker history line lines (Backup start end) areas =
    (name : List ℕ) → line.command ≡ command.Full name
    → (next : ℕ) × (area : AreaState) × (next ≤ length history)
    × HoldsBackup tells b worker 0 (take next history) name start end area.files
    × AreaIsDurable area × KeepsTo (backup_name name) lines area areas
StandsFor tells b worker history line lines answer areas = Unit {0}

abbrev pub BackupsStand :
    Type 0 → Basis → ℕ → List Entry → List Line → List Answer → Areas → Type 0
BackupsStand tells b worker history [] answers areas = Unit {0}
BackupsStand tells b worker history (line ∷ lines) [] areas = Unit {0}
BackupsStand tells b worker history (line ∷ lines) (answer ∷ answers) areas =
    StandsFor tells b worker history line lines answer areas
    × BackupsStand tells b worker history lines answers areas

-- the count of a backup's area rose, which a line asks for
abbrev pub RoseFor : Line → List ℕ → Areas → Areas → Type 0
RoseFor line name old new =
    IsOneOf (backup_name name) (area_asked line.command)
    × Rose (old (backup_name name)).faults (new (backup_name name)).faults

-- the area of a backup failed, by its answer, only where its count of faults rose; so did that of
-- its prior one
abbrev pub FailsFor : Line → Answer → Areas → Areas → Type 0
FailsFor line answer old new =
    (stop_of answer ≡ Some stop.Backup → RoseFor line (backup_taken line.command) old new)
    × (stop_of answer ≡ Some stop.Prior → RoseFor line (prior_taken line.command) old new)

abbrev pub BackupFaultsRose : List Line → List Answer → Areas → Areas → Type 0
BackupFaultsRose [] answers old new = Unit {0}
BackupFaultsRose (line ∷ lines) [] old new = Unit {0}
BackupFaultsRose (line ∷ lines) (answer ∷ answers) old new =
    FailsFor line answer old new × BackupFaultsRose lines answers old new

-- ---- what stands of summaries

-- an area of summaries, where it tells its files, is honest for a history
abbrev pub IsHonestFor : List Entry → AreaState → Type 0
IsHonestFor history area = IfSome area.files (IsHonest history)

-- ---- what stands of incremental backups when all lines were run

-- where a line was answered that its incremental backup was taken, the area of its name had the
-- directory of the backup then, durably, taken over a beginning of the history, behind what was
-- found, on what the prior's area held; both have it still
abbrev pub IncrStandsFor :
    Type 0 → Basis → ℕ → List Entry → Line → List Line → Answer → Areas → Type 0
IncrStandsFor tells b worker history line lines (Backup start end) areas =
    (name : List ℕ) (prior : List ℕ) → line.command ≡ command.Incr name prior
    → (before : ℕ) × (next : ℕ) × (old : IncrAreas) × (new : IncrAreas)
    × (length b.found ≤ before) × (next ≤ length history)
    × HoldsIncr tells b worker before (take next history) name start end old new
    × AreaIsDurable new.out
    × KeepsTo (backup_name name) lines new.out areas
    × KeepsTo (backup_name prior) lines old.prior areas
IncrStandsFor tells b worker history line lines answer areas = Unit {0}

abbrev pub IncrsStand :
    Type 0 → Basis → ℕ → List Entry → List Line → List Answer → Areas → Type 0
IncrsStand tells b worker history [] answers areas = Unit {0}
IncrsStand tells b worker history (line ∷ lines) [] areas = Unit {0}
IncrsStand tells b worker history (line ∷ lines) (answer ∷ answers) areas =
    IncrStandsFor tells b worker history line lines answer areas
    × IncrsStand tells b worker history lines answers areas

-- ---- laws

-- what was answered over a beginning of a history is answered over the history, whatever other
-- workers do later
abbrev pub AnswersStay : Type 0
AnswersStay =
    (tells : Bool) (b : Basis) (worker : ℕ) (seen history : List Entry) (from to : ℕ)
    (lines : List Line) (answers : List Answer) (made : List Entry) (held new : Areas)
    → IsPrefix seen history
    → Answered (tells ≡ true) b worker seen from lines answers made to held new
    → Answered (tells ≡ true) b worker history from lines answers made to held new

-- how a worker's pass began and ended in a run: it saw what was found, and what it has seen is a
-- beginning of the history, where as many of its commands stand as were accepted, and as many marks
-- as it made
pub record RanSo (tells : Type 0) (b : Basis) (history : List Entry) (worker : ℕ)
    (lines : List Line) (answers : List Answer) (held kept : Areas) : Type 0 where
  pub old : Seen
  pub new : Seen
  pub ran : RunsLines tells b lines old new held kept answers
  pub who : old.worker ≡ worker
  pub found : length old.list ≡ length b.found
  pub none : old.accepted ≡ 0
  pub unmarked : old.marks ≡ 0
  pub seen : IsPrefix new.list history
  pub all : new.accepted ≡ length (accepted_by new.worker history)
  pub marks : new.marks ≡ length (marks_by new.worker history)

-- a worker's accepted commands stand in the history once, in the order of its answers
abbrev pub CrewIsJoined : Type 0
CrewIsJoined =
    (tells : Bool) (b : Basis) (history : List Entry) (worker : ℕ)
    (lines : List Line) (answers : List Answer) (held kept : Areas)
    → RanSo (tells ≡ true) b history worker lines answers held kept
    → IsAnswered (tells ≡ true) b worker history (length b.found) lines answers held kept

-- each backup that was answered stands, and each of its areas that failed has a count that rose
abbrev pub AnswersTellBackups : Type 0
AnswersTellBackups =
    (tells : Bool) (b : Basis) (worker : ℕ) (history : List Entry) (found : ℕ)
    (lines : List Line) (answers : List Answer) (held new : Areas)
    → IsAnswered (tells ≡ true) b worker history found lines answers held new
    → BackupsStand (tells ≡ true) b worker history lines answers new
    × BackupFaultsRose lines answers held new

-- each incremental backup that was answered stands
abbrev pub AnswersTellIncrs : Type 0
AnswersTellIncrs =
    (tells : Bool) (b : Basis) (worker : ℕ) (history : List Entry)
    (lines : List Line) (answers : List Answer) (held new : Areas)
    → IsAnswered (tells ≡ true) b worker history (length b.found) lines answers held new
    → IncrsStand (tells ≡ true) b worker history lines answers new

-- behind one history a command is taken or refused, and never both, but for an area that fails and
-- want of memory
abbrev pub TakenOrRefused : Type 0
TakenOrRefused =
    (mib : ℕ) (before : List Entry) (asked : Op) (entry : Entry) (why : InsertFault)
    → IsTakenAt mib before asked entry → IsRefusedBehind mib before asked why
    → ((area : StoreArea) × (why ≡ insert.Failed area)) ⊎ (why ≡ insert.NoMemory)
