-- `replay`: what replaying a WAL into an output does, prints and ends with.
use Rattle.std.specs.Prelude.{◌≡◌, ◌≢◌, ℕ, Bool, true, false, Option, List, [], ◌∷◌, ◌++◌, IsSome, IfSome, Some, Result, Ok, Err, codes}
use Rattle.std.specs.Option.{option_map}
use Rattle.std.specs.FinMap.{empty, len}
use Rattle.std.specs.Fmt.{decimal}
use Rattle.lsn_core.specs.Names.{lsn_bytes}
use Rattle.lsn_core.specs.Store.{files_of}
use Rattle.lsn_core.specs.declared.lsn.Lsn.{Lsn}
use Rattle.lsn_core.specs.Segment.{StoreSettings}
use Rattle.vault.specs.Site.{AreaState}
use Rattle.vault.specs.Lending.{Names}
use Rattle.wal_record.specs.declared.record.Record.{Record}
use Rattle.recovery.specs.declared.fault.RecoveryFault.{RecoveryFault}
use Rattle.recovery.specs.declared.fault.RecoveryFault.TheVariants.{Damaged, Short, BadDelta, SettingsDamaged, Timeline, NotInit, Failed, NoMemory}
use Rattle.history.specs.Pages.{page_count}
use Rattle.history.specs.Whole.{whole}
use Rattle.lsn_core.specs.Tip.{Tip}
use Rattle.recovery.specs.Reading.{IsReadTo}
use Rattle.recovery.specs.Onward.{replayed_to, ending_by}
use Rattle.recovery.specs.Replay.{IsReadWal, last_end}
use Rattle.recovery.specs.Causes.{HasSettings, WalCause}
use Rattle.recovery.specs.declared.replaying.ReadWal.{ReadWal}
use Rattle.command_base.specs.declared.status.Status.{Status}
use Rattle.command_base.specs.declared.status.Status.TheVariants as status
use Rattle.store_commands.specs.declared.replaying.ReplayReport.{ReplayReport}
use Rattle.store_commands.specs.declared.replaying.ReplayFault.{ReplayFault}
use Rattle.store_commands.specs.declared.replaying.ReplayFault.TheVariants as replay
use Rattle.command_base.specs.Areas.{wal_name, output_name, IsClear, IsFull, AreaIsDurable, Keeps, AreaFails}
use Rattle.command_base.specs.Outside.{Outside, Works, Untakens, IsUntaken}
use Rattle.command_base.specs.Faults.{refused_line, area_text, full_text, take_text, wal_text, area_status, wal_status}

abbrev pub ReplayResult : Type 0
ReplayResult = Result ReplayReport ReplayFault

-- ---- what `replay` comes to

-- the areas that it looks at: the WAL's, and the output's
pub record ReplayAreas : Type 0 where
  pub wal : AreaState
  pub out : AreaState

abbrev pub replay_areas : List ℕ → Outside → ReplayAreas
replay_areas out o = record { wal = o.areas wal_name; out = o.areas out }

abbrev pub replay_asks : List ℕ → Names
replay_asks out = wal_name ∷ (out ∷ [])

-- where the last of some entries ends that ends at a place or before it; where there is none, where
-- the WAL begins
abbrev pub end_by : ℕ → ℕ → List Record → ℕ
end_by mib place entries = last_end mib (ending_by place entries)

-- what was read of the WAL by a replay up to a target, or to its end: the entries, and where the
-- last of them ends that ends at the target or before it
pub record ReplayRead (upto : Option Lsn) (old : ReplayAreas) (report : ReplayReport) : Type 0 where
  pub clear : IsClear old.out
  pub settings : StoreSettings
  pub given : HasSettings old.wal.files settings
  pub entries : List Record
  pub last : Tip
  pub read : IsReadTo settings old.wal.files upto entries last
  pub end : report.end.0 ≡ end_by settings.segment (replayed_to upto last) entries

-- a replay up to a target, or to the WAL's end, that was done: the output's files are those of the
-- store that the WAL makes up to there, durably
pub record ReplayDone
    (upto : Option Lsn) (old new : ReplayAreas) (report : ReplayReport)
    : Type 0 where
  pub clear : IsClear old.out
  pub settings : StoreSettings
  pub given : HasSettings old.wal.files settings
  pub read : ReadWal
  pub read_is : IsReadWal settings old.wal.files upto read
  pub made : whole read_is.entries (replayed_to upto read.tip) ≡ Some read.store
  pub written : new.out.files ≡ option_map (λ m. files_of settings.relseg read.store) old.out.files
  pub end : report.end.0 ≡ end_by settings.segment (replayed_to upto read.tip) read_is.entries
  pub forks : report.forks ≡ len read.store
  pub pages : report.pages ≡ page_count read.store
  pub durable : AreaIsDurable new.out

-- an area that held a file is as it was
abbrev pub KeepsFull : AreaState → AreaState → Type 0
KeepsFull old new = IfSome old.files (λ m. m ≢ empty → Keeps old new)

-- a fault that the pages decide, which are those that the output's area holds
abbrev pub is_of_pages : RecoveryFault → Bool
is_of_pages (Damaged mib damage) = false
is_of_pages (Short end target) = false
is_of_pages (BadDelta place) = true
is_of_pages SettingsDamaged = false
is_of_pages (Timeline name) = false
is_of_pages NotInit = false
is_of_pages Failed = false
is_of_pages NoMemory = false

-- the WAL can't be replayed; where the pages decide that, the output tells its files
abbrev pub IsUnreadable : Option Lsn → ReplayAreas → ReplayAreas → RecoveryFault → Type 0
IsUnreadable upto old new why =
    (is_of_pages why ≡ true → IsSome old.out.files)
    → WalCause upto old.wal.files old.wal.faults new.wal.faults why

-- why `replay` comes to its answer, where an area that isn't handed out means this. What the pages
-- are is said where the output tells its files, from which they are read. A full output and a WAL
-- that can't be replayed leave the output as it was; of one that was empty a failed device or want
-- of memory says nothing
abbrev pub ReplayAnswer :
    Option Lsn → Untakens → ReplayAreas → ReplayAreas → ReplayResult → Type 0
ReplayAnswer upto Untaken old new (Ok report) =
    ReplayRead upto old report × (IsSome old.out.files → ReplayDone upto old new report)
ReplayAnswer upto Untaken old new (Err (replay.Site fault)) = Untaken fault
ReplayAnswer upto Untaken old new (Err replay.NotEmpty) = IsFull old.out × Keeps old.out new.out
ReplayAnswer upto Untaken old new (Err (replay.Wal why)) =
    IsClear old.out × Keeps old.out new.out × IsUnreadable upto old new why
ReplayAnswer upto Untaken old new (Err (replay.Out why)) =
    AreaFails old.out new.out why × KeepsFull old.out new.out

-- the same of the whole outside, to this area
abbrev pub ReplayRan : Option Lsn → List ℕ → Outside → Outside → ReplayResult → Type 0
ReplayRan upto out old new r =
    ReplayAnswer upto (IsUntaken (replay_asks out) old new)
    (replay_areas out old) (replay_areas out new) r

-- `replay` up to a target, where one is given, to an output of this name
abbrev pub ReplayDoes : Option Lsn → List ℕ → Outside → Outside → ReplayResult → Type 0
ReplayDoes upto name old new r =
    Works (output_name name ∷ []) old new × ReplayRan upto (output_name name) old new r

-- ---- what it prints, where this is the output's area, and its status

abbrev pub replay_fault_text : List ℕ → ReplayFault → List ℕ
replay_fault_text out (replay.Site fault) = take_text fault
replay_fault_text out replay.NotEmpty = full_text out
replay_fault_text out (replay.Wal why) = wal_text why
replay_fault_text out (replay.Out why) = area_text out why

-- how many forks and pages there are
abbrev pub counts_text : ReplayReport → List ℕ
counts_text report = decimal report.forks ++ (32 ∷ decimal report.pages)

-- the line of a report, behind what was done
abbrev pub made_line : List ℕ → ReplayReport → List ℕ
made_line done report =
    done ++ (lsn_bytes report.end.0 ++ (32 ∷ (counts_text report ++ (10 ∷ []))))

abbrev pub replay_text : List ℕ → ReplayResult → List ℕ
replay_text out (Ok report) = made_line (codes "replayed ") report
replay_text out (Err fault) = refused_line (replay_fault_text out fault)

abbrev pub replay_status : ReplayResult → Status
replay_status (Ok report) = status.Done
replay_status (Err (replay.Site fault)) = area_status fault.why
replay_status (Err replay.NotEmpty) = status.Refused
replay_status (Err (replay.Wal why)) = wal_status why
replay_status (Err (replay.Out why)) = area_status why
