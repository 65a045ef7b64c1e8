-- When a command is done: what the areas hold for which it refuses nothing. It is done then, unless
-- an area isn't handed out, a device fails or memory runs out; and what it does then stands in its
-- own contract.
use Rattle.std.specs.Prelude.{◌≡◌, ◌<◌, ◌≤◌, ℕ, true, List, map, length, Option, Some, Ok, IfSome}
use Rattle.std.specs.Str.{IsUtf8}
use Rattle.std.specs.List.{AllByRecursion}
use Rattle.std.specs.FinMap.{empty, get}
use Rattle.lsn_core.specs.Files.{Files}
use Rattle.lsn_core.specs.Segment.{StoreSettings}
use Rattle.lsn_core.specs.Store.{Store}
use Rattle.lsn_core.specs.Tip.{Tip}
use Rattle.lsn_core.specs.declared.lsn.Lsn.{Lsn}
use Rattle.vault.specs.Lending.{Names}
use Rattle.vault.specs.Site.{AreaState, Areas}
use Rattle.wal_record.specs.declared.record.Record.{Record}
use Rattle.wal_archive.specs.Archive.{archive_of}
use Rattle.wal_archive.specs.Laws.{HasNoGap}
use Rattle.wal_reader.specs.Settings.{IsSettingsOf}
use Rattle.wal_reader.specs.Wal.{IsWal}
use Rattle.history.specs.Apply.{apply_all}
use Rattle.history.specs.Whole.{entry_of}
use Rattle.wal_summary.specs.Kept.{is_covered}
use Rattle.wal_summary.specs.declared.summary.Summary.{Summary}
use Rattle.summary_store.specs.Kept.{AreKept}
use Rattle.stream_laws.specs.Streams.{stream_files}
use Rattle.follow_laws.specs.Followed.{stream_settings}
use Rattle.follow_command.specs.Input.{most_input}
use Rattle.chain_check.specs.Directory.{IsAsListed}
use Rattle.chain_check.specs.declared.member.Member.{Member}
use Rattle.command_base.specs.Areas.{wal_name, sums_name, output_name, backup_name}
use Rattle.command_base.specs.Outside.{Outside}
use Rattle.command_base.specs.declared.status.Status.{Status}
use Rattle.command_base.specs.declared.status.Status.TheVariants.{Done, Refused, Usage, Device, Memory}
use Rattle.command_line.specs.declared.options.InitOptions.{InitOptions}
use Rattle.scripts.specs.Reasons.{script_limit}
use Rattle.scripts.specs.Script.{IsScript}
use Rattle.scripts.specs.declared.script.Task.{Task}
use Rattle.run_answers.specs.Telling.{RunResult, run_status}
use Rattle.run_answers.specs.declared.outcome.RunReport.{RunReport}
use Rattle.run_command.specs.Run.{RunDoes, RunDone, AreTold, run_workers}
use Rattle.store_commands.specs.Init.{InitResult, InitDoes, init_status}
use Rattle.store_commands.specs.Replay.{ReplayResult, ReplayDoes, replay_status}
use Rattle.store_commands.specs.Follow.{FollowResult, FollowDoes, follow_status}
use Rattle.store_commands.specs.Walsummary.{WalsummaryResult, WalsummaryDoes, walsummary_status}
use Rattle.chain_commands.specs.Chain.{backup_areas, files_told, IsChainTo, IsSeriesTo}
use Rattle.chain_commands.specs.Verify.{VerifyResult, VerifyDoes, verify_status}
use Rattle.chain_commands.specs.Combine.{CombineResult, CombineDoes, combine_status}
use Rattle.chain_commands.specs.Merge.{MergeDoes}

-- a command with this status was done; or a device failed or memory ran out, for which its contract
-- has the cause: nothing was refused
abbrev pub IsDoneOrFails : Status → Type 0
IsDoneOrFails Done = Unit {0}
IsDoneOrFails Refused = ⊥
IsDoneOrFails Usage = ⊥
IsDoneOrFails Device = Unit {0}
IsDoneOrFails Memory = Unit {0}

-- ---- what areas hold

-- an area tells that it holds no file
abbrev pub TellsEmpty : AreaState → Type 0
TellsEmpty area = area.files ≡ Some empty

-- a WAL is read to its end, and each entry of it can be applied to what those before it make
pub record IsReplayable (s : StoreSettings) (files : Files) (end : ℕ) : Type 0 where
  pub records : List Record
  pub last : Tip
  pub read : IsWal s files records last
  pub ends : last.end ≡ end
  pub store : Store
  pub applied : apply_all empty (map entry_of records) ≡ Some store

-- files are a sound WAL that ends at a place: they have settings, by which that holds
pub record IsSoundWal (end : Lsn) (files : Files) : Type 0 where
  pub settings : StoreSettings
  pub given : IsSettingsOf files settings
  pub replayable : IsReplayable settings files end.0

-- a target that is given isn't past the end of a WAL
abbrev pub IsNotPast : Option Lsn → Lsn → Type 0
IsNotPast upto end = IfSome upto (λ target. target.0 ≤ end.0)

-- of files' summaries those that are kept cover each place of a range
pub record IsCoveredBy (files : Files) (from to : ℕ) : Type 0 where
  pub sums : List Summary
  pub kept : AreKept files sums
  pub covered : (place : ℕ) → from ≤ place → place < to → is_covered sums place ≡ true

-- the names of files are text
abbrev pub HaveTextNames : Files → Type 0
HaveTextNames files = (name bytes : List ℕ) → get files name ≡ Some bytes → IsUtf8 name

-- ---- sound WALs

-- the WAL that `init` made is one
abbrev pub NewWalsAreSound : Type 0
NewWalsAreSound =
    (options : InitOptions) (old new : Outside) (end : Lsn)
    → InitDoes options old new (Ok end) → IfSome (new.areas wal_name).files (IsSoundWal end)

-- so is the one that a run left which closed its store, by the settings that it has, unless it goes
-- on at its end over a missing file
abbrev pub RunsLeaveSoundWals : Type 0
RunsLeaveSoundWals =
    (when : ℕ) (old new : Areas) (report : RunReport) (run : RunDone when old new report)
    (end : Lsn)
    → AreTold old → report.closed ≡ Ok end
    → IfSome (new wal_name).files (λ wal. (s : StoreSettings) → IsSettingsOf wal s
    → HasNoGap s.segment (archive_of s.segment wal) end.0 → IsSoundWal end wal)

-- ---- the store's commands

-- `init` makes a store where `wal` and `sums` hold no file
abbrev pub NewStoresAreMade : Type 0
NewStoresAreMade =
    (options : InitOptions) (old new : Outside) (r : InitResult)
    → TellsEmpty (old.areas wal_name) → TellsEmpty (old.areas sums_name)
    → InitDoes options old new r → IsDoneOrFails (init_status r)

-- `run` runs a script of the grammar, of at most 4 MiB, on a store whose WAL is sound and has an
-- entry
abbrev pub ScriptsAreRun : Type 0
ScriptsAreRun =
    (days : ℕ) (old new : Outside) (bytes : List ℕ) (script : List Task) (wal : Files) (end : Lsn)
    (r : RunResult)
    → old.left ≡ Some bytes → length bytes ≤ script_limit → IsScript run_workers bytes script
    → (old.areas wal_name).files ≡ Some wal
    → (sound : IsSoundWal end wal) → 0 < length sound.replayable.records
    → RunDoes days old new r → IsDoneOrFails (run_status r)

-- `replay` of a sound WAL goes up to each target that isn't past its end, to an output that holds
-- no file
abbrev pub SoundWalsAreReplayed : Type 0
SoundWalsAreReplayed =
    (upto : Option Lsn) (out : List ℕ) (old new : Outside) (wal : Files) (end : Lsn)
    (r : ReplayResult)
    → (old.areas wal_name).files ≡ Some wal → IsSoundWal end wal → IsNotPast upto end
    → TellsEmpty (old.areas (output_name out))
    → ReplayDoes upto out old new r → IsDoneOrFails (replay_status r)

-- `follow` goes to the end of an input that isn't too long, where the archive that its bytes stream
-- is a sound WAL
abbrev pub SoundStreamsAreFollowed : Type 0
SoundStreamsAreFollowed =
    (mib relseg end : ℕ) (out bytes : List ℕ) (old new : Outside) (r : FollowResult)
    → old.left ≡ Some bytes → length bytes ≤ most_input
    → IsReplayable (stream_settings mib relseg bytes) (stream_files mib bytes) end
    → TellsEmpty (old.areas (output_name out))
    → FollowDoes mib relseg out old new r → IsDoneOrFails (follow_status r)

-- `walsummary` tells a range that the kept summaries cover
abbrev pub CoveredRangesAreTold : Type 0
CoveredRangesAreTold =
    (from to : Lsn) (old new : Outside) (sums : Files) (r : WalsummaryResult)
    → (old.areas sums_name).files ≡ Some sums → IsCoveredBy sums from.0 to.0
    → WalsummaryDoes from to old new r → IsDoneOrFails (walsummary_status r)

-- ---- the commands of chains

-- `verify` takes a directory that is as its manifest lists it
abbrev pub ListedBackupsAreVerified : Type 0
ListedBackupsAreVerified =
    (name : List ℕ) (old new : Outside) (files : Files) (member : Member) (r : VerifyResult)
    → (old.areas (backup_name name)).files ≡ Some files → IsAsListed files member
    → VerifyDoes name old new r → IsDoneOrFails (verify_status r)

-- `combine` combines directories that are as their manifests list them and are accepted as a chain,
-- and whose files' names are text, to an output that holds no file
abbrev pub AcceptedChainsAreCombined : Type 0
AcceptedChainsAreCombined =
    (names : Names) (out : List ℕ) (old new : Outside) (chain : List Files) (newest : Member)
    (r : CombineResult)
    → files_told (backup_areas names old.areas) ≡ Some chain
    → IsChainTo names (backup_areas names old.areas) newest
    → AllByRecursion HaveTextNames chain → TellsEmpty (old.areas (backup_name out))
    → CombineDoes out names old new r → IsDoneOrFails (combine_status r)

-- and `merge-incr` merges those that are accepted as a series
abbrev pub AcceptedSeriesAreMerged : Type 0
AcceptedSeriesAreMerged =
    (names : Names) (out : List ℕ) (old new : Outside) (series : List Files) (newest : Member)
    (r : CombineResult)
    → files_told (backup_areas names old.areas) ≡ Some series
    → IsSeriesTo names (backup_areas names old.areas) newest
    → AllByRecursion HaveTextNames series → TellsEmpty (old.areas (backup_name out))
    → MergeDoes out names old new r → IsDoneOrFails (combine_status r)
