-- `follow`: what following an input as the stream of a WAL into an output does, prints and ends
-- with.
use Rattle.std.specs.Prelude.{◌≡◌, ℕ, ◌≤◌, Option, List, [], ◌∷◌, ◌++◌, length, IfSome, Some, None, Result, Ok, Err, codes}
use Rattle.std.specs.Option.{option_map}
use Rattle.std.specs.FinMap.{len}
use Rattle.std.specs.Fmt.{decimal}
use Rattle.lsn_core.specs.Store.{files_of}
use Rattle.lsn_core.specs.declared.lsn.Lsn.{Lsn}
use Rattle.lsn_core.specs.declared.fault.AreaFault.{AreaFault}
use Rattle.vault.specs.Site.{AreaState}
use Rattle.history.specs.Pages.{page_count}
use Rattle.history.specs.Whole.{whole}
use Rattle.recovery.specs.Onward.{replayed_to}
use Rattle.recovery.specs.Replay.{IsReadWal}
use Rattle.recovery.specs.declared.fault.RecoveryFault.{RecoveryFault}
use Rattle.recovery.specs.declared.fault.RecoveryFault.TheVariants as wal
use Rattle.recovery.specs.declared.replaying.ReadWal.{ReadWal}
use Rattle.stream_laws.specs.Streams.{stream_files}
use Rattle.follow_laws.specs.Followed.{stream_settings}
use Rattle.wal_follow.specs.declared.fault.FollowFault.TheVariants as stream
use Rattle.follow_command.specs.declared.input.InputFault.{InputFault}
use Rattle.follow_command.specs.declared.input.InputFault.TheVariants as input
use Rattle.follow_command.specs.declared.output.Written.{Written}
use Rattle.follow_command.specs.Input.{most_input}
use Rattle.follow_command.specs.Followed.{IsLongStream, IsRefusedStream}
use Rattle.command_base.specs.declared.status.Status.{Status}
use Rattle.command_base.specs.declared.status.Status.TheVariants as status
use Rattle.command_base.specs.Areas.{output_name, IsClear, IsFull, AreaCause, AreaIsDurable, Keeps, AreaFails}
use Rattle.command_base.specs.Outside.{Outside, Works, Untakens, IsUntaken}
use Rattle.command_base.specs.Faults.{refused_line, area_text, full_text, take_text, wal_text, area_status, wal_status}
use Rattle.store_commands.specs.declared.follow_stream.FollowFault.{FollowFault}
use Rattle.store_commands.specs.declared.follow_stream.FollowFault.TheVariants as follow
use Rattle.store_commands.specs.declared.replaying.ReplayReport.{ReplayReport}
use Rattle.store_commands.specs.Replay.{end_by, KeepsFull, made_line}

abbrev pub FollowResult : Type 0
FollowResult = Result ReplayReport FollowFault

-- ---- what `follow` comes to

-- what it looks at: the output's area, and the input with how often that failed
pub record FollowSeen : Type 0 where
  pub out : AreaState
  pub left : Option (List ℕ)
  pub reads : ℕ

abbrev pub follow_seen : List ℕ → Outside → FollowSeen
follow_seen out o = record { out = o.areas out; left = o.left; reads = o.reads }

-- an input of these bytes was followed to its end as the stream of a WAL: the output's files are
-- just those that a replay of the stream's archive makes, durably
pub record FollowDone
    (mib relseg : ℕ) (bytes : List ℕ) (old new : AreaState) (report : ReplayReport)
    : Type 0 where
  pub clear : IsClear old
  pub few : length bytes ≤ most_input
  pub read : ReadWal
  pub read_is :
      IsReadWal (stream_settings mib relseg bytes) (Some (stream_files mib bytes)) None read
  pub made : whole read_is.entries (replayed_to None read.tip) ≡ Some read.store
  pub written : new.files ≡ option_map (λ m. files_of relseg read.store) old.files
  pub end : report.end.0 ≡ end_by mib (replayed_to None read.tip) read_is.entries
  pub forks : report.forks ≡ len read.store
  pub pages : report.pages ≡ page_count read.store
  pub durable : AreaIsDurable new

-- why the WAL of a stream of these bytes can't be replayed
abbrev pub IsUnfollowed : ℕ → ℕ → RecoveryFault → List ℕ → Type 0
IsUnfollowed mib relseg (wal.Damaged size damage) bytes =
    (size ≡ mib) × IsRefusedStream mib relseg bytes (stream.Damaged damage)
IsUnfollowed mib relseg (wal.BadDelta place) bytes =
    IsRefusedStream mib relseg bytes (stream.BadDelta place)
IsUnfollowed mib relseg (wal.Short end target) bytes = ⊥
IsUnfollowed mib relseg wal.SettingsDamaged bytes = ⊥
IsUnfollowed mib relseg (wal.Timeline name) bytes = ⊥
IsUnfollowed mib relseg wal.NotInit bytes = ⊥
IsUnfollowed mib relseg wal.Failed bytes = ⊥
IsUnfollowed mib relseg wal.NoMemory bytes = Unit {0}

-- the output was clear, and is as it was
abbrev pub KeepsClear : AreaState → AreaState → Type 0
KeepsClear old new = IsClear old × Keeps old new

-- nothing was read of the input
abbrev pub LeavesInput : FollowSeen → FollowSeen → Type 0
LeavesInput old new = (new.left ≡ old.left) × (new.reads ≡ old.reads)

-- why `follow` with segments of so many MiB, and so many blocks of a fork in each file of the
-- output, comes to its answer, where an area that isn't handed out means this. What the input's
-- bytes are is said where it tells them. Whatever is found of them, the output is as it was; of one
-- that was empty a failed device or want of memory in writing says nothing
abbrev pub FollowAnswer : ℕ → ℕ → Untakens → FollowSeen → FollowSeen → FollowResult → Type 0
FollowAnswer mib relseg Untaken old new (Ok report) =
    IfSome old.left (λ bytes. FollowDone mib relseg bytes old.out new.out report)
    × IsClear old.out × (new.left ≡ option_map (λ bytes. []) old.left)
FollowAnswer mib relseg Untaken old new (Err (follow.Site fault)) =
    Untaken fault × LeavesInput old new
FollowAnswer mib relseg Untaken old new (Err follow.NotEmpty) =
    IsFull old.out × Keeps old.out new.out × LeavesInput old new
FollowAnswer mib relseg Untaken old new (Err (follow.Input why)) =
    AreaCause old.reads new.reads why × KeepsClear old.out new.out
FollowAnswer mib relseg Untaken old new (Err (follow.Long most)) =
    IfSome old.left (λ bytes. (most ≡ most_input) × IsLongStream mib relseg bytes)
    × KeepsClear old.out new.out
FollowAnswer mib relseg Untaken old new (Err (follow.Wal why)) =
    IfSome old.left (IsUnfollowed mib relseg why) × KeepsClear old.out new.out
FollowAnswer mib relseg Untaken old new (Err (follow.Out why)) =
    AreaFails old.out new.out why × KeepsFull old.out new.out

-- the same of the whole outside, to this area
abbrev pub FollowRan : ℕ → ℕ → List ℕ → Outside → Outside → FollowResult → Type 0
FollowRan mib relseg out old new r =
    FollowAnswer mib relseg (IsUntaken (out ∷ []) old new)
    (follow_seen out old) (follow_seen out new) r

-- `follow` to an output of this name. No count of the input's faults falls
abbrev pub FollowDoes : ℕ → ℕ → List ℕ → Outside → Outside → FollowResult → Type 0
FollowDoes mib relseg name old new r =
    Works (output_name name ∷ []) old new × (old.reads ≤ new.reads)
    × FollowRan mib relseg (output_name name) old new r

-- ---- why a stream isn't followed, and what is told of one that is

abbrev pub unfollowed : ℕ → InputFault → FollowFault
unfollowed mib (input.Input why) = follow.Input why
unfollowed mib (input.Long most) = follow.Long most
unfollowed mib (input.Wal (stream.Damaged damage)) = follow.Wal (wal.Damaged mib damage)
unfollowed mib (input.Wal (stream.BadDelta place)) = follow.Wal (wal.BadDelta place)
unfollowed mib (input.Wal stream.NoMemory) = follow.Wal wal.NoMemory

abbrev pub report_of : Lsn → Result Written AreaFault → FollowResult
report_of end (Ok written) =
    Ok (record { end = end; forks = written.forks; pages = written.pages })
report_of end (Err why) = Err (follow.Out why)

-- ---- what it prints, where this is the output's area, and its status

-- the input has more bytes than so many
abbrev pub long_text : ℕ → List ℕ
long_text most = codes "18 InputLong " ++ decimal most

abbrev pub follow_fault_text : List ℕ → FollowFault → List ℕ
follow_fault_text out (follow.Site fault) = take_text fault
follow_fault_text out follow.NotEmpty = full_text out
follow_fault_text out (follow.Input why) = area_text (codes "input") why
follow_fault_text out (follow.Long most) = long_text most
follow_fault_text out (follow.Wal why) = wal_text why
follow_fault_text out (follow.Out why) = area_text out why

abbrev pub follow_text : List ℕ → FollowResult → List ℕ
follow_text out (Ok report) = made_line (codes "followed ") report
follow_text out (Err fault) = refused_line (follow_fault_text out fault)

abbrev pub follow_status : FollowResult → Status
follow_status (Ok report) = status.Done
follow_status (Err (follow.Site fault)) = area_status fault.why
follow_status (Err follow.NotEmpty) = status.Refused
follow_status (Err (follow.Input why)) = area_status why
follow_status (Err (follow.Long most)) = status.Refused
follow_status (Err (follow.Wal why)) = wal_status why
follow_status (Err (follow.Out why)) = area_status why
