-- What an input comes to that is followed as the stream of a WAL: what a replay of the stream's
-- archive comes to.
use Rattle.std.specs.Prelude.{◌≡◌, ℕ, ◌<◌, ◌≤◌, List, length, map, take, Some, None, Result, Ok, Err}
use Rattle.std.specs.FinMap.{empty}
use Rattle.lsn_core.specs.Store.{Store}
use Rattle.lsn_core.specs.Tip.{Tip}
use Rattle.lsn_core.specs.declared.lsn.Lsn.{Lsn}
use Rattle.wal_record.specs.declared.record.Record.{Record}
use Rattle.wal_archive.specs.declared.fault.Damage.{Damage}
use Rattle.wal_reader.specs.Wal.{IsDamaged}
use Rattle.history.specs.Apply.{apply_all}
use Rattle.history.specs.Whole.{entry_of}
use Rattle.recovery.specs.declared.replaying.ReadWal.{ReadWal}
use Rattle.recovery.specs.Replay.{IsReadWal}
use Rattle.stream_laws.specs.Streams.{stream_files}
use Rattle.stream_laws.specs.Waiting.{IsCutShort}
use Rattle.follow_laws.specs.Followed.{stream_settings, IsFollowed, IsUnfollowed, BadDelta}
use Rattle.wal_follow.specs.Following.{Following}
use Rattle.wal_follow.specs.declared.fault.FollowFault.{FollowFault}
use Rattle.wal_follow.specs.declared.fault.FollowFault.TheVariants as follow
use Rattle.follow_command.specs.declared.input.InputFault.{InputFault}
use Rattle.follow_command.specs.declared.input.InputFault.TheVariants as input
use Rattle.follow_command.specs.Input.{most_input}

-- what a replay to its end reads of the archive of a stream
abbrev pub IsReadStream : ℕ → ℕ → List ℕ → ReadWal → Type 0
IsReadStream mib relseg bytes read =
    IsReadWal (stream_settings mib relseg bytes) (Some (stream_files mib bytes)) None read

-- a stream was followed to its end: a follower has what a replay of its archive reads
pub record IsReplayed (mib relseg : ℕ) (bytes : List ℕ) (f : Following) (end : Lsn) : Type 0 where
  pub few : length bytes ≤ most_input
  pub read : ReadWal
  pub read_is : IsReadStream mib relseg bytes read
  pub store : read.store ≡ f.store
  pub end_is : read.end ≡ end

-- the bytes of an input that are followed
abbrev pub followed : List ℕ → List ℕ
followed bytes = take most_input bytes

-- the archive of those is damaged so, as a replay of it finds, behind entries that can be applied;
-- it ends within an entry or a head only where they are all
pub record IsDamagedStream (mib relseg : ℕ) (bytes : List ℕ) (d : Damage) : Type 0 where
  pub rs : List Record
  pub store : Store
  pub damaged : IsDamaged (stream_settings mib relseg (followed bytes))
      (stream_files mib (followed bytes)) rs d
  pub makes : apply_all empty (map entry_of rs) ≡ Some store
  pub whole : IsCutShort d → length bytes ≤ most_input

-- there are more bytes than are followed, and those are not refused
pub record IsLongStream (mib relseg : ℕ) (bytes : List ℕ) : Type 0 where
  pub more : most_input < length bytes
  pub rs : List Record
  pub tip : Tip
  pub store : Store
  pub waits : IsFollowed mib relseg (followed bytes) rs tip store

-- why a stream's WAL isn't followed
abbrev pub IsRefusedStream : ℕ → ℕ → List ℕ → FollowFault → Type 0
IsRefusedStream mib relseg bytes (follow.Damaged d) = IsDamagedStream mib relseg bytes d
IsRefusedStream mib relseg bytes (follow.BadDelta at) =
    IsUnfollowed mib relseg (followed bytes) (BadDelta at)
IsRefusedStream mib relseg bytes follow.NoMemory = Unit {0}

-- an input of these bytes was followed to its end; it failed; or it is refused
abbrev pub StreamAnswer : ℕ → ℕ → List ℕ → Result (Following × Lsn) InputFault → Type 0
StreamAnswer mib relseg bytes (Ok came) = IsReplayed mib relseg bytes came.0 came.1
StreamAnswer mib relseg bytes (Err (input.Input why)) = Unit {0}
StreamAnswer mib relseg bytes (Err (input.Long n)) =
    (n ≡ most_input) × IsLongStream mib relseg bytes
StreamAnswer mib relseg bytes (Err (input.Wal why)) = IsRefusedStream mib relseg bytes why
