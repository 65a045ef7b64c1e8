-- What a follower of a stream is, and what it answers.
use Rattle.std.specs.Prelude.{◌≡◌, ◌≤◌, ℕ, ◌+◌, Bool, true, List, [], ◌++◌, length, map, take, Option, Some, None, Result, Ok, Err}
use Rattle.std.specs.FinMap.{empty, keys}
use Rattle.std.specs.Option.{unwrap_or}
use Rattle.lsn_core.specs.Blocks.{block_count}
use Rattle.lsn_core.specs.Segment.{StoreSettings, IsRelseg, settings_with}
use Rattle.lsn_core.specs.Store.{Store}
use Rattle.lsn_core.specs.Tip.{Tip}
use Rattle.lsn_core.specs.declared.ids.ForkId.{ForkId}
use Rattle.lsn_core.specs.declared.ids.ForkLen.{ForkLen}
use Rattle.lsn_core.specs.declared.lsn.Lsn.{Lsn}
use Rattle.wal_record.specs.declared.record.Record.{Record}
use Rattle.wal_record.specs.Tips.{first_tip}
use Rattle.wal_archive.specs.Rules.{End}
use Rattle.wal_archive.specs.declared.fault.Damage.{Damage}
use Rattle.wal_reader.specs.Cursor.{IsReached}
use Rattle.wal_reader.specs.Settings.{system_in}
use Rattle.wal_reader.specs.Wal.{IsWal, IsDamaged}
use Rattle.history.specs.Apply.{apply_all}
use Rattle.history.specs.Whole.{entry_of}
use Rattle.stream_laws.specs.Streams.{stream_files}
use Rattle.stream_laws.specs.Windows.{Span, IsStreamEnd}
use Rattle.follow_laws.specs.Followed.{stream_settings, behind_in, IsFollowed, Damaged, BadDelta, IsUnfollowed}
use Rattle.wal_follow.specs.declared.fault.FollowFault.{FollowFault}
use Rattle.wal_follow.specs.declared.fault.FollowFault.TheVariants as follow
use Rattle.wal_follow.specs.Window.{empty_span}

-- a follower: the blocks per segment of its forks' files; the stream's first bytes, up to those of
-- the system identifier; the tip behind the entries so far, and the store that they make; the
-- window on the stream's end, which has the size of segments; whether the archive ends behind the
-- entries, or within an entry or a head; and the fault that it goes on to answer
pub record Following : Type 0 where
  pub relseg : ℕ
  pub front : List ℕ
  pub tip : Tip
  pub store : Store
  pub span : Span
  pub ended : Bool
  pub fault : Option FollowFault

-- how many bytes of the stream tell the system identifier
abbrev pub front_size : ℕ
front_size = 32

-- a follower of a stream that gave no byte yet
abbrev pub new_following : ℕ → ℕ → Following
new_following mib relseg = record {
  relseg = relseg;
  front = [];
  tip = first_tip mib;
  store = empty;
  span = empty_span mib;
  ended = true;
  fault = None;
}

-- the settings by which it reads
abbrev pub settings_of : Following → StoreSettings
settings_of f = settings_with f.span.mib f.relseg (system_in f.front)

-- a follower reads by settings that there are, behind an end that an entry may have, and its window
-- begins no later than that
pub record CanGoOn (relseg : ℕ) (front : List ℕ) (tip : Tip) (span : Span) : Type 0 where
  pub blocks : IsRelseg relseg
  pub few : length front ≤ front_size
  pub reached : IsReached span.mib tip
  pub before : span.base ≤ tip.end

-- a follower stands behind a stream of these bytes: it has read the entries that are whole in the
-- stream's archive, its store is what they make from nothing, and it waits for more
pub record StandsBehind (f : Following) (fed : List ℕ) : Type 0 where
  pub rs : List Record
  pub followed : IsFollowed f.span.mib f.relseg fed rs f.tip f.store
  pub held : IsStreamEnd f.span fed
  pub before : f.span.base ≤ f.tip.end
  pub counted : f.tip.count ≡ length rs
  pub front : f.front ≡ take front_size fed
  pub ended : f.ended ≡ true → behind_in f.span.mib f.relseg fed f.tip ≡ End
  pub going : f.fault ≡ None

-- the stream that a follower stood behind, with a piece more, is refused so
abbrev pub RefusesStream : ℕ → ℕ → List ℕ → FollowFault → Type 0
RefusesStream mib relseg fed (follow.Damaged d) = IsUnfollowed mib relseg fed (Damaged d)
RefusesStream mib relseg fed (follow.BadDelta at) = IsUnfollowed mib relseg fed (BadDelta at)
RefusesStream mib relseg fed follow.NoMemory = Unit {0}

-- a follower stands behind the longer stream, by the same settings
pub record FollowsTo (old new : Following) (fed piece : List ℕ) : Type 0 where
  pub follows : StandsBehind new (fed ++ piece)
  pub mib : new.span.mib ≡ old.span.mib
  pub relseg : new.relseg ≡ old.relseg
  pub later : old.tip.count ≤ new.tip.count

-- it took a piece, and so many entries became whole
pub record FollowsOn (old new : Following) (fed piece : List ℕ) (count : ℕ) : Type 0 where
  pub goes : FollowsTo old new fed piece
  pub counted : new.tip.count ≡ old.tip.count + count

-- the stream's archive ends behind the entries that a follower has read, which make its store
pub record EndsWell (f : Following) (fed : List ℕ) (end : Lsn) : Type 0 where
  pub rs : List Record
  pub wal : IsWal (stream_settings f.span.mib f.relseg fed) (stream_files f.span.mib fed) rs f.tip
  pub makes : apply_all empty (map entry_of rs) ≡ Some f.store
  pub end_is : end.0 ≡ f.tip.end

-- the archive is damaged so, behind some entries
abbrev pub EndsDamaged : Following → List ℕ → Damage → Type 0
EndsDamaged f fed d =
    (rs : List Record)
    × IsDamaged (stream_settings f.span.mib f.relseg fed) (stream_files f.span.mib fed) rs d

-- the end of the archive of the stream that a follower stands behind, or its damage: what a replay
-- of that archive gives
abbrev pub FinishGives : Following → List ℕ → Result Lsn FollowFault → Type 0
FinishGives f fed (Ok end) = EndsWell f fed end
FinishGives f fed (Err (follow.Damaged d)) = EndsDamaged f fed d
FinishGives f fed (Err (follow.BadDelta at)) = ⊥
FinishGives f fed (Err follow.NoMemory) = Unit {0}

-- ---- the forks

abbrev pub len_of : Store → ForkId → ForkLen
len_of store fork = record { fork = fork; blocks = unwrap_or (block_count store fork) 0 }

-- the forks of a store, in order, each with its length
abbrev pub fork_lens : Store → List ForkLen
fork_lens store = map (len_of store) (keys store)
