-- What following an input comes to, where the input tells its bytes.
use Rattle.std.specs.Prelude.{◌≡◌, ℕ, ◌<◌, ◌≤◌, ◌⊎◌, List, [], ◌++◌, length, take, Option, Some, None, Result, Ok, Err}
use Rattle.lsn_core.specs.declared.lsn.Lsn.{Lsn}
use Rattle.wal_record.specs.declared.record.Record.{Record}
use Rattle.follow_laws.specs.Followed.{IsFollowed}
use Rattle.wal_follow.specs.declared.fault.FollowFault.{FollowFault}
use Rattle.wal_follow.specs.Following.{Following, StandsBehind, FollowsTo, RefusesStream, EndsWell, FinishGives}
use Rattle.follow_command.specs.declared.input.InputFault.{InputFault}
use Rattle.follow_command.specs.declared.input.InputFault.TheVariants as input

-- the most bytes of an input that are followed (profile)
abbrev pub most_input : ℕ
most_input = 268435456

-- a piece is a beginning of some bytes, empty exactly where these are
pub record IsInputFront (bytes piece : List ℕ) : Type 0 where
  pub front : piece ≡ take (length piece) bytes
  pub within : length piece ≤ length bytes
  pub ended : length piece ≡ 0 → bytes ≡ []

-- behind each stream that it stands behind, a follower was fed these bytes
abbrev pub IsFed : Following → Following → List ℕ → Type 0
IsFed old new piece = (fed : List ℕ) → StandsBehind old fed → FollowsTo old new fed piece

-- a beginning of some bytes, of at most so many, is refused behind each stream
pub record IsRefusedWithin (f : Following) (room : ℕ) (bytes : List ℕ) (why : FollowFault)
    : Type 0 where
  pub count : ℕ
  pub within : count ≤ room
  pub refused : (fed : List ℕ) → StandsBehind f fed
      → RefusesStream f.span.mib f.relseg (fed ++ take count bytes) why

-- one more piece of an input that has these bytes was fed, where there is room for so many: none
-- at its end
abbrev pub FeedAnswer :
    Following → Following → ℕ → List ℕ → Result (Option ℕ) InputFault → Type 0
FeedAnswer old new room bytes (Ok None) = (bytes ≡ []) × (new ≡ old)
FeedAnswer old new room bytes (Ok (Some count)) =
    (count ≤ length bytes) × IsFed old new (take count bytes)
FeedAnswer old new room bytes (Err (input.Input why)) = Unit {0}
FeedAnswer old new room bytes (Err (input.Long n)) =
    (n ≡ most_input) × (room < length bytes) × IsFed old new (take room bytes)
FeedAnswer old new room bytes (Err (input.Wal why)) = IsRefusedWithin old room bytes why

-- it goes by the same sizes
abbrev pub IsSizedAs : Following → Following → Type 0
IsSizedAs old new = (new.span.mib ≡ old.span.mib) × (new.relseg ≡ old.relseg)

-- a follower has read a stream of these bytes, up to where it waits for more
abbrev pub HasRead : Following → List ℕ → Type 0
HasRead f bytes = (rs : List Record) × IsFollowed f.span.mib f.relseg bytes rs f.tip f.store

-- a stream's WAL is refused: of a beginning of it, of at most so many bytes, or where its archive
-- ends
abbrev pub IsRefusedInput : Following → Following → List ℕ → FollowFault → Type 0
IsRefusedInput old new bytes why =
    ((count : ℕ) × (count ≤ most_input)
    × RefusesStream old.span.mib old.relseg (take count bytes) why)
    ⊎ ((length bytes ≤ most_input) × FinishGives new bytes (Err why) × IsSizedAs old new
    × HasRead new bytes)

-- an input of these bytes was followed to its end; it failed; it has more bytes than are followed,
-- and those are not refused; or its WAL is refused
abbrev pub InputAnswer : Following → Following → List ℕ → Result Lsn InputFault → Type 0
InputAnswer old new bytes (Ok end) =
    (length bytes ≤ most_input) × StandsBehind new bytes × EndsWell new bytes end
    × IsSizedAs old new
InputAnswer old new bytes (Err (input.Input why)) = Unit {0}
InputAnswer old new bytes (Err (input.Long n)) =
    (n ≡ most_input) × (most_input < length bytes) × StandsBehind new (take most_input bytes)
    × IsSizedAs old new
InputAnswer old new bytes (Err (input.Wal why)) = IsRefusedInput old new bytes why
