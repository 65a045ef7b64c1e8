-- What functions inside the crate answer. No public contract cites these.
use Rattle.std.specs.Prelude.{◌≡◌, ℕ, min, Bool, true, List, ◌++◌, length, take, replicate, Some, Result, Ok, Err}
use Rattle.lsn_core.specs.declared.lsn.Lsn.{Lsn}
use Rattle.wal_archive.specs.Rules.{Found, Bad}
use Rattle.wal_archive.specs.declared.fault.Damage.{Damage}
use Rattle.wal_reader.specs.Settings.{system_in}
use Rattle.wal_reader.specs.Wal.{stands_behind}
use Rattle.stream_laws.specs.Windows.{span_files, span_top}
use Rattle.wal_follow.specs.declared.fault.FollowFault.{FollowFault}
use Rattle.wal_follow.specs.declared.fault.FollowFault.TheVariants as follow
use Rattle.wal_follow.specs.Window.{TakesPiece, DropsBefore}
use Rattle.wal_follow.specs.Reading.{ReadsTo, RefusedBehind}
use Rattle.wal_follow.specs.Following.{Following, front_size, settings_of}

-- it is all zeros, the archive ended there, and the identifier stays
pub record IsQuiet (old : Following) (piece : List ℕ) (new : Following) : Type 0 where
  pub zeros : piece ≡ replicate (length piece) 0
  pub ended : old.ended ≡ true
  pub system : system_in new.front ≡ system_in old.front

-- a piece came, and whether for it nothing stands behind the entries that were read
pub record TakesIn (old : Following) (piece : List ℕ) (new : Following) (nothing : Bool)
    : Type 0 where
  pub front : new.front ≡ take front_size (old.front ++ piece)
  pub span : TakesPiece old.span piece new.span
  pub rest : new ≡ record old { front = new.front; span = new.span }
  pub quiet : nothing ≡ true → IsQuiet old piece new

-- the entries that are whole in the window were read
pub record ReadsEntries (old new : Following) : Type 0 where
  pub reads : ReadsTo (settings_of old) (Some (span_files old.span)) old.tip old.store
      new.tip new.store new.ended
  pub rest : new
      ≡ record old { tip = new.tip; store = new.store; ended = new.ended }

-- or what stands behind those that were read is refused
abbrev pub RefusedIn : Following → FollowFault → Type 0
RefusedIn f why =
    RefusedBehind (settings_of f) (Some (span_files f.span)) f.tip f.store why

-- the bytes before the tip were forgotten
pub record ForgetsRead (old new : Following) : Type 0 where
  pub span : DropsBefore old.span (min old.tip.end (span_top old.span)) new.span
  pub rest : new ≡ record old { span = new.span }

-- what stands behind the tip in the window
abbrev pub found_behind : Following → Found
found_behind f = stands_behind (settings_of f) (span_files f.span) f.tip

-- the end that is answered where nothing is damaged, and the damage
abbrev pub AsksFound : Following → Result Lsn FollowFault → Type 0
AsksFound f (Ok end) = (end.0 ≡ f.tip.end) × ((d : Damage) → found_behind f ≡ Bad d → ⊥)
AsksFound f (Err (follow.Damaged d)) = found_behind f ≡ Bad d
AsksFound f (Err (follow.BadDelta at)) = ⊥
AsksFound f (Err follow.NoMemory) = Unit {0}
