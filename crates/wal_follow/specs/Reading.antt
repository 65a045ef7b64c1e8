-- Reading and applying the entries that stand behind a tip, until no whole one does.
use Rattle.std.specs.Prelude.{◌≡◌, ◌≤◌, ◌+◌, Bool, true, false, List, length, map, Option, Some, None, IfSome}
use Rattle.lsn_core.specs.Files.{Files}
use Rattle.lsn_core.specs.Segment.{StoreSettings}
use Rattle.lsn_core.specs.Store.{Store}
use Rattle.lsn_core.specs.Tip.{Tip}
use Rattle.lsn_core.specs.declared.lsn.Lsn.{Lsn}
use Rattle.wal_record.specs.declared.record.Record.{Record}
use Rattle.wal_record.specs.Tips.{tip_after}
use Rattle.wal_archive.specs.declared.fault.Damage.TheVariants as damage
use Rattle.wal_archive.specs.declared.fault.Broken.TheVariants as broken
use Rattle.wal_archive.specs.Rules.{Found, End, Gives, Bad}
use Rattle.wal_reader.specs.Cursor.{IsGiven, IsReached}
use Rattle.wal_reader.specs.Wal.{stands_behind, ReadsOn}
use Rattle.history.specs.Apply.{apply, apply_all}
use Rattle.history.specs.Whole.{entry_of}
use Rattle.stream_laws.specs.Waiting.{IsCutShort}
use Rattle.wal_follow.specs.declared.fault.FollowFault.{FollowFault}
use Rattle.wal_follow.specs.declared.fault.FollowFault.TheVariants.{Damaged, BadDelta, NoMemory}

-- an entry that can't be applied to a store
abbrev pub RefusesEntry : Store → Record → FollowFault → Type 0
RefusesEntry store r (Damaged d) = ⊥
RefusesEntry store r (BadDelta at) = (at ≡ r.start) × (apply store (entry_of r) ≡ None)
RefusesEntry store r NoMemory = Unit {0}

-- no whole entry stands there: the archive ends, or it ends within an entry or a head
abbrev pub WaitsAs : Bool → Found → Type 0
WaitsAs true found = found ≡ End
WaitsAs false found = (at : Lsn) × (found ≡ Bad (damage.Broken at broken.Torn))

-- what is found behind entries that made a store is refused so
abbrev pub RefusesAt : Store → Found → FollowFault → Type 0
RefusesAt store found (Damaged d) = (found ≡ Bad d) × (IsCutShort d → ⊥)
RefusesAt store found (BadDelta at) =
    (r : Record) × (found ≡ Gives r) × (at ≡ r.start) × (apply store (entry_of r) ≡ None)
RefusesAt store found NoMemory = Unit {0}

abbrev pub RefusedAt : StoreSettings → Option Files → Tip → Store → FollowFault → Type 0
RefusedAt s files tip store why = IfSome files (λ m. RefusesAt store (stands_behind s m tip) why)

-- an entry was read behind a tip and applied, or none is whole there
abbrev pub TakesEntry :
    StoreSettings → Option Files → Tip → Tip → Store → Store → Bool → Option Record → Type 0
TakesEntry s files tip next store made ended (Some r) =
    IfSome files (λ m. stands_behind s m tip ≡ Gives r) × (next ≡ tip_after tip r)
    × (apply store (entry_of r) ≡ Some made) × IsGiven s.segment tip r
TakesEntry s files tip next store made ended None =
    IfSome files (λ m. WaitsAs ended (stands_behind s m tip)) × (next ≡ tip) × (made ≡ store)

-- entries were read behind a tip and applied, up to another tip
pub record GoesTo (s : StoreSettings) (files : Option Files) (tip : Tip) (store : Store)
    (rs : List Record) (last : Tip) (made : Store) : Type 0 where
  pub walk : IfSome files (λ m. ReadsOn s m tip rs last)
  pub makes : apply_all store (map entry_of rs) ≡ Some made
  pub reached : IsReached s.segment last
  pub later : tip.end ≤ last.end
  pub counted : last.count ≡ tip.count + length rs

-- and behind that no whole one stands
pub record ReadsTo (s : StoreSettings) (files : Option Files) (tip : Tip) (store : Store)
    (last : Tip) (made : Store) (ended : Bool) : Type 0 where
  pub rs : List Record
  pub goes : GoesTo s files tip store rs last made
  pub waits : IfSome files (λ m. WaitsAs ended (stands_behind s m last))

-- or behind that what stands there is refused so
pub record RefusedBehind (s : StoreSettings) (files : Option Files) (tip : Tip) (store : Store)
    (why : FollowFault) : Type 0 where
  pub rs : List Record
  pub last : Tip
  pub made : Store
  pub goes : GoesTo s files tip store rs last made
  pub refused : RefusedAt s files last made why
