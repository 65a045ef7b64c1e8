-- What a stop leaves of a store's areas at each moment of a restart: the WAL's area is synced
-- before anything happens to a data area, and cut only once these were brought back, durably.
use Rattle.std.specs.Prelude.{◌≡◌, ◌⊎◌, Some, None, IfSome}
use Rattle.lsn_core.specs.Files.{Files}
use Rattle.lsn_core.specs.Segment.{StoreSettings}
use Rattle.lsn_core.specs.Tip.{Tip}
use Rattle.lsn_core.specs.declared.lsn.Lsn.{Lsn}
use Rattle.vault.specs.Boxed.{on_heap}
use Rattle.vault.specs.declared.boxed.BoxedArea.{BoxedArea}
use Rattle.vault.specs.Frame.{Adds, ChangesOnly, Has, IsAmong, IsDurable}
use Rattle.vault.specs.declared.area.Vault.{Ghosts}
use Rattle.recovery.specs.declared.tally.Tally.{Tally}
use Rattle.data_areas.specs.declared.areas.DataAreas.{DataAreas}
use Rattle.data_areas.specs.Marking.{rebuilding_name}
use Rattle.data_areas.specs.Moments.{Past, AllGoOn, AreLeftNow, StopsLeave, pasts_of}
use Rattle.store_areas.specs.declared.areas.StoreAreas.{StoreAreas}
use Rattle.store_areas.specs.Begin.{data_of}
use Rattle.store_restart.specs.Restart.{AreDurable, BeginsAt, BringsBack, EndWith, HoldWhole, IsUnmarked}
use Rattle.store_restart.specs.Restarted.{plain}
use Rattle.store_restart.specs.Trimmed.{IsArchiveFile, KeepsFront}

-- ---- data areas

-- files that a stop left, as areas that tell them
abbrev pub as_left : Ghosts Files
as_left = record { files = λ m. Some m; faults = λ m. 0; past = λ m. None }

-- data areas that a stop left hold what the survivors of a WAL make from nothing
abbrev pub AreWholeLeft : StoreSettings → Tip → Files → DataAreas Files → Type 0
AreWholeLeft s tip wal left = (tally : Tally) × HoldWhole as_left s tip left tally wal

-- they are what a stop at this moment may leave, or the first of them has the mark of areas that
-- are made anew, or they are whole
abbrev pub IsRemadeLeft : StoreSettings → Tip → DataAreas Past → Files → DataAreas Files → Type 0
IsRemadeLeft s tip now wal left =
    AreLeftNow now left ⊎ (Has rebuilding_name left.data0 ⊎ AreWholeLeft s tip wal left)

-- data areas are made anew so that a stop at any moment leaves such ones
abbrev pub RemakesSafely : {V : Type 0} → Ghosts V → StoreSettings → Tip → DataAreas V → DataAreas V
    → Files → Type 0
RemakesSafely g s tip old new wal =
    StopsLeave (IsRemadeLeft s tip (pasts_of g old) wal) (pasts_of g old) (pasts_of g new)

-- data areas without the mark are brought on from the redo point
pub record RedoesSafely {V : Type 0} (g : Ghosts V) (s : StoreSettings) (tip : Tip)
    (old new : DataAreas V) (wal : Files) : Type 0 where
  pub from : Lsn
  pub begins : BeginsAt s tip (Some from) wal
  pub unmarked : IsUnmarked g old
  pub on : AllGoOn (pasts_of g old) (pasts_of g new)

abbrev pub BringsSafely : {V : Type 0} → Ghosts V → StoreSettings → Tip → DataAreas V → DataAreas V
    → Files → Type 0
BringsSafely g s tip old new wal =
    RemakesSafely g s tip old new wal ⊎ RedoesSafely g s tip old new wal

-- ---- all areas

-- the WAL's archive was cut behind a tip once the data areas were brought back, durably: what a
-- stop left before that place, it leaves at each moment
pub record TrimsLast {V : Type 0} (g : Ghosts V) (s : StoreSettings) (tip : Tip)
    (old : StoreAreas V) (wal : V) (new : StoreAreas V) : Type 0 where
  pub tally : Tally
  pub brings :
      IfSome (g.files old.wal) (BringsBack g s tip (data_of old) (data_of new) tally)
  pub durable : AreDurable g (data_of new)
  pub cut : Adds (IsAmong (IsArchiveFile s.segment)) (g.past wal) (g.past new.wal)
  pub keeps : KeepsFront s.segment tip.end (g.past wal) (g.past new.wal)

-- once the WAL's area was synced, and its survivors read, which end with a tip, the data areas were
-- brought on, and at last the archive was cut
pub record BringsLast {V : Type 0} (g : Ghosts V) (s : StoreSettings) (old : StoreAreas V)
    (wal : V) (new : StoreAreas V) : Type 0 where
  pub tip : Tip
  pub ends : IfSome (g.files old.wal) (EndWith s tip)
  pub synced : IsDurable (g.files old.wal) (g.past wal)
  pub brings : IfSome (g.files old.wal) (BringsSafely g s tip (data_of old) (data_of new))
  pub last : (g.past new.wal ≡ g.past wal) ⊎ TrimsLast g s tip old wal new

-- a restart, whatever it answers: the WAL's area was synced at most, and then nothing more
-- happened, or the store was brought on
pub record RestartsFrom {V : Type 0} (g : Ghosts V) (s : StoreSettings) (old new : StoreAreas V)
    : Type 0 where
  pub wal : V  -- the WAL's area once its survivors were read
  pub read : ChangesOnly g (λ name. ⊥) old.wal wal
  pub later : ((g.past new.wal ≡ g.past wal) × (data_of new ≡ data_of old))
      ⊎ BringsLast g s old wal new

-- so it was with the areas on the heap, or memory ran out before anything was done
pub record RestartsThere {V : Type 0} (g : Ghosts V) (s : StoreSettings) (old new : StoreAreas V)
    : Type 0 where
  pub before : StoreAreas (BoxedArea V)
  pub before_is : plain before ≡ old
  pub behind : StoreAreas (BoxedArea V)
  pub behind_is : plain behind ≡ new
  pub is : RestartsFrom (on_heap g) s before behind

abbrev pub RestartsSafely : {V : Type 0} → Ghosts V → StoreSettings → StoreAreas V → StoreAreas V
    → Type 0
RestartsSafely g s old new = (new ≡ old) ⊎ RestartsThere g s old new
