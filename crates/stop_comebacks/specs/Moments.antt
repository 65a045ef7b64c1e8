-- What a stop leaves of all areas of a store at each moment of a call, which goes in parts, one
-- after the other.
use Rattle.std.specs.Prelude.{List, [], ◌∷◌}
use Rattle.lsn_core.specs.Files.{Files}
use Rattle.data_areas.specs.Moments.{Past, GoesOn, AllGoOn, LeftNow, LeftSince, AreLeftNow, AreLeftSince}
use Rattle.store_areas.specs.declared.areas.StoreAreas.{StoreAreas}
use Rattle.store_areas.specs.Begin.{data_of}

-- more may have happened since to each area
pub record StoreGoesOn (old new : StoreAreas Past) : Type 0 where
  pub wal : GoesOn old.wal new.wal
  pub pages : AllGoOn (data_of old) (data_of new)

-- a stop now may leave these files of each area; or one at a moment since then
pub record IsStoreLeftNow (now : StoreAreas Past) (left : StoreAreas Files) : Type 0 where
  pub wal : LeftNow now.wal left.wal
  pub pages : AreLeftNow (data_of now) (data_of left)

pub record IsStoreLeftSince (old new : StoreAreas Past) (left : StoreAreas Files) : Type 0 where
  pub wal : LeftSince old.wal new.wal left.wal
  pub pages : AreLeftSince (data_of old) (data_of new) (data_of left)

-- a part of a call, in which each stop leaves of all areas what has P
pub record StorePartLeaves (P : StoreAreas Files → Type 0) (old new : StoreAreas Past)
    : Type 0 where
  pub on : StoreGoesOn old new
  pub stops : (left : StoreAreas Files) → IsStoreLeftSince old new left → P left

-- parts one after the other, by what happened up to where each but the last ends
abbrev pub StorePartsLeave : (StoreAreas Files → Type 0) → StoreAreas Past → List (StoreAreas Past)
    → StoreAreas Past → Type 0
StorePartsLeave P old [] new = StorePartLeaves P old new
StorePartsLeave P old (end ∷ ends) new = StorePartLeaves P old end × StorePartsLeave P end ends new

-- a stop at any moment of a call leaves of all areas what has P
pub record StoreStopsLeave (P : StoreAreas Files → Type 0) (old new : StoreAreas Past)
    : Type 0 where
  pub ends : List (StoreAreas Past)
  pub parts : StorePartsLeave P old ends new
