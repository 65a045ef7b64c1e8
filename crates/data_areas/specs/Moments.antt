-- What a stop leaves of four areas at each moment of a call. A call goes in parts, one after the
-- other; in each part the four go on in any order.
use Rattle.std.specs.Prelude.{List, [], ◌∷◌, length, Option, Some, None}
use Rattle.lsn_core.specs.Files.{Files}
use Rattle.vault.specs.Stops.{Event, MayLeave, MightHaveLeft}
use Rattle.vault.specs.Frame.{Adds}
use Rattle.vault.specs.declared.area.Vault.{Ghosts}
use Rattle.data_areas.specs.declared.areas.DataAreas.{DataAreas}
use Rattle.data_areas.specs.declared.settling.Partitions.{Partitions}

-- what happened so far to an area, where it tells that; and to each of the four
abbrev pub Past : Type 0
Past = Option (List Event)

abbrev pub pasts_of : {V : Type 0} → Ghosts V → DataAreas V → DataAreas Past
pasts_of g areas = record {
  data0 = g.past areas.data0;
  data1 = g.past areas.data1;
  data2 = g.past areas.data2;
  data3 = g.past areas.data3;
}

-- and to the areas of partitions
abbrev pub pasts_in : {V : Type 0} → Partitions V → DataAreas Past
pasts_in parts = record {
  data0 = parts.part0.past;
  data1 = parts.part1.past;
  data2 = parts.part2.past;
  data3 = parts.part3.past;
}

-- more may have happened since to an area; and to each of the four
abbrev pub GoesOn : Past → Past → Type 0
GoesOn old new = Adds (λ event. Unit {0}) old new

pub record AllGoOn (old new : DataAreas Past) : Type 0 where
  pub data0 : GoesOn old.data0 new.data0
  pub data1 : GoesOn old.data1 new.data1
  pub data2 : GoesOn old.data2 new.data2
  pub data3 : GoesOn old.data3 new.data3

-- an area tells its past, and a stop now may leave these files of it; or one at a moment since then
abbrev pub LeftNow : Past → Files → Type 0
LeftNow None left = ⊥
LeftNow (Some events) left = MayLeave events left

abbrev pub LeftSince : Past → Past → Files → Type 0
LeftSince None new left = ⊥
LeftSince (Some old) None left = ⊥
LeftSince (Some old) (Some new) left = MightHaveLeft new (length old) left

-- so it is with all four
pub record AreLeftNow (now : DataAreas Past) (left : DataAreas Files) : Type 0 where
  pub data0 : LeftNow now.data0 left.data0
  pub data1 : LeftNow now.data1 left.data1
  pub data2 : LeftNow now.data2 left.data2
  pub data3 : LeftNow now.data3 left.data3

pub record AreLeftSince (old new : DataAreas Past) (left : DataAreas Files) : Type 0 where
  pub data0 : LeftSince old.data0 new.data0 left.data0
  pub data1 : LeftSince old.data1 new.data1 left.data1
  pub data2 : LeftSince old.data2 new.data2 left.data2
  pub data3 : LeftSince old.data3 new.data3 left.data3

-- a part of a call, in which each stop leaves of the four what has P
pub record PartLeaves (P : DataAreas Files → Type 0) (old new : DataAreas Past) : Type 0 where
  pub on : AllGoOn old new
  pub stops : (left : DataAreas Files) → AreLeftSince old new left → P left

-- parts one after the other, by what happened up to where each but the last ends
abbrev pub PartsLeave : (DataAreas Files → Type 0) → DataAreas Past → List (DataAreas Past)
    → DataAreas Past → Type 0
PartsLeave P old [] new = PartLeaves P old new
PartsLeave P old (end ∷ ends) new = PartLeaves P old end × PartsLeave P end ends new

-- a stop at any moment of a call leaves of the four what has P. Of what happened to the four no
-- common order is told, but a call that says this whatever it answers says it of each moment: from
-- there on all calls of the areas may fail
pub record StopsLeave (P : DataAreas Files → Type 0) (old new : DataAreas Past) : Type 0 where
  pub ends : List (DataAreas Past)
  pub parts : PartsLeave P old ends new
