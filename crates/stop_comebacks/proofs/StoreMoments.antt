-- Parts of a call, one after the other, in which a stop leaves of all areas what has P.
use Rattle.std.proofs.Common.{List, [], ◌∷◌, ◌++◌, map, refl}
use Rattle.lsn_core.specs.Files.{Files}
use Rattle.data_areas.specs.declared.areas.DataAreas.{DataAreas}
use Rattle.data_areas.specs.Moments.{Past, GoesOn, AllGoOn, LeftNow, LeftSince, AreLeftNow, AreLeftSince, PartLeaves, PartsLeave, StopsLeave}
use Rattle.data_areas.proofs.Moments.{stays}
use Rattle.store_areas.specs.declared.areas.StoreAreas.{StoreAreas}
use Rattle.store_areas.specs.Begin.{data_of}
use Rattle.store_restart.specs.Restarted.{areas_of}
use Rattle.store_restart.proofs.LeftBy.{quiet}
use Rattle.stop_comebacks.specs.Moments.{StorePartLeaves, StorePartsLeave, StoreStopsLeave}

pub one_part : (P : StoreAreas Files → Type 0) (x y : StoreAreas Past) → StorePartLeaves P x y → StoreStopsLeave P x y
one_part P x y part = record { ends = []; parts = part }

parts_join : (P : StoreAreas Files → Type 0) (x : StoreAreas Past) (ends : List (StoreAreas Past)) (y : StoreAreas Past) (more : List (StoreAreas Past)) (z : StoreAreas Past) → StorePartsLeave P x ends y → StorePartsLeave P y more z → StorePartsLeave P x (ends ++ (y ∷ more)) z
parts_join P x [] y more z first second = (first, second)
parts_join P x (end ∷ ends) y more z first second = (first.0, parts_join P end ends y more z first.1 second)

pub stops_join : (P : StoreAreas Files → Type 0) (x y z : StoreAreas Past) → StoreStopsLeave P x y → StoreStopsLeave P y z → StoreStopsLeave P x z
stops_join P x y z first second = record { ends = first.ends ++ (y ∷ second.ends); parts = parts_join P x first.ends y second.ends z first.parts second.parts }

quiet_data : (x : DataAreas Past) (left : DataAreas Files) → AreLeftSince x x left → AreLeftNow x left
quiet_data x left there = record {
  data0 = quiet x.data0 x.data0 left.data0 refl there.data0;
  data1 = quiet x.data1 x.data1 left.data1 refl there.data1;
  data2 = quiet x.data2 x.data2 left.data2 refl there.data2;
  data3 = quiet x.data3 x.data3 left.data3 refl there.data3;
}

-- a part in which nothing happens to data areas
pub wal_stops : (P : StoreAreas Files → Type 0) (w v : Past) (x : DataAreas Past) → GoesOn w v → ((left : StoreAreas Files) → LeftSince w v left.wal → AreLeftNow x (data_of left) → P left) → StoreStopsLeave P (areas_of w x) (areas_of v x)
wal_stops P w v x on leaves = one_part P (areas_of w x) (areas_of v x) (record {
  on = record {
    wal = on;
    pages = record {
      data0 = stays x.data0 x.data0 refl;
      data1 = stays x.data1 x.data1 refl;
      data2 = stays x.data2 x.data2 refl;
      data3 = stays x.data3 x.data3 refl;
    };
  };
  stops = λ left there.
      let pages = there.pages in
      leaves left there.wal (quiet_data x (data_of left) (record { data0 = pages.data0; data1 = pages.data1; data2 = pages.data2; data3 = pages.data3 }));
})

-- parts in which nothing happens to the WAL's area
data_part : (P : StoreAreas Files → Type 0) (Q : DataAreas Files → Type 0) (w : Past) (x y : DataAreas Past) → ((left : StoreAreas Files) → LeftNow w left.wal → Q (data_of left) → P left) → PartLeaves Q x y → StorePartLeaves P (areas_of w x) (areas_of w y)
data_part P Q w x y leads part =
    let on = part.on in
    record {
      on = record {
        wal = stays w w refl;
        pages = record { data0 = on.data0; data1 = on.data1; data2 = on.data2; data3 = on.data3 };
      };
      stops = λ left there.
          let pages = there.pages in
          leads left (quiet w w left.wal refl there.wal) (part.stops (data_of left) (record { data0 = pages.data0; data1 = pages.data1; data2 = pages.data2; data3 = pages.data3 }));
    }

data_parts : (P : StoreAreas Files → Type 0) (Q : DataAreas Files → Type 0) (w : Past) (x : DataAreas Past) (ends : List (DataAreas Past)) (y : DataAreas Past) → ((left : StoreAreas Files) → LeftNow w left.wal → Q (data_of left) → P left) → PartsLeave Q x ends y
    → StorePartsLeave P (areas_of w x) (map (λ z. areas_of w z) ends) (areas_of w y)
data_parts P Q w x [] y leads part = data_part P Q w x y leads part
data_parts P Q w x (end ∷ ends) y leads parts = (data_part P Q w x end leads parts.0, data_parts P Q w end ends y leads parts.1)

pub data_stops : (P : StoreAreas Files → Type 0) (Q : DataAreas Files → Type 0) (w : Past) (x y : DataAreas Past) → ((left : StoreAreas Files) → LeftNow w left.wal → Q (data_of left) → P left) → StopsLeave Q x y → StoreStopsLeave P (areas_of w x) (areas_of w y)
data_stops P Q w x y leads stops = record { ends = map (λ z. areas_of w z) stops.ends; parts = data_parts P Q w x stops.ends y leads stops.parts }

-- a part of which nothing is told of data areas
pub any_stops : (P : StoreAreas Files → Type 0) (w : Past) (x y : DataAreas Past) → AllGoOn x y → ((left : StoreAreas Files) → LeftNow w left.wal → P left) → StoreStopsLeave P (areas_of w x) (areas_of w y)
any_stops P w x y on leads = one_part P (areas_of w x) (areas_of w y) (data_part P (λ left. Unit {0}) w x y (λ left wal any. leads left wal) (record { on = on; stops = λ left there. tt }))
