-- The pages of a store in the segment files of four data areas.
use Rattle.std.specs.Prelude.{◌≡◌, ◌⊎◌, ℕ, zero, suc, ◌+◌, ◌-◌, ◌^◌, ◌<◌, min, List, [], ◌∷◌, map, Option, Some, None}
use Rattle.std.specs.List.{slice_get}
use Rattle.lsn_core.specs.Causes.{Rose}
use Rattle.lsn_core.specs.Store.{Store}
use Rattle.lsn_core.specs.declared.fault.AreaFault.{AreaFault}
use Rattle.lsn_core.specs.declared.fault.AreaFault.TheVariants.{Failed, NoMemory}
use Rattle.vault.specs.declared.area.Vault.{Ghosts}
use Rattle.history.specs.partitions.Parts.{IsPart}
use Rattle.rel_files.specs.Shown.{ShowsStore, KeepsOthers}
use Rattle.rel_files.specs.declared.forks.Forks.{Forks}
use Rattle.data_areas.specs.declared.areas.DataAreas.{DataAreas}
use Rattle.data_areas.specs.declared.store_forks.StoreForks.{StoreForks}
use Rattle.data_areas.specs.declared.store_forks.AreaFaults.{AreaFaults}
use Rattle.data_areas.specs.Areas.{listed}

-- ---- what they show

-- the segment files of a partition show the partition's part of a store
pub record ShowsPart {V : Type 0} (g : Ghosts V) (q : ℕ) (store : Store) (forks : List (Forks V))
    : Type 0 where
  pub files : Forks V
  pub there : slice_get forks q ≡ Some files
  pub part : Store
  pub part_is : IsPart q store part
  pub shown : ShowsStore g files part

-- those of all four show their parts
abbrev pub ShowsParts : {V : Type 0} → Ghosts V → StoreForks V → Store → Type 0
ShowsParts g forks store = (q : ℕ) → q < 4 → ShowsPart g q store forks.parts

-- ---- the areas

-- they are in these areas, so many blocks a file
pub record AreForksOf {V : Type 0} (relseg : ℕ) (areas : DataAreas V) (forks : StoreForks V)
    : Type 0 where
  pub areas_are : map (λ f. f.area) forks.parts ≡ listed areas
  pub sizes : map (λ f. f.relseg) forks.parts ≡ relseg ∷ (relseg ∷ (relseg ∷ (relseg ∷ [])))

-- ---- what calls keep

-- of each area only segment files of forks were changed
abbrev pub KeepEach : {V : Type 0} → Ghosts V → List (Forks V) → List (Forks V) → Type 0
KeepEach g [] [] = Unit {0}
KeepEach g (a ∷ old) (b ∷ new) = KeepsOthers g a b × KeepEach g old new
KeepEach g [] (b ∷ new) = ⊥
KeepEach g (a ∷ old) [] = ⊥

-- how often a call of the area of a number failed
abbrev pub count_at : {V : Type 0} → Ghosts V → List (Forks V) → ℕ → ℕ
count_at g [] q = 0
count_at g (f ∷ forks) zero = g.faults f.area
count_at g (f ∷ forks) (suc q) = count_at g forks q

-- the area that is named as the last one that failed did so
pub record NamesFault {V : Type 0} (g : Ghosts V) (old new : StoreForks V) : Type 0 where
  pub below : new.faults.last < 4
  pub rose : Rose (count_at g old.parts new.faults.last) (count_at g new.parts new.faults.last)

-- calls changed segment files of forks alone; and none failed, or they name an area that did
pub record KeepsAll {V : Type 0} (g : Ghosts V) (old new : StoreForks V) : Type 0 where
  pub each : KeepEach g old.parts new.parts
  pub named : (new.faults ≡ old.faults) ⊎ NamesFault g old new

-- ---- faults

-- a call on the area of a number failed, and was counted
pub record IsCounted (q : ℕ) (old new : AreaFaults) : Type 0 where
  pub count : new.count ≡ min (old.count + 1) (2 ^ 64 - 1)
  pub last : new.last ≡ q

abbrev pub CountsFault : ℕ → AreaFaults → AreaFaults → Option AreaFault → Type 0
CountsFault q old new None = new ≡ old
CountsFault q old new (Some Failed) = IsCounted q old new
CountsFault q old new (Some NoMemory) = new ≡ old
