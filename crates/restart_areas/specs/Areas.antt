-- What calls on the four data areas leave of each.
use Rattle.std.specs.Prelude.{ℕ, List, IfSome}
use Rattle.vault.specs.declared.area.Vault.{Ghosts}
use Rattle.vault.specs.Frame.{ChangesOnly}
use Rattle.rel_files.specs.Forks.{IsForkPath}
use Rattle.rel_files.specs.Laws.{HasNoForks}
use Rattle.rel_neat.specs.Neat.{IsNeat, KeepsWhatStays}
use Rattle.data_areas.specs.declared.areas.DataAreas.{DataAreas}

-- of each area only these files changed
pub record EachChanges {V : Type 0} (g : Ghosts V) (Among : List ℕ → Type 0) (old new : DataAreas V)
    : Type 0 where
  pub data0 : ChangesOnly g Among old.data0 new.data0
  pub data1 : ChangesOnly g Among old.data1 new.data1
  pub data2 : ChangesOnly g Among old.data2 new.data2
  pub data3 : ChangesOnly g Among old.data3 new.data3

-- only segment files of forks did
abbrev pub ForksChange : {V : Type 0} → Ghosts V → DataAreas V → DataAreas V → Type 0
ForksChange g old new = EachChanges g IsForkPath old new

-- none did: they were synced at most
abbrev pub NoneChanges : {V : Type 0} → Ghosts V → DataAreas V → DataAreas V → Type 0
NoneChanges g old new = EachChanges g (λ name. ⊥) old new

-- none has a segment file of a fork
pub record AreClear {V : Type 0} (g : Ghosts V) (areas : DataAreas V) : Type 0 where
  pub data0 : IfSome (g.files areas.data0) HasNoForks
  pub data1 : IfSome (g.files areas.data1) HasNoForks
  pub data2 : IfSome (g.files areas.data2) HasNoForks
  pub data3 : IfSome (g.files areas.data3) HasNoForks

-- the segment files of each are neat
pub record AreNeat {V : Type 0} (g : Ghosts V) (relseg : ℕ) (areas : DataAreas V)
    : Type 0 where
  pub data0 : IfSome (g.files areas.data0) (IsNeat relseg)
  pub data1 : IfSome (g.files areas.data1) (IsNeat relseg)
  pub data2 : IfSome (g.files areas.data2) (IsNeat relseg)
  pub data3 : IfSome (g.files areas.data3) (IsNeat relseg)

-- what stays of each area's pages stays, also where a stop comes meanwhile
pub record KeepPages {V : Type 0} (g : Ghosts V) (relseg : ℕ) (old new : DataAreas V)
    : Type 0 where
  pub data0 : KeepsWhatStays g relseg old.data0 new.data0
  pub data1 : KeepsWhatStays g relseg old.data1 new.data1
  pub data2 : KeepsWhatStays g relseg old.data2 new.data2
  pub data3 : KeepsWhatStays g relseg old.data3 new.data3
