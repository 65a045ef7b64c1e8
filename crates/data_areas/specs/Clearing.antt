-- Data areas that are marked and cleared.
use Rattle.std.specs.Prelude.{◌≡◌, ◌⊎◌, Option, IfSome, IsSome}
use Rattle.std.specs.Option.{is_some}
use Rattle.std.specs.FinMap.{empty}
use Rattle.lsn_core.specs.Files.{Files}
use Rattle.vault.specs.declared.area.Vault.{Ghosts}
use Rattle.data_areas.specs.declared.areas.DataAreas.{DataAreas}
use Rattle.data_areas.specs.Areas.{TellAlike}
use Rattle.data_areas.specs.Marking.{rebuilding_name, HasOnly}
use Rattle.data_areas.specs.Phases.{HasMarkSince, HaveMarkSince, TouchesMark, IsMarkedAtMost}

-- an area was cleared but for the mark; it tells its files where it did
pub record IsMarkedAlone (old new : Option Files) : Type 0 where
  pub tells : is_some new ≡ is_some old
  pub only : IfSome new (HasOnly rebuilding_name)

-- the first area has the mark alone, and the others are empty
pub record AreBare {V : Type 0} (g : Ghosts V) (areas : DataAreas V) : Type 0 where
  pub data0 : IfSome (g.files areas.data0) (HasOnly rebuilding_name)
  pub data1 : IfSome (g.files areas.data1) (λ m. m ≡ empty)
  pub data2 : IfSome (g.files areas.data2) (λ m. m ≡ empty)
  pub data3 : IfSome (g.files areas.data3) (λ m. m ≡ empty)

pub record AreCleared {V : Type 0} (g : Ghosts V) (old new : DataAreas V) : Type 0 where
  pub bare : AreBare g new
  pub tell : TellAlike g old new

-- clearing the first one that failed came so far: only its mark was touched, or it was marked
-- before anything else of it changed
abbrev pub HasTried : {V : Type 0} → Ghosts V → V → V → Type 0
HasTried g old new =
    IsMarkedAtMost g old new
    ⊎ HasMarkSince (IsSome (g.files old)) (g.past old) (g.past new)

-- clearing of the four that failed came so far
abbrev pub ClearedSoFar : {V : Type 0} → Ghosts V → DataAreas V → DataAreas V → Type 0
ClearedSoFar g old new = TouchesMark g old new ⊎ HaveMarkSince g old new
