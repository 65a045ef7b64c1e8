-- What functions inside the crate do with data areas that were filled. No public contract cites
-- these.
use Rattle.std.specs.Prelude.{◌≡◌, ◌⊎◌, ℕ, Result, Ok, Err}
use Rattle.lsn_core.specs.Store.{Store}
use Rattle.vault.specs.Frame.{ChangesOnly}
use Rattle.vault.specs.declared.area.Vault.{Ghosts}
use Rattle.recovery.specs.declared.tally.Tally.{Tally}
use Rattle.data_areas.specs.declared.areas.DataAreas.{DataAreas}
use Rattle.data_areas.specs.Marking.{IsMark}
use Rattle.restart_areas.specs.Areas.{NoneChanges}
use Rattle.restart_areas.specs.Counting.{CountsAll}
use Rattle.restart_areas.specs.Pages.{HoldParts}
use Rattle.store_restart.specs.declared.fault.RestartWhy.{RestartWhy}
use Rattle.store_restart.specs.Causes.{IsDataWhy}
use Rattle.store_restart.specs.Restart.{AreDurable, IsUnmarked}

-- filled areas were made durable, without the mark: they hold what they did
pub record IsSettled {V : Type 0} (g : Ghosts V) (old new : DataAreas V)
    (done : Result Tally RestartWhy) (tally : Tally) : Type 0 where
  pub done_is : done ≡ Ok tally
  pub held : (relseg : ℕ) (store : Store) → HoldParts g relseg old store
      → HoldParts g relseg new store
  pub durable : AreDurable g new
  pub unmarked : IsUnmarked g new

-- they weren't filled, or one of them failed, or memory ran out
abbrev pub IsUnsettled : {V : Type 0} → Ghosts V → DataAreas V → DataAreas V
    → Result Tally RestartWhy → RestartWhy → Type 0
IsUnsettled g old new done why = (done ≡ Err why) ⊎ IsDataWhy g old new why

-- areas were made durable as they are, and counted
pub record IsFinished {V : Type 0} (g : Ghosts V) (relseg : ℕ) (old new : DataAreas V)
    (done : Result Tally RestartWhy) (tally : Tally) : Type 0 where
  pub was : Tally
  pub done_is : done ≡ Ok was
  pub durable : AreDurable g new
  pub counts : CountsAll g relseg new tally

-- areas were made durable as they are, and then the first one lost its mark
pub record UnmarksLast {V : Type 0} (g : Ghosts V) (old new : DataAreas V) : Type 0 where
  pub mid : DataAreas V
  pub none : NoneChanges g old mid
  pub durable : AreDurable g mid
  pub data0 : ChangesOnly g IsMark mid.data0 new.data0
  pub data1 : new.data1 ≡ mid.data1
  pub data2 : new.data2 ≡ mid.data2
  pub data3 : new.data3 ≡ mid.data3

-- they were synced at most, or so it was
abbrev pub SettlesSafely : {V : Type 0} → Ghosts V → DataAreas V → DataAreas V → Type 0
SettlesSafely g old new = NoneChanges g old new ⊎ UnmarksLast g old new

-- and so it was only where they were filled
abbrev pub SettlesFilled : {V : Type 0} → Ghosts V → DataAreas V → DataAreas V
    → Result Tally RestartWhy → Type 0
SettlesFilled g old new done =
    NoneChanges g old new ⊎ ((was : Tally) × ((done ≡ Ok was) × UnmarksLast g old new))
