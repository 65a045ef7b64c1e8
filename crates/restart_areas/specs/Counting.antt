-- How many forks and pages data areas have.
use Rattle.std.specs.Prelude.{◌≡◌, ◌⊎◌, ℕ, ◌+◌, List, length, Option, Result, Ok, Err}
use Rattle.std.specs.List.{sum_by}
use Rattle.lsn_core.specs.Files.{Files}
use Rattle.lsn_core.specs.Store.{Store}
use Rattle.lsn_core.specs.declared.fault.AreaFault.{AreaFault}
use Rattle.lsn_core.specs.declared.fault.StoreFault.{StoreFault}
use Rattle.lsn_core.specs.declared.fault.StoreFault.TheVariants.{NoMemory}
use Rattle.lsn_core.specs.declared.ids.ForkLen.{ForkLen}
use Rattle.vault.specs.declared.area.Vault.{Ghosts}
use Rattle.vault.specs.Frame.{OnlyReads}
use Rattle.recovery.specs.declared.tally.Tally.{Tally}
use Rattle.rel_files.specs.Forks.{fork_lengths}
use Rattle.data_areas.specs.declared.areas.DataAreas.{DataAreas}
use Rattle.data_areas.specs.Areas.{data_fault}
use Rattle.data_areas.specs.Rebuilt.{HoldsPages}

-- how many forks a list has, and how many pages they have together
pub record IsCountOf (list : List ForkLen) (tally : Tally) : Type 0 where
  pub forks : tally.forks ≡ length list
  pub pages : tally.pages ≡ sum_by (λ f. f.blocks) list

-- how many the files of an area hold
abbrev pub CountsPages : ℕ → Option Files → Tally → Type 0
CountsPages relseg told tally =
    (part : Store) → HoldsPages relseg told part → IsCountOf (fork_lengths part) tally

-- the counts of four areas together
pub record IsSum (first second third fourth tally : Tally) : Type 0 where
  pub forks : tally.forks ≡ first.forks + second.forks + third.forks + fourth.forks
  pub pages : tally.pages ≡ first.pages + second.pages + third.pages + fourth.pages

pub record SumsUp (first second third fourth : Result Tally AreaFault)
    (tally : Tally) : Type 0 where
  pub one : Tally
  pub two : Tally
  pub three : Tally
  pub four : Tally
  pub one_is : first ≡ Ok one
  pub two_is : second ≡ Ok two
  pub three_is : third ≡ Ok three
  pub four_is : fourth ≡ Ok four
  pub together : IsSum one two three four tally

-- the count of the area of a number failed so
abbrev pub FailsAt : ℕ → Result Tally AreaFault → StoreFault → Type 0
FailsAt q counted fault = (why : AreaFault) × ((counted ≡ Err why) × (fault ≡ data_fault q why))

-- memory ran out, or one of four counts failed
abbrev pub IsFaultOf : Result Tally AreaFault → Result Tally AreaFault → Result Tally AreaFault
    → Result Tally AreaFault → StoreFault → Type 0
IsFaultOf first second third fourth fault =
    (fault ≡ NoMemory) ⊎ (FailsAt 0 first fault ⊎ (FailsAt 1 second fault
    ⊎ (FailsAt 2 third fault ⊎ FailsAt 3 fourth fault)))

-- as many forks and pages as four areas hold together
pub record CountsAll {V : Type 0} (g : Ghosts V) (relseg : ℕ) (areas : DataAreas V) (tally : Tally)
    : Type 0 where
  pub first : Tally
  pub second : Tally
  pub third : Tally
  pub fourth : Tally
  pub data0 : CountsPages relseg (g.files areas.data0) first
  pub data1 : CountsPages relseg (g.files areas.data1) second
  pub data2 : CountsPages relseg (g.files areas.data2) third
  pub data3 : CountsPages relseg (g.files areas.data3) fourth
  pub together : IsSum first second third fourth tally

-- four areas were only read
pub record EachReads {V : Type 0} (g : Ghosts V) (old new : DataAreas V) : Type 0 where
  pub data0 : OnlyReads g old.data0 new.data0
  pub data1 : OnlyReads g old.data1 new.data1
  pub data2 : OnlyReads g old.data2 new.data2
  pub data3 : OnlyReads g old.data3 new.data3
