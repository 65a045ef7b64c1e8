-- How a store begins that was found: its passes, the ledgers that are handed over, its areas.
use Rattle.std.specs.Prelude.{◌≡◌, ℕ, zero, suc, List, [], ◌∷◌, ◌++◌}
use Rattle.vault.specs.declared.area.Vault.{Ghosts}
use Rattle.history.specs.Entry.{Entry}
use Rattle.store_areas.specs.declared.areas.StoreAreas.{StoreAreas}
use Rattle.store_areas.specs.declared.found.Found.{Found}
use Rattle.store_ledgers.specs.declared.blanks.Blanks.{Blanks}
use Rattle.store_locks.specs.Seen.{Seen, fresh_pass}
use Rattle.store_areas.specs.Opened.{past_of}
use Rattle.store_locks.specs.Locked.{WalStart}
use Rattle.store_areas.specs.Begin.{faults_of, files_of_data, shown_of}

-- the passes of so many workers, in order
abbrev pub fresh_passes : ℕ → List Entry → List Seen
fresh_passes zero history = []
fresh_passes (suc worker) history =
    fresh_passes worker history ++ (fresh_pass worker history ∷ [])

-- the ledgers that are handed over are those that are named, each with its parts
pub record AreNamed (entries faults : ℕ → ℕ) (made passes : ℕ) (blanks : Blanks) : Type 0 where
  pub entries0 : (blanks.entries0.name ≡ entries 0) × (blanks.entries0.parts ≡ 1)
  pub entries1 : (blanks.entries1.name ≡ entries 1) × (blanks.entries1.parts ≡ 1)
  pub entries2 : (blanks.entries2.name ≡ entries 2) × (blanks.entries2.parts ≡ 1)
  pub entries3 : (blanks.entries3.name ≡ entries 3) × (blanks.entries3.parts ≡ 1)
  pub made_are : (blanks.made.name ≡ made) × (blanks.made.parts ≡ passes)
  pub data0 : (blanks.data0.name ≡ faults 0) × (blanks.data0.parts ≡ passes)
  pub data1 : (blanks.data1.name ≡ faults 1) × (blanks.data1.parts ≡ passes)
  pub data2 : (blanks.data2.name ≡ faults 2) × (blanks.data2.parts ≡ passes)
  pub data3 : (blanks.data3.name ≡ faults 3) × (blanks.data3.parts ≡ passes)
  pub wal : (blanks.wal.name ≡ faults 4) × (blanks.wal.parts ≡ passes)
  pub sums : (blanks.sums.name ≡ faults 5) × (blanks.sums.parts ≡ passes)

-- how the areas are at the beginning
pub record AreStarts {V : Type 0} (g : Ghosts V) (starts : ℕ → ℕ) (from : WalStart)
    (found : Found V) : Type 0 where
  pub data0 : starts 0 ≡ found.parts.part0.faults
  pub data1 : starts 1 ≡ found.parts.part1.faults
  pub data2 : starts 2 ≡ found.parts.part2.faults
  pub data3 : starts 3 ≡ found.parts.part3.faults
  pub wal : starts 4 ≡ g.faults found.wal
  pub from_is : from ≡ record { files = g.files found.wal; flushed = found.tip.end }

-- no memory: the areas of a store that was found are handed back as they were
pub record AreBack {V : Type 0} (g : Ghosts V) (found : Found V) (areas : StoreAreas V)
    : Type 0 where
  pub wal : areas.wal ≡ found.wal
  pub files : files_of_data g areas
      ≡ record {
        data0 = found.parts.part0.disk;
        data1 = found.parts.part1.disk;
        data2 = found.parts.part2.disk;
        data3 = found.parts.part3.disk;
      }
  pub past : past_of g areas ≡ (shown_of g found).past
  pub faults : faults_of g areas ≡ (shown_of g found).faults
