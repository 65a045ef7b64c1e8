-- The pages of a store in the segment files of its data areas, whatever store they hold.
use Rattle.std.specs.Prelude.{ℕ, ◌<◌}
use Rattle.lsn_core.specs.Store.{Store}
use Rattle.vault.specs.declared.area.Vault.{Ghosts}
use Rattle.history.specs.partitions.Parts.{IsPart}
use Rattle.data_areas.specs.declared.areas.DataAreas.{DataAreas}
use Rattle.data_areas.specs.declared.store_forks.StoreForks.{StoreForks}
use Rattle.data_areas.specs.declared.store_forks.AreaFaults.{AreaFaults}
use Rattle.data_areas.specs.Rebuilt.{held_by}
use Rattle.data_areas.specs.Stored.{ShowsParts, KeepsAll}
use Rattle.restart_areas.specs.declared.store_pages.CallFaults.{CallFaults}
use Rattle.restart_areas.specs.declared.store_pages.StorePages.{StorePages}

-- areas hold the parts of a store, each that of its partition, and no other segment files of forks
abbrev pub HoldParts : {V : Type 0} → Ghosts V → ℕ → DataAreas V → Store → Type 0
HoldParts g relseg areas store =
    (q : ℕ) → q < 4 → (part : Store) × (IsPart q store part × held_by g relseg areas q part)

-- the same pages and faults as those that a rebuilding goes over
abbrev pub faults_seen : CallFaults → AreaFaults
faults_seen faults = record { count = faults.count; last = faults.last }

abbrev pub seen : {V : Type 0} → StorePages V → StoreForks V
seen pages = record { parts = pages.parts; faults = faults_seen pages.faults }

-- they show a store of which the areas hold the parts
abbrev pub ShowsPages : {V : Type 0} → Ghosts V → StorePages V → Store → Type 0
ShowsPages g pages store = ShowsParts g (seen pages) store

-- of the areas calls changed segment files of forks alone; and none failed, or they name an area
-- that did
abbrev pub KeepsPages : {V : Type 0} → Ghosts V → StorePages V → StorePages V → Type 0
KeepsPages g old new = KeepsAll g (seen old) (seen new)
