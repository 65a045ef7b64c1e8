-- Laws of segment files that were made neat: they hold a store.
use Rattle.std.specs.Prelude.{ℕ, ◌<◌, Some}
use Rattle.lsn_core.specs.Files.{Files}
use Rattle.lsn_core.specs.Store.{Store}
use Rattle.vault.specs.declared.area.Vault.{Ghosts}
use Rattle.rel_neat.specs.Neat.{IsNeat, KeepsWhatStays}
use Rattle.data_areas.specs.Rebuilt.{HoldsPages}
use Rattle.data_areas.specs.declared.areas.DataAreas.{DataAreas}
use Rattle.restart_areas.specs.Areas.{AreNeat, KeepPages}
use Rattle.restart_areas.specs.Pages.{HoldParts}
use Rattle.neat_laws.specs.Room.{HasRoom, AreOwnFiles, AreOwnAreas}

-- neat segment files hold a store, and its pages are whole
abbrev pub NeatFilesHoldStores : Type 0
NeatFilesHoldStores =
    (relseg : ℕ) (files : Files) → 0 < relseg → IsNeat relseg files → HasRoom relseg files
    → (store : Store) × HoldsPages relseg (Some files) store

-- files keep their room and have no forks of other partitions while what stays of them stays
abbrev pub NeateningKeepsOwnFiles : {V : Type 0} → Ghosts V → Type 0
NeateningKeepsOwnFiles {V} g =
    (relseg q : ℕ) (old new : V) → 0 < relseg → KeepsWhatStays g relseg old new
    → AreOwnFiles relseg q (g.files old) → AreOwnFiles relseg q (g.files new)

-- so four areas that were made neat hold the parts of a store
abbrev pub NeatAreasHoldStores : {V : Type 0} → Ghosts V → Type 0
NeatAreasHoldStores {V} g =
    (relseg : ℕ) (old new : DataAreas V) → 0 < relseg → AreOwnAreas g relseg old
    → KeepPages g relseg old new → AreNeat g relseg new
    → (store : Store) × HoldParts g relseg new store
