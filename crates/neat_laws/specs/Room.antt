-- Segment files of which a store can be made: no fork in them is too long, or another partition's.
use Rattle.std.specs.Prelude.{◌≡◌, ℕ, ◌<◌, false, Option, Some, None}
use Rattle.std.specs.FinMap.{get}
use Rattle.lsn_core.specs.Files.{Files}
use Rattle.lsn_core.specs.Names.{fork_path_bytes, IsNamed}
use Rattle.lsn_core.specs.declared.ids.ForkId.{ForkId}
use Rattle.vault.specs.declared.area.Vault.{Ghosts}
use Rattle.history.specs.partitions.Parts.{is_of}
use Rattle.stop_areas.specs.Left.{LacksPage}
use Rattle.data_areas.specs.declared.areas.DataAreas.{DataAreas}
use Rattle.data_areas.specs.Areas.{area_of}

-- how many pages a fork may have (profile), which is the first number that none of its blocks has
unfoldable pub page_limit : ℕ
page_limit = 4294967295

-- no fork has a page at that number
abbrev pub HasRoom : ℕ → Files → Type 0
HasRoom relseg files = (fork : ForkId) → IsNamed fork 0 → LacksPage relseg files fork page_limit

-- no fork of another partition has a first file
abbrev pub HasOwnForks : ℕ → Files → Type 0
HasOwnForks q files = (fork : ForkId) → IsNamed fork 0 → is_of q fork ≡ false
    → get files (fork_path_bytes fork 0 false) ≡ None

-- an area tells such files of a partition
pub record AreOwnFiles (relseg q : ℕ) (told : Option Files) : Type 0 where
  pub files : Files
  pub are_told : told ≡ Some files
  pub room : HasRoom relseg files
  pub own : HasOwnForks q files

-- each of four areas tells such files of its partition
abbrev pub AreOwnAreas : {V : Type 0} → Ghosts V → ℕ → DataAreas V → Type 0
AreOwnAreas g relseg areas =
    (q : ℕ) → q < 4 → AreOwnFiles relseg q (g.files (area_of areas q))
