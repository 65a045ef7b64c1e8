-- Data areas that hold pages, and partitions that were made of them.
use Rattle.std.specs.Prelude.{◌≡◌, ℕ, ◌≤◌, Option, IfSome}
use Rattle.std.specs.Option.{is_some}
use Rattle.lsn_core.specs.Files.{Files}
use Rattle.lsn_core.specs.Store.{Store, files_of}
use Rattle.vault.specs.Frame.{LeavesNow}
use Rattle.vault.specs.declared.area.Vault.{Ghosts}
use Rattle.rel_files.specs.Forks.{HasWholePages}
use Rattle.rel_files.specs.Shown.{AreFilesOf}
use Rattle.rel_files.specs.Laws.{HasOnlyForks}
use Rattle.page_pool.specs.Part.{Part}
use Rattle.page_pool.specs.Steps.{IsClean}
use Rattle.data_areas.specs.declared.areas.DataAreas.{DataAreas}
use Rattle.data_areas.specs.declared.settling.Partitions.{Partitions}
use Rattle.data_areas.specs.Areas.{area_of}

-- the files that an area tells hold these pages, at so many blocks a file, and each is whole
pub record HoldsPages (relseg : ℕ) (told : Option Files) (pages : Store) : Type 0 where
  pub files : AreFilesOf relseg told pages
  pub whole : HasWholePages pages

-- the area of a number holds them
abbrev pub held_by : {V : Type 0} → Ghosts V → ℕ → DataAreas V → ℕ → Store → Type 0
held_by g relseg areas q pages = HoldsPages relseg (g.files (area_of areas q)) pages

-- a partition was made of the pages that its area holds, from a place on, up to which the WAL is
-- flushed: the area has just the files of these pages, all of them segment files of forks, and a
-- stop leaves them
pub record IsRebuilt (relseg from faults : ℕ) (told : Option Files) (part : Part) : Type 0 where
  pub frames : (pages : Store) → HoldsPages relseg told pages → part.frames ≡ pages
  pub clean : IsClean part
  pub point : part.point ≡ from
  pub flushed : part.flushed ≡ from
  pub relseg_is : part.relseg ≡ relseg
  pub tells : is_some part.disk ≡ is_some told
  pub files : IfSome part.disk (λ files. files ≡ files_of relseg part.frames)
  pub only : IfSome part.disk HasOnlyForks
  pub settled : IfSome part.disk (λ files. LeavesNow (λ left. left ≡ files) part.past)
  pub later : faults ≤ part.faults

-- all four
pub record AreRebuilt {A V : Type 0} (g : Ghosts A) (relseg from : ℕ) (areas : DataAreas A)
    (parts : Partitions V) : Type 0 where
  pub part0 : IsRebuilt relseg from (g.faults areas.data0) (g.files areas.data0) parts.part0
  pub part1 : IsRebuilt relseg from (g.faults areas.data1) (g.files areas.data1) parts.part1
  pub part2 : IsRebuilt relseg from (g.faults areas.data2) (g.files areas.data2) parts.part2
  pub part3 : IsRebuilt relseg from (g.faults areas.data3) (g.files areas.data3) parts.part3
