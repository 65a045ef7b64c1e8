-- Data areas that were filled, made durable and opened.
use Rattle.std.specs.Prelude.{◌≡◌, ◌≢◌, ◌⊎◌, ℕ, ◌≤◌, List, Option, None, IfSome, IsSome}
use Rattle.std.specs.Option.{is_some}
use Rattle.std.specs.FinMap.{get}
use Rattle.lsn_core.specs.Causes.{Rose}
use Rattle.lsn_core.specs.Files.{Files}
use Rattle.lsn_core.specs.Store.{Store}
use Rattle.lsn_core.specs.declared.fault.AreaFault.{AreaFault}
use Rattle.lsn_core.specs.declared.fault.AreaFault.TheVariants.{Failed}
use Rattle.vault.specs.declared.area.Vault.{Ghosts}
use Rattle.vault.specs.Stops.{Event}
use Rattle.vault.specs.Frame.{IsAmong, Adds, LeavesNow}
use Rattle.rel_files.specs.Forks.{IsForkPath}
use Rattle.rel_files.specs.Laws.{HasOnlyForks}
use Rattle.page_pool.specs.Part.{Part}
use Rattle.page_pool.specs.Steps.{IsClean}
use Rattle.data_areas.specs.declared.areas.DataAreas.{DataAreas}
use Rattle.data_areas.specs.declared.settling.Partitions.{Partitions}
use Rattle.data_areas.specs.Areas.{area_of}
use Rattle.data_areas.specs.Marking.{rebuilding_name, IsOther}
use Rattle.data_areas.specs.Phases.{first_past, HasEnded, AreOthersRebuilt}
use Rattle.data_areas.specs.Rebuilt.{HoldsPages, held_by}

-- no file but segment files of forks and the mark
abbrev pub HasOnlyForksAndMark : Files → Type 0
HasOnlyForksAndMark files = (path : List ℕ) → (IsForkPath path → ⊥) → path ≢ rebuilding_name
    → get files path ≡ None

-- where an area tells its files, they hold pages
abbrev pub HasPages : {V : Type 0} → Ghosts V → ℕ → V → Type 0
HasPages g relseg area =
    IsSome (g.files area) → (pages : Store) × HoldsPages relseg (g.files area) pages

-- areas have no files but those of forks, which hold pages, and the first one the mark
pub record AreFilled {V : Type 0} (g : Ghosts V) (relseg : ℕ) (areas : DataAreas V)
    : Type 0 where
  pub data0 : IfSome (g.files areas.data0) HasOnlyForksAndMark
  pub data1 : IfSome (g.files areas.data1) HasOnlyForks
  pub data2 : IfSome (g.files areas.data2) HasOnlyForks
  pub data3 : IfSome (g.files areas.data3) HasOnlyForks
  pub held : (q : ℕ) → HasPages g relseg (area_of areas q)

-- a filled area was made durable, without the mark: it holds the pages that it did
pub record IsSettled {V : Type 0} (g : Ghosts V) (relseg : ℕ) (old new : V) : Type 0 where
  pub tells : is_some (g.files new) ≡ is_some (g.files old)
  pub held : (pages : Store) → HoldsPages relseg (g.files old) pages
      → HoldsPages relseg (g.files new) pages
  pub only : IfSome (g.files new) HasOnlyForks
  pub settled : IfSome (g.files new) (λ files. LeavesNow (λ left. left ≡ files) (g.past new))
  pub later : g.faults old ≤ g.faults new

-- all four were
pub record AreSettled {V : Type 0} (g : Ghosts V) (relseg : ℕ) (old new : DataAreas V)
    : Type 0 where
  pub data0 : IsSettled g relseg old.data0 new.data0
  pub data1 : IsSettled g relseg old.data1 new.data1
  pub data2 : IsSettled g relseg old.data2 new.data2
  pub data3 : IsSettled g relseg old.data3 new.data3

-- an area was made durable as it is
pub record IsSynced {V : Type 0} (g : Ghosts V) (old new : V) : Type 0 where
  pub files : g.files new ≡ g.files old
  pub settled : IfSome (g.files new) (λ files. LeavesNow (λ left. left ≡ files) (g.past new))
  pub others : Adds (IsAmong IsOther) (g.past old) (g.past new)
  pub later : g.faults old ≤ g.faults new

-- all four were
pub record AreSynced {V : Type 0} (g : Ghosts V) (old new : DataAreas V) : Type 0 where
  pub data0 : IsSynced g old.data0 new.data0
  pub data1 : IsSynced g old.data1 new.data1
  pub data2 : IsSynced g old.data2 new.data2
  pub data3 : IsSynced g old.data3 new.data3

-- of the first area other files than the mark changed, until they were durable, and then the mark
abbrev pub HaveEnded : {V : Type 0} → Ghosts V → ℕ → DataAreas V → Option (List Event) → Type 0
HaveEnded g relseg old past = HasEnded relseg (held_by g relseg old 0) (first_past g old) past

-- filling of the four that failed came so far: of the first one other files than the mark changed;
-- or it was at its end, and the three others have the files of their pages
abbrev pub SettledSoFar : {V : Type 0} → Ghosts V → ℕ → (ℕ → Store → Type 0)
    → DataAreas V → DataAreas V → Type 0
SettledSoFar g relseg pages old new =
    Adds (IsAmong IsOther) (first_past g old) (first_past g new)
    ⊎ (AreOthersRebuilt g relseg pages old new
    × HasEnded relseg (pages 0) (first_past g old) (first_past g new))

-- a partition was made of an area as it is, from a place on, up to which the WAL is flushed
pub record IsOpened {V : Type 0} (g : Ghosts V) (relseg from : ℕ) (area : V) (part : Part)
    : Type 0 where
  pub frames : (pages : Store) → HoldsPages relseg (g.files area) pages → part.frames ≡ pages
  pub clean : IsClean part
  pub point : part.point ≡ from
  pub flushed : part.flushed ≡ from
  pub relseg_is : part.relseg ≡ relseg
  pub disk : part.disk ≡ g.files area
  pub past : part.past ≡ g.past area
  pub later : g.faults area ≤ part.faults

-- all four were
pub record AreOpened {A V : Type 0} (g : Ghosts A) (relseg from : ℕ) (areas : DataAreas A)
    (parts : Partitions V) : Type 0 where
  pub part0 : IsOpened g relseg from areas.data0 parts.part0
  pub part1 : IsOpened g relseg from areas.data1 parts.part1
  pub part2 : IsOpened g relseg from areas.data2 parts.part2
  pub part3 : IsOpened g relseg from areas.data3 parts.part3

-- an area is as it was, but for the count of faults, which rose where it failed
pub record IsLeft {V : Type 0} (g : Ghosts V) (old new : V) : Type 0 where
  pub files : g.files new ≡ g.files old
  pub past : g.past new ≡ g.past old
  pub later : g.faults old ≤ g.faults new

pub record FailsWith (before now : ℕ) (why : AreaFault) : Type 0 where
  pub later : before ≤ now
  pub failed : why ≡ Failed → Rose before now

-- all four are
pub record AreLeft {V : Type 0} (g : Ghosts V) (old new : DataAreas V) : Type 0 where
  pub data0 : IsLeft g old.data0 new.data0
  pub data1 : IsLeft g old.data1 new.data1
  pub data2 : IsLeft g old.data2 new.data2
  pub data3 : IsLeft g old.data3 new.data3
