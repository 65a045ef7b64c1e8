-- What a restart makes of the areas of a store.
use Rattle.std.specs.Prelude.{◌≡◌, ◌⊎◌, ℕ, true, List, Option, Some, None, IfSome}
use Rattle.std.specs.List.{filter}
use Rattle.std.specs.FinMap.{get}
use Rattle.lsn_core.specs.Files.{Files}
use Rattle.lsn_core.specs.Segment.{StoreSettings}
use Rattle.lsn_core.specs.Store.{Store}
use Rattle.lsn_core.specs.Tip.{Tip}
use Rattle.lsn_core.specs.declared.lsn.Lsn.{Lsn}
use Rattle.vault.specs.Frame.{Has, IsDurable}
use Rattle.vault.specs.declared.area.Vault.{Ghosts}
use Rattle.wal_record.specs.declared.record.Record.{Record}
use Rattle.wal_archive.specs.Rules.{lsn}
use Rattle.history.specs.Whole.{entry_of, whole}
use Rattle.history.specs.fuzzy_copies.Recovered.{is_replayed, recovered_records}
use Rattle.recovery.specs.declared.tally.Tally.{Tally}
use Rattle.recovery.specs.Recovered.{first_bad_redo}
use Rattle.recovery.specs.Tally.{IsTallyOf}
use Rattle.recovery.specs.Replay.{HasBadDelta}
use Rattle.rel_files.specs.Forks.{IsForkPath}
use Rattle.data_areas.specs.declared.areas.DataAreas.{DataAreas}
use Rattle.data_areas.specs.Marking.{IsMark, rebuilding_name}
use Rattle.restart_areas.specs.Areas.{AreNeat, EachChanges, ForksChange, KeepPages}
use Rattle.restart_areas.specs.Counting.{CountsAll}
use Rattle.restart_areas.specs.Pages.{HoldParts}
use Rattle.store_restart.specs.Survivors.{SurviveIn, has_start, replay_start}

-- ---- what is left as it is

-- a segment file of a fork, or the mark of areas that are rebuilt
abbrev pub IsForkOrMark : List ℕ → Type 0
IsForkOrMark name = IsForkPath name ⊎ IsMark name

-- of each data area no other files changed
abbrev pub OthersStay : {V : Type 0} → Ghosts V → DataAreas V → DataAreas V → Type 0
OthersStay g old new = EachChanges g IsForkOrMark old new

-- ---- what is made

-- a stop now leaves of each data area just what a read gives
pub record AreDurable {V : Type 0} (g : Ghosts V) (areas : DataAreas V) : Type 0 where
  pub data0 : IsDurable (g.files areas.data0) (g.past areas.data0)
  pub data1 : IsDurable (g.files areas.data1) (g.past areas.data1)
  pub data2 : IsDurable (g.files areas.data2) (g.past areas.data2)
  pub data3 : IsDurable (g.files areas.data3) (g.past areas.data3)

-- the first data area has no mark
abbrev pub IsUnmarked : {V : Type 0} → Ghosts V → DataAreas V → Type 0
IsUnmarked g areas = IfSome (g.files areas.data0) (λ m. get m rebuilding_name ≡ None)

-- of these files of a WAL the survivors end with a tip
abbrev pub EndWith : StoreSettings → Tip → Files → Type 0
EndWith s tip files = (records : List Record) × SurviveIn s files records tip

-- the data areas have as segment files of forks just those of what the survivors make from nothing,
-- each that of its partition, and of so many forks and pages
pub record HoldWhole {V : Type 0} (g : Ghosts V) (s : StoreSettings) (tip : Tip)
    (areas : DataAreas V) (tally : Tally) (files : Files) : Type 0 where
  pub records : List Record
  pub survive : SurviveIn s files records tip
  pub store : Store
  pub made : whole records tip.end ≡ Some store
  pub held : HoldParts g s.relseg areas store
  pub counted : IsTallyOf tally store

-- an entry of the survivors that starts at a place is the first which can't be applied
abbrev pub IsBadEntry : StoreSettings → Tip → Lsn → Files → Type 0
IsBadEntry s tip place files = HasBadDelta s files (Some (lsn tip.end)) place

-- ---- what is redone

-- the entries that start at a place or past it and end by another
abbrev pub replayed_from : List Record → ℕ → ℕ → List Record
replayed_from records from place = filter (λ r. is_replayed from place (entry_of r)) records

-- of these files of a WAL the survivors end with a tip, and one of them starts at a place
pub record StartsAt (s : StoreSettings) (tip : Tip) (from : Lsn) (files : Files) : Type 0 where
  pub records : List Record
  pub survive : SurviveIn s files records tip
  pub starts : has_start records from.0 ≡ true

-- of whatever store some areas held the parts, they hold now those of what the survivors from a
-- place on make of it
pub record RedoesFrom {V : Type 0} (g : Ghosts V) (s : StoreSettings) (tip : Tip) (from : Lsn)
    (old new : DataAreas V) (files : Files) : Type 0 where
  pub records : List Record
  pub survive : SurviveIn s files records tip
  pub redone : (store : Store) → HoldParts g s.relseg old store
      → (next : Store) × ((recovered_records store records from.0 tip.end ≡ Some next)
      × HoldParts g s.relseg new next)

-- segment files were made neat, so that what stays of their pages stayed, and then the survivors
-- from a place on were redone
pub record BringsOn {V : Type 0} (g : Ghosts V) (s : StoreSettings) (tip : Tip) (from : Lsn)
    (old new : DataAreas V) (files : Files) : Type 0 where
  pub mid : DataAreas V
  pub neat : AreNeat g s.relseg mid
  pub keeps : KeepPages g s.relseg old mid
  pub changes : ForksChange g old mid
  pub redoes : RedoesFrom g s tip from mid new files

-- over each store of which some areas hold the parts the entry at a place is the first of the
-- survivors from another place on which can't be redone
pub record IsBadOver {V : Type 0} (g : Ghosts V) (s : StoreSettings) (tip : Tip) (from : Lsn)
    (areas : DataAreas V) (place : Lsn) (files : Files) : Type 0 where
  pub records : List Record
  pub survive : SurviveIn s files records tip
  pub bad : (store : Store) → HoldParts g s.relseg areas store
      → first_bad_redo store (replayed_from records from.0 tip.end) ≡ Some place.0

-- so it is over the segment files that were made neat
pub record IsBadBehind {V : Type 0} (g : Ghosts V) (s : StoreSettings) (tip : Tip) (from : Lsn)
    (old : DataAreas V) (place : Lsn) (files : Files) : Type 0 where
  pub mid : DataAreas V
  pub neat : AreNeat g s.relseg mid
  pub keeps : KeepPages g s.relseg old mid
  pub bad : IsBadOver g s tip from mid place files

-- ---- both ways

-- of these files of a WAL the survivors end with a tip, and this is where their replay begins
pub record BeginsAt (s : StoreSettings) (tip : Tip) (start : Option Lsn) (files : Files)
    : Type 0 where
  pub records : List Record
  pub survive : SurviveIn s files records tip
  pub start_is : replay_start records ≡ start

-- data areas are brought to the end of the survivors: made anew where the first of them is marked
-- or no redo point is known, and the mark is gone; else brought on from that point. They have so
-- many forks and pages
abbrev pub BringsBack : {V : Type 0} → Ghosts V → StoreSettings → Tip → DataAreas V → DataAreas V
    → Tally → Files → Type 0
BringsBack g s tip old new tally files =
    ((IfSome (g.files old.data0) (Has rebuilding_name) ⊎ BeginsAt s tip None files)
    × (HoldWhole g s tip new tally files × IsUnmarked g new))
    ⊎ ((from : Lsn) × (BeginsAt s tip (Some from) files
    × (IsUnmarked g old × (BringsOn g s tip from old new files
    × CountsAll g s.relseg new tally))))

-- an entry of the survivors is the first that can't be applied, or, where the first area isn't
-- marked, redone from the redo point on
abbrev pub IsBadSurvivor : {V : Type 0} → Ghosts V → StoreSettings → Tip → DataAreas V → Lsn
    → Files → Type 0
IsBadSurvivor g s tip old place files =
    IsBadEntry s tip place files ⊎ ((from : Lsn) × (BeginsAt s tip (Some from) files
    × (IsUnmarked g old × IsBadBehind g s tip from old place files)))
