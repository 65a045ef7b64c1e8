-- The areas of a store that a stop left, and what they are once the store was brought back.
use Rattle.std.specs.Prelude.{◌≡◌, ◌⊎◌, ℕ, ◌<◌, false, List, ◌++◌, map, Option, Some, None, if◌then◌else◌}
use Rattle.std.specs.List.{All}
use Rattle.std.specs.FinMap.{get}
use Rattle.lsn_core.specs.Files.{Files}
use Rattle.lsn_core.specs.Names.{fork_path_bytes, IsNamed}
use Rattle.lsn_core.specs.Segment.{StoreSettings}
use Rattle.lsn_core.specs.Store.{Store, files_of}
use Rattle.lsn_core.specs.Tip.{Tip}
use Rattle.lsn_core.specs.declared.ids.ForkId.{ForkId}
use Rattle.lsn_core.specs.declared.lsn.Lsn.{Lsn}
use Rattle.vault.specs.Frame.{Has}
use Rattle.vault.specs.declared.area.Vault.{Ghosts}
use Rattle.wal_record.specs.declared.record.Record.{Record}
use Rattle.wal_reader.specs.Wal.{IsWal}
use Rattle.history.specs.Whole.{entry_of, whole}
use Rattle.history.specs.partitions.Parts.{is_of}
use Rattle.history.specs.fuzzy_copies.Sound.{state_before}
use Rattle.recovery.specs.Tally.{IsTallyOf}
use Rattle.rel_neat.specs.Neat.{HasLeft}
use Rattle.stop_laws.specs.Window.{window_base}
use Rattle.restart_laws.specs.Restart.{DeltasFollow}
use Rattle.backup_restore.specs.Directories.{IsWritable}
use Rattle.data_areas.specs.declared.areas.DataAreas.{DataAreas}
use Rattle.data_areas.specs.Areas.{area_of}
use Rattle.data_areas.specs.Marking.{rebuilding_name}
use Rattle.store_areas.specs.declared.areas.StoreAreas.{StoreAreas}
use Rattle.store_areas.specs.Begin.{data_of}
use Rattle.restart_areas.specs.Pages.{HoldParts}
use Rattle.store_restart.specs.Survivors.{SurviveIn, replay_start}
use Rattle.store_restart.specs.declared.restarting.Restarted.{Restarted}
use Rattle.neat_laws.specs.Room.{AreOwnAreas}

-- ---- the history

-- records are the first of a history, with each that ends at a place or before it, up to which the
-- WAL was flushed
pub record AreFirst (history : List Record) (flushed : ℕ) (records : List Record) : Type 0 where
  pub lost : List Record
  pub parts : history ≡ records ++ lost
  pub late : All (λ r. flushed < r.end.0) lost

-- wherever a history is cut off: from the redo point on that the last checkpoint names, each delta
-- of a block stands behind an image of it or a cut
abbrev pub DeltasFollowRedo : List Record → Type 0
DeltasFollowRedo history =
    (records lost : List Record) (from : Lsn) (to : ℕ)
    → history ≡ records ++ lost → replay_start records ≡ Some from
    → DeltasFollow (map entry_of records) from.0 to

-- ---- what a stop left

-- each data area has what the store had of its partition at a place, unless a record from there on
-- changes it
pub record AreLeftSince {V : Type 0} (g : Ghosts V) (relseg : ℕ) (records : List Record)
    (areas : DataAreas V) (from : ℕ) : Type 0 where
  pub store : Store
  pub made : state_before (map entry_of records) from ≡ Some store
  pub fits : IsWritable store
  pub left : (q : ℕ) → q < 4
      → HasLeft relseg (window_base q from (map entry_of records) store)
      (g.files (area_of areas q))
  pub own : AreOwnAreas g relseg areas

-- an area has the mark of areas that are made anew
abbrev pub HasMark : Option Files → Type 0
HasMark told = (m : Files) × ((told ≡ Some m) × Has rebuilding_name m)

-- areas from which a store can be brought back, of whose history the WAL was flushed up to a place:
-- the first records of the history survived in the WAL, with all that were flushed, and the data
-- areas are marked to be made anew, or left since the redo point of the last checkpoint that
-- survived
pub record AreRestorableAreas {V : Type 0} (g : Ghosts V) (s : StoreSettings)
    (history : List Record) (flushed : ℕ) (areas : StoreAreas V) : Type 0 where
  pub wal : Files
  pub told : g.files areas.wal ≡ Some wal
  pub records : List Record
  pub tip : Tip
  pub survive : SurviveIn s wal records tip
  pub first : AreFirst history flushed records
  pub left : HasMark (g.files areas.data0)
      ⊎ ((from : Lsn) → replay_start records ≡ Some from
      → AreLeftSince g s.relseg records (data_of areas) from.0)

-- ---- what is made of it

-- each data area has of a store's files those of its partition's forks, and no other segment files
abbrev pub HaveFilesOf : {V : Type 0} → Ghosts V → ℕ → DataAreas V → Store → Type 0
HaveFilesOf g relseg areas store =
    (q : ℕ) → q < 4 → (m : Files) × ((g.files (area_of areas q) ≡ Some m)
    × ((fork : ForkId) (seg : ℕ) → IsNamed fork seg
    → get m (fork_path_bytes fork seg false)
    ≡ (if is_of q fork then get (files_of relseg store) (fork_path_bytes fork seg false)
    else None)))

-- a store is back: its WAL is just the records that survived, its data areas have the files of what
-- these make from nothing, and so many forks and pages were told
pub record IsWholeBack {V : Type 0} (g : Ghosts V) (s : StoreSettings) (history : List Record)
    (flushed : ℕ) (back : Restarted V) : Type 0 where
  pub records : List Record
  pub first : AreFirst history flushed records
  pub wal : Files
  pub told : g.files back.areas.wal ≡ Some wal
  pub is_wal : IsWal s wal records back.tip
  pub store : Store
  pub made : whole records back.tip.end ≡ Some store
  pub held : HoldParts g s.relseg (data_of back.areas) store
  pub files : HaveFilesOf g s.relseg (data_of back.areas) store
  pub counted : IsTallyOf (record { forks = back.forks; pages = back.pages }) store
