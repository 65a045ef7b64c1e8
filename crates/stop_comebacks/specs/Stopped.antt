-- What a stop leaves of an open store: of its WAL, and of the area of each partition. The history
-- is the records that the store found and wrote, and the WAL is flushed up to a place.
use Rattle.std.specs.Prelude.{◌≡◌, ℕ, ◌<◌, ◌≤◌, List, [], ◌++◌, map, Some, IfSome}
use Rattle.std.specs.List.{All}
use Rattle.std.specs.FinMap.{empty}
use Rattle.lsn_core.specs.Files.{Files}
use Rattle.lsn_core.specs.Segment.{StoreSettings}
use Rattle.lsn_core.specs.Store.{Store}
use Rattle.lsn_core.specs.Tip.{Tip}
use Rattle.vault.specs.declared.area.Vault.{Ghosts}
use Rattle.wal_pages.specs.Places.{start_after}
use Rattle.wal_record.specs.Decoding.{record_at}
use Rattle.wal_record.specs.Spelling as spelling
use Rattle.wal_record.specs.declared.record.Record.{Record}
use Rattle.wal_archive.specs.Archive.{archive_of}
use Rattle.wal_archive.specs.Writing.{IsChain}
use Rattle.wal_writer.specs.Stops.{Reads}
use Rattle.survivor_laws.specs.Survivors.{NoneByChance}
use Rattle.history.specs.Apply.{apply_all}
use Rattle.history.specs.Whole.{entry_of}
use Rattle.history.specs.fuzzy_copies.CoverLaws.{Makes}
use Rattle.history.specs.fuzzy_copies.Sound.{entries_before, state_before}
use Rattle.stop_areas.specs.Left.{IsLeftOf}
use Rattle.stop_laws.specs.Window.{window_base}
use Rattle.backup_restore.specs.Directories.{IsWritable}
use Rattle.data_areas.specs.Areas.{area_of}
use Rattle.store_areas.specs.declared.areas.StoreAreas.{StoreAreas}
use Rattle.store_areas.specs.Begin.{data_of}
use Rattle.store_restart.specs.Survivors.{named_by}
use Rattle.neat_laws.specs.Room.{AreOwnFiles}

-- ---- the history

-- each store that the first records make has files: its numbers and lengths fit, its pages are
-- whole
abbrev pub StoresFit : List Record → Type 0
StoresFit history =
    (records lost : List Record) (store : Store) → history ≡ records ++ lost
    → apply_all empty (map entry_of records) ≡ Some store → IsWritable store

-- each of some records can be written
abbrev pub AreWritten : List Record → Type 0
AreWritten history = All (λ r. spelling.IsWritable r.kind) history

-- records of which each finds what it names, and that make a store
pub record IsStoreHistory (history : List Record) : Type 0 where
  pub now : Store
  pub makes : Makes empty (map entry_of history) now
  pub fit : StoresFit history

-- a place is at the redo point of each checkpoint, or past it. Of a partition's point it is so
-- since a checkpoint ends only once each partition was written as of its redo point
abbrev pub IsPastRedo : List Record → ℕ → Type 0
IsPastRedo history point = All (λ r. IfSome (named_by r.kind) (λ redo. redo.0 ≤ point)) history

-- ---- what a stop leaves

-- files of a partition's own forks, of which none is too long
abbrev pub HasOwnFiles : ℕ → ℕ → Files → Type 0
HasOwnFiles relseg q files = AreOwnFiles relseg q (Some files)

-- files of a WAL: the records up to a tip, to which it was flushed, are read, and of the others,
-- that stand one behind the other from there on, any bytes may be there, but none that match by
-- chance. Behind the last one, from where the next would start, no byte but zeros is held
pub record IsWalLeft (mib system : ℕ) (history : List Record) (flushed : ℕ) (files : Files)
    : Type 0 where
  pub stable : List Record
  pub waiting : List Record
  pub parts : history ≡ stable ++ waiting
  pub tip : Tip
  pub last : Tip
  pub read : Reads record_at mib system stable tip files
  pub reached : flushed ≤ tip.end
  pub chain : IsChain record_at mib tip waiting last
  pub chance : NoneByChance record_at mib system (archive_of mib files) tip waiting
  pub zeros : (x b : ℕ) → (archive_of mib files).byte x ≡ Some b → 0 < b
      → x < start_after mib last.end

-- files of a partition: they have what the store had of it at the partition's point, unless a
-- flushed record from there on changes it. All records that start below the point are flushed
pub record IsPartLeft (relseg q : ℕ) (history : List Record) (flushed : ℕ) (files : Files)
    : Type 0 where
  pub known : List Record
  pub later : List Record
  pub parts : history ≡ known ++ later
  pub done : All (λ r. r.end.0 ≤ flushed) known
  pub point : ℕ
  pub late : entries_before (map entry_of later) point ≡ []
  pub past : IsPastRedo history point
  pub store : Store
  pub made : state_before (map entry_of known) point ≡ Some store
  pub left : IsLeftOf relseg (window_base q point (map entry_of known) store) files
  pub own : HasOwnFiles relseg q files

-- the areas of a store tell such files
pub record AreStopped {V : Type 0} (g : Ghosts V) (s : StoreSettings) (history : List Record)
    (flushed : ℕ) (areas : StoreAreas V) : Type 0 where
  pub files : Files
  pub told : g.files areas.wal ≡ Some files
  pub wal : IsWalLeft s.segment s.system history flushed files
  pub partitions : (q : ℕ) → q < 4 → (m : Files) × ((g.files (area_of (data_of areas) q) ≡ Some m)
      × IsPartLeft s.relseg q history flushed m)
