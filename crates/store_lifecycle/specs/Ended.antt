-- The parts of a store that is closed: no public contract cites these.
use Rattle.std.specs.Prelude.{◌≡◌, ℕ, List, length, Option, Some, Result, Ok, Err, box_value}
use Rattle.lsn_core.specs.Files.{Files}
use Rattle.lsn_core.specs.Segment.{StoreSettings}
use Rattle.lsn_core.specs.Store.{files_of}
use Rattle.lsn_core.specs.declared.lsn.Lsn.{Lsn}
use Rattle.lsn_core.specs.declared.fault.StoreArea.TheVariants.{Data}
use Rattle.lsn_core.specs.declared.fault.StoreFault.{StoreFault}
use Rattle.vault.specs.Stops.{Event}
use Rattle.vault.specs.Frame.{IsDurable}
use Rattle.vault.specs.declared.area.Vault.{Ghosts}
use Rattle.vault.specs.declared.boxed.BoxedArea.{BoxedArea}
use Rattle.wal_writer.specs.Log.{IsLog}
use Rattle.wal_writer.specs.declared.state.Flushed.{Flushed}
use Rattle.journal.specs.Journal.{Written, EndsWith, IsAtRest}
use Rattle.page_pool.specs.Part.{Part}
use Rattle.page_pool.specs.Facts.{IsPartOf}
use Rattle.store_areas.specs.declared.areas.StoreAreas.{StoreAreas}
use Rattle.store_areas.specs.Opened.{Opened, NoneFell, StoreCause, wal_top}
use Rattle.store_areas.specs.Begin.{faults_of}
use Rattle.store_locks.specs.Open.{AreCounts, IsWalOf}
use Rattle.store_locks.specs.Calls.{MayWriteWal}
use Rattle.store_locks.specs.Inside.{AreaCause}
use Rattle.store_lifecycle.specs.Close.{HoldsHistory}

-- what an open store keeps of its parts: each partition follows the history that the WAL tells, and
-- the numbers of the workers' commands are counted
pub record IsOpen {V : Type 0} (g : Ghosts V) (settings : StoreSettings) (tells : Type 0)
    (workers : ℕ) (journal : Written V) (part0 part1 part2 part3 : Part) (counts : List ℕ)
    (mark : ℕ) : Type 0 where
  pub wal : IsWalOf g settings tells journal.wal mark
  pub first : IsPartOf 0 settings.relseg tells journal.pen part0
  pub second : IsPartOf 1 settings.relseg tells journal.pen part1
  pub third : IsPartOf 2 settings.relseg tells journal.pen part2
  pub fourth : IsPartOf 3 settings.relseg tells journal.pen part3
  pub counted : AreCounts counts journal.pen
  pub crew : length counts ≡ workers

-- what its calls showed
abbrev pub opened_of : {V : Type 0} → Ghosts V → StoreSettings → Written V → Part → Part → Part
    → Part → Opened
opened_of g settings journal part0 part1 part2 part3 = record {
  settings = settings;
  history = journal.pen;
  faults = record {
    wal = g.faults journal.wal.area;
    data0 = part0.faults;
    data1 = part1.faults;
    data2 = part2.faults;
    data3 = part3.faults;
  };
  wal = g.files journal.wal.area;
  flushed = journal.wal.tail.flushed;
  past = record {
    wal = g.past journal.wal.area;
    data0 = part0.past;
    data1 = part1.past;
    data2 = part2.past;
    data3 = part3.past;
  };
}

-- the WAL was flushed up to its end, and nothing waits
pub record IsAllFlushed {V : Type 0} (g : Ghosts V) (old new : Written V) (mark : Flushed)
    : Type 0 where
  pub known : IsLog new.wal.tail
  pub segment : new.wal.tail.mib ≡ old.wal.tail.mib
  pub system : new.wal.tail.system ≡ old.wal.tail.system
  pub ended : EndsWith new.wal.tail new.pen
  pub all : new.wal.tail.flushed ≡ new.wal.tail.tip.end
  pub place : mark.to.0 ≡ new.wal.tail.tip.end
  pub rest : IsAtRest g new.wal

-- what is known of an area that was written whole: where areas tell, it has just the files of a
-- partition's frames; and a stop leaves its files
abbrev pub HoldsWhole : ℕ → Type 0 → Part → Option Files → Option (List Event) → Type 0
HoldsWhole relseg tells part files past =
    (tells → files ≡ Some (files_of relseg part.frames)) × IsDurable files past

-- all of a partition was written to its area, which tells these files and events now and has this
-- count of faults; or the area failed. A fault that came earlier is answered
abbrev pub PartAnswer : (q relseg : ℕ) → Type 0 → Part → Option Files → Option (List Event) → ℕ
    → Result Flushed StoreFault → Result Flushed StoreFault → Type 0
PartAnswer q relseg tells part files past faults (Err why) result = result ≡ Err why
PartAnswer q relseg tells part files past faults (Ok mark) (Ok same) =
    (same ≡ mark) × HoldsWhole relseg tells part files past
PartAnswer q relseg tells part files past faults (Ok mark) (Err why) =
    AreaCause (Data q) part.faults faults why

-- the place up to which the WAL is flushed, or why it isn't
abbrev pub place_of : Result Flushed StoreFault → Result Lsn StoreFault
place_of (Ok mark) = Ok mark.to
place_of (Err why) = Err why

-- what ending a store answers: where the WAL ends, and then, where areas tell, they hold the
-- history; or why not all of it is known to be written
abbrev pub EndAnswer : {V : Type 0} → Ghosts V → Type 0 → Opened → StoreAreas V
    → Result Lsn StoreFault → Type 0
EndAnswer g tells store areas (Ok end) =
    (end.0 ≡ wal_top store) × (tells → HoldsHistory g store.settings store.history areas)
EndAnswer g tells store areas (Err why) = StoreCause store.faults (faults_of g areas) why

-- a store was ended: of the WAL only what wasn't flushed was written
pub record IsEnded {V : Type 0} (g : Ghosts V) (tells : Type 0) (store : Opened)
    (areas : StoreAreas V) (result : Result Lsn StoreFault) : Type 0 where
  pub wal : MayWriteWal store.settings.segment store.flushed (wal_top store) store.wal
      (g.files areas.wal)
  pub later : NoneFell store.faults (faults_of g areas)
  pub answer : EndAnswer g tells store areas result

-- the areas of a store that are on the heap
abbrev pub off_heap : {V : Type 0} → StoreAreas (BoxedArea V) → StoreAreas V
off_heap areas = record {
  wal = box_value areas.wal.area;
  data0 = box_value areas.data0.area;
  data1 = box_value areas.data1.area;
  data2 = box_value areas.data2.area;
  data3 = box_value areas.data3.area;
}
