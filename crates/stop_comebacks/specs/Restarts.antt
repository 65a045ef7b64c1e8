-- Areas from which a store can be brought back, and what a stop leaves of them while it is
-- restarted or begun.
use Rattle.std.specs.Prelude.{◌≡◌, ◌⊎◌, ℕ, ◌<◌, ◌≤◌, List, [], ◌∷◌, ◌++◌, Some, None}
use Rattle.std.specs.List.{All}
use Rattle.lsn_core.specs.Causes.{Rose}
use Rattle.lsn_core.specs.Files.{Files}
use Rattle.lsn_core.specs.Segment.{StoreSettings}
use Rattle.lsn_core.specs.Tip.{Tip}
use Rattle.lsn_core.specs.declared.lsn.Lsn.{Lsn}
use Rattle.vault.specs.Frame.{IsDurable}
use Rattle.vault.specs.declared.area.Vault.{Ghosts}
use Rattle.wal_record.specs.Decoding.{record_at}
use Rattle.wal_record.specs.Tips.{first_tip}
use Rattle.wal_record.specs.declared.record.Record.{Record}
use Rattle.wal_archive.specs.Archive.{archive_of}
use Rattle.wal_archive.specs.Writing.{IsChain}
use Rattle.survivor_laws.specs.Survivors.{FailsTests, NoneByChance}
use Rattle.recovery.specs.Causes.{HasSettings}
use Rattle.data_areas.specs.Areas.{area_of}
use Rattle.data_areas.specs.Moments.{Past}
use Rattle.store_areas.specs.declared.areas.StoreAreas.{StoreAreas}
use Rattle.store_areas.specs.Begin.{data_of}
use Rattle.store_areas.specs.Moments.{RebuildsSafely}
use Rattle.store_areas.specs.Opened.{past_of}
use Rattle.store_restart.specs.declared.fault.RestartFault.{RestartFault}
use Rattle.store_restart.specs.declared.fault.RestartWhy.TheVariants.{NoMemory}
use Rattle.store_restart.specs.Moments.{as_left, RestartsSafely}
use Rattle.store_restart.specs.Restarted.{IsRefusedFrom}
use Rattle.store_restart.specs.Survivors.{SurviveIn, replay_start}
use Rattle.comeback_laws.specs.Laws.{AreSettings}
use Rattle.comeback_laws.specs.Restorable.{DeltasFollowRedo, AreRestorableAreas, HasMark}
use Rattle.stop_comebacks.specs.Moments.{IsStoreLeftNow, StoreStopsLeave}
use Rattle.stop_comebacks.specs.Stopped.{IsStoreHistory, AreStopped}

-- ---- the history

-- records stand one behind the other, from the beginning of a WAL on up to a tip
abbrev pub IsLogTo : StoreSettings → List Record → Tip → Type 0
IsLogTo s history last = IsChain record_at s.segment (first_tip s.segment) history last

-- wherever a history is cut off: each record that starts below the redo point which the last
-- checkpoint names was flushed. It is so since a checkpoint ends only once each partition was
-- written as of its redo point
abbrev pub RedosAreFlushed : List Record → ℕ → Type 0
RedosAreFlushed history flushed =
    (records lost : List Record) (from : Lsn)
    → history ≡ records ++ lost → replay_start records ≡ Some from
    → All (λ r. r.start.0 < from.0 → r.end.0 ≤ flushed) history

-- the history of a store, whose WAL is flushed up to a place
pub record IsHistory (s : StoreSettings) (history : List Record) (flushed : ℕ) : Type 0 where
  pub last : Tip
  pub log : IsLogTo s history last
  pub is_store : IsStoreHistory history
  pub redos : RedosAreFlushed history flushed

-- its first record was flushed
abbrev pub IsFirstFlushed : List Record → ℕ → Type 0
IsFirstFlushed [] flushed = ⊥
IsFirstFlushed (r ∷ rs) flushed = r.end.0 ≤ flushed

-- ---- what is left

-- in the place of a history's next record nothing stands that passes for one but that record; in
-- the place behind its last one, nothing at all
pub record NothingByChance (s : StoreSettings) (history : List Record) (wal : Files)
    : Type 0 where
  pub torn : NoneByChance record_at s.segment s.system (archive_of s.segment wal)
      (first_tip s.segment) history
  pub behind : (last : Tip) → IsLogTo s history last
      → FailsTests record_at s.segment s.system (archive_of s.segment wal) last

-- from files that a stop left of all areas a store can be brought back, unless bytes match by
-- chance
abbrev pub AreRestorableUnlessByChance : StoreSettings → List Record → ℕ → StoreAreas Files → Type 0
AreRestorableUnlessByChance s history flushed left =
    NothingByChance s history left.wal → AreRestorableAreas as_left s history flushed left

-- from areas a store can be brought back, and also from what a stop now leaves of them
pub record AreRestorableNow {V : Type 0} (g : Ghosts V) (s : StoreSettings)
    (history : List Record) (flushed : ℕ) (areas : StoreAreas V) : Type 0 where
  pub restorable : AreRestorableAreas g s history flushed areas
  pub left : (left : StoreAreas Files) → IsStoreLeftNow (past_of g areas) left
      → AreRestorableUnlessByChance s history flushed left

-- nothing of areas is unsynced
pub record AreAllDurable {V : Type 0} (g : Ghosts V) (areas : StoreAreas V) : Type 0 where
  pub wal : IsDurable (g.files areas.wal) (g.past areas.wal)
  pub data0 : IsDurable (g.files areas.data0) (g.past areas.data0)
  pub data1 : IsDurable (g.files areas.data1) (g.past areas.data1)
  pub data2 : IsDurable (g.files areas.data2) (g.past areas.data2)
  pub data3 : IsDurable (g.files areas.data3) (g.past areas.data3)

-- so they are that a stop left of an open store, once they are used again
abbrev pub StoppedAreasAreRestorable : {V : Type 0} → Ghosts V → Type 0
StoppedAreasAreRestorable {V} g =
    (s : StoreSettings) (history : List Record) (last : Tip) (flushed : ℕ) (areas : StoreAreas V)
    → AreSettings s → IsStoreHistory history → IsLogTo s history last
    → AreStopped g s history flushed areas → AreAllDurable g areas
    → AreRestorableNow g s history flushed areas × IsHistory s history flushed

-- ---- a restart

-- a restart makes data areas anew: the first one has the mark, or no redo point is known
abbrev pub IsAnew : {V : Type 0} → Ghosts V → StoreSettings → StoreAreas V → Type 0
IsAnew g s areas =
    HasMark (g.files areas.data0) ⊎ ((wal : Files) (records : List Record) (tip : Tip)
    → g.files areas.wal ≡ Some wal → SurviveIn s wal records tip → replay_start records ≡ None)

-- a stop at any moment of a restart that makes data areas anew leaves restorable areas
abbrev pub RebuildingRestartsLeaveRestorableAreas : {V : Type 0} → Ghosts V → Type 0
RebuildingRestartsLeaveRestorableAreas {V} g =
    (s : StoreSettings) (history : List Record) (flushed : ℕ) (old new : StoreAreas V)
    → AreSettings s → IsHistory s history flushed → AreRestorableNow g s history flushed old
    → IsAnew g s old → RestartsSafely g s old new
    → StoreStopsLeave (AreRestorableUnlessByChance s history flushed) (past_of g old)
    (past_of g new)

-- of a WAL's survivors none end before a tip
abbrev pub EndsNoSooner : StoreSettings → Tip → StoreAreas Files → Type 0
EndsNoSooner s tip left =
    (records : List Record) (end : Tip) → SurviveIn s left.wal records end → tip.end ≤ end.end

-- a stop at any moment of a restart leaves survivors that end no sooner than those that were there,
-- where nothing of the WAL was unsynced
abbrev pub RestartsKeepSurvivors : {V : Type 0} → Ghosts V → Type 0
RestartsKeepSurvivors {V} g =
    (s : StoreSettings) (wal : Files) (records : List Record) (tip : Tip) (old new : StoreAreas V)
    → AreSettings s → g.files old.wal ≡ Some wal → SurviveIn s wal records tip
    → IsDurable (g.files old.wal) (g.past old.wal) → RestartsSafely g s old new
    → StoreStopsLeave (EndsNoSooner s tip) (past_of g old) (past_of g new)

-- a stop at any moment of the rebuilding of data areas, when a store is begun, leaves restorable
-- areas
abbrev pub BeginningsLeaveRestorableAreas : {V : Type 0} → Ghosts V → Type 0
BeginningsLeaveRestorableAreas {V} g =
    (s : StoreSettings) (history : List Record) (flushed : ℕ) (old : StoreAreas V)
    (new : StoreAreas Past)
    → AreSettings s → HasSettings (g.files old.wal) s → IsHistory s history flushed
    → AreRestorableNow g s history flushed old → RebuildsSafely g old new
    → StoreStopsLeave (AreRestorableUnlessByChance s history flushed) (past_of g old) new

-- an area failed
abbrev pub HasFailed : {V : Type 0} → Ghosts V → StoreAreas V → StoreAreas V → Type 0
HasFailed g old new =
    Rose (g.faults old.wal) (g.faults new.wal)
    ⊎ ((q : ℕ) × ((q < 4)
    × Rose (g.faults (area_of (data_of old) q)) (g.faults (area_of (data_of new) q))))

-- restorable areas whose first record was flushed come back, unless an area fails or memory runs
-- out
abbrev pub RestorableAreasComeBack : {V : Type 0} → Ghosts V → Type 0
RestorableAreasComeBack {V} g =
    (s : StoreSettings) (history : List Record) (flushed : ℕ) (wal : Files) (old : StoreAreas V)
    (fault : RestartFault V)
    → AreSettings s → IsHistory s history flushed → DeltasFollowRedo history
    → IsFirstFlushed history flushed → AreRestorableAreas g s history flushed old
    → g.files old.wal ≡ Some wal → NothingByChance s history wal
    → IsRefusedFrom g s old fault → (fault.why ≡ NoMemory) ⊎ HasFailed g old fault.areas
