-- Laws of the core machine with stops, over every list of its steps.
use Rattle.std.specs.Prelude.{◌≡◌, ◌<◌, ℕ, List, Some}
use Rattle.lsn_core.specs.Segment.{IsSegmentMib}
use Rattle.lsn_core.specs.Store.{Store}
use Rattle.vault.specs.Frame.{LeavesNow, LeavesOnly}
use Rattle.history.specs.partitions.Parts.{is_of}
use Rattle.history.specs.fuzzy_copies.Sound.{state_before}
use Rattle.store_core.specs.State.{records_of}
use Rattle.stop_machine.specs.Area.{IsLeftAt, IsSafe}
use Rattle.core_stops.specs.Machine.{CoreWithStops, FlushedStep, area_of, first_core, with_flush}
use Rattle.core_stops.specs.Machine.{after_step, after_steps, MayTake, MayTakeAll}
use Rattle.core_stops.specs.Survivors.{IsLeftForAll, IsLeftForRecords}

-- a new store, of segments of so many MiB and so many blocks in a file of a fork, may take steps
pub record MayRun (mib relseg : ℕ) (steps : List FlushedStep) : Type 0 where
  pub segment : IsSegmentMib mib
  pub some : 0 < relseg
  pub may : MayTakeAll (first_core mib relseg) steps

-- the machine of a new store behind them
abbrev pub core_after : ℕ → ℕ → List FlushedStep → CoreWithStops
core_after mib relseg steps = after_steps (first_core mib relseg) steps

-- the areas of all partitions are safe: a stop now leaves of each what stays
abbrev pub AreSafe : CoreWithStops → Type 0
AreSafe c = (q : ℕ) → q < 4 → IsSafe (is_of q) c.core.relseg (area_of c q)

abbrev pub AreasAreSafe : Type 0
AreasAreSafe =
    (mib relseg : ℕ) (steps : List FlushedStep) → MayRun mib relseg steps
    → AreSafe (core_after mib relseg steps)

-- a stop at each moment of one more step leaves of each area what stayed behind the flush
abbrev pub StopsLeaveWhatStays : Type 0
StopsLeaveWhatStays =
    (mib relseg : ℕ) (steps : List FlushedStep) (x : FlushedStep) (q : ℕ) (store : Store)
    → MayRun mib relseg steps → MayTake (core_after mib relseg steps) x → q < 4
    → state_before (area_of (with_flush (core_after mib relseg steps) x.flushed) q).known
    (area_of (core_after mib relseg steps) q).from ≡ Some store
    → LeavesOnly (IsLeftAt (is_of q) (core_after mib relseg steps).core.relseg
    (area_of (with_flush (core_after mib relseg steps) x.flushed) q) store)
    (Some ((core_after mib relseg steps).pasts q))
    (Some ((after_step (core_after mib relseg steps) x).pasts q))

-- ---- by what survives in the WAL

-- whichever first entries survive a stop now, with all that are flushed, it leaves of each area
-- what the store had at each redo point that a checkpoint among them names, unless one of them
-- from there on changes it
abbrev pub SurvivorsAreLeft : Type 0
SurvivorsAreLeft =
    (mib relseg : ℕ) (steps : List FlushedStep) (q : ℕ) → MayRun mib relseg steps → q < 4
    → LeavesNow (IsLeftForAll q (core_after mib relseg steps).core.relseg
    (core_after mib relseg steps).core.history (core_after mib relseg steps).flushed)
    (Some ((core_after mib relseg steps).pasts q))

-- and so does a stop at each moment of one more step, by the entries that were there before it
-- and with those that were flushed for it
abbrev pub StopsLeaveSurvivors : Type 0
StopsLeaveSurvivors =
    (mib relseg : ℕ) (steps : List FlushedStep) (x : FlushedStep) (q : ℕ)
    → MayRun mib relseg steps → MayTake (core_after mib relseg steps) x → q < 4
    → LeavesOnly (IsLeftForAll q (core_after mib relseg steps).core.relseg
    (core_after mib relseg steps).core.history x.flushed)
    (Some ((core_after mib relseg steps).pasts q))
    (Some ((after_step (core_after mib relseg steps) x).pasts q))

-- the same of the records of its WAL
abbrev pub SurvivingRecordsAreLeft : Type 0
SurvivingRecordsAreLeft =
    (mib relseg : ℕ) (steps : List FlushedStep) (q : ℕ) → MayRun mib relseg steps → q < 4
    → LeavesNow (IsLeftForRecords q (core_after mib relseg steps).core.relseg
    (records_of (core_after mib relseg steps).core) (core_after mib relseg steps).flushed)
    (Some ((core_after mib relseg steps).pasts q))

abbrev pub StopsLeaveRecords : Type 0
StopsLeaveRecords =
    (mib relseg : ℕ) (steps : List FlushedStep) (x : FlushedStep) (q : ℕ)
    → MayRun mib relseg steps → MayTake (core_after mib relseg steps) x → q < 4
    → LeavesOnly (IsLeftForRecords q (core_after mib relseg steps).core.relseg
    (records_of (core_after mib relseg steps).core) x.flushed)
    (Some ((core_after mib relseg steps).pasts q))
    (Some ((after_step (core_after mib relseg steps) x).pasts q))
