-- Laws of a store that was brought back after a stop: it is what the records that survived make.
use Rattle.std.specs.Prelude.{◌≡◌, ℕ, ◌<◌, List, Some}
use Rattle.lsn_core.specs.Files.{Files}
use Rattle.lsn_core.specs.Segment.{IsSegmentMib, StoreSettings}
use Rattle.lsn_core.specs.Store.{Store}
use Rattle.lsn_core.specs.Tip.{Tip}
use Rattle.vault.specs.declared.area.Vault.{Ghosts}
use Rattle.wal_record.specs.declared.record.Record.{Record}
use Rattle.recovery.specs.declared.tally.Tally.{Tally}
use Rattle.recovery.specs.Tally.{IsTallyOf}
use Rattle.data_areas.specs.declared.areas.DataAreas.{DataAreas}
use Rattle.store_areas.specs.declared.areas.StoreAreas.{StoreAreas}
use Rattle.store_areas.specs.Begin.{data_of}
use Rattle.restart_areas.specs.Counting.{CountsAll}
use Rattle.restart_areas.specs.Pages.{HoldParts}
use Rattle.store_restart.specs.declared.restarting.Restarted.{Restarted}
use Rattle.store_restart.specs.Restart.{BringsBack, HoldWhole}
use Rattle.store_restart.specs.Restarted.{IsBackFrom}
use Rattle.comeback_laws.specs.Restorable.{DeltasFollowRedo, AreRestorableAreas, IsWholeBack}

-- settings as a store has them
pub record AreSettings (s : StoreSettings) : Type 0 where
  pub segment : IsSegmentMib s.segment
  pub relseg : 0 < s.relseg

-- what four areas count together are the forks and pages of the store whose parts they hold
abbrev pub CountsAreTallies : {V : Type 0} → Ghosts V → Type 0
CountsAreTallies {V} g =
    (relseg : ℕ) (areas : DataAreas V) (tally : Tally) (store : Store)
    → CountsAll g relseg areas tally → HoldParts g relseg areas store → IsTallyOf tally store

-- data areas that were brought back, made anew or brought on, hold what the survivors make from
-- nothing, where they were restorable
abbrev pub ComebacksAreWhole : {V : Type 0} → Ghosts V → Type 0
ComebacksAreWhole {V} g =
    (s : StoreSettings) (history : List Record) (flushed : ℕ) (old : StoreAreas V)
    (new : DataAreas V) (tip : Tip) (tally : Tally) (wal : Files)
    → AreSettings s → DeltasFollowRedo history → AreRestorableAreas g s history flushed old
    → g.files old.wal ≡ Some wal → BringsBack g s tip (data_of old) new tally wal
    → HoldWhole g s tip new tally wal

-- a store that was restarted is whole, where its areas were restorable
abbrev pub RestartsHoldWhole : {V : Type 0} → Ghosts V → Type 0
RestartsHoldWhole {V} g =
    (s : StoreSettings) (history : List Record) (flushed : ℕ) (old : StoreAreas V)
    (back : Restarted V)
    → AreSettings s → DeltasFollowRedo history → AreRestorableAreas g s history flushed old
    → IsBackFrom g s old back → IsWholeBack g s history flushed back
