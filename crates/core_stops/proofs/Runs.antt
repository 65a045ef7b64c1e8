-- The laws of the core machine with stops.
use Rattle.std.proofs.Common.{◌≡◌, ℕ, ◌<◌, ◌≤◌, false, List, ◌++◌, Some, sym, ap, subst, ◌∙◌}
use Rattle.std.specs.List.{list_any}
use Rattle.std.specs.FinMap.{empty}
use Rattle.lsn_core.specs.Files.{Files}
use Rattle.history.specs.Entry.{Entry}
use Rattle.history.specs.partitions.Parts.{is_of}
use Rattle.history.specs.fuzzy_copies.Covers.{AreTidy}
use Rattle.history.specs.fuzzy_copies.Orderly.{IsOrderly}
use Rattle.history.specs.fuzzy_copies.Sound.{state_before}
use Rattle.history.specs.fuzzy_copies.Taken.{since}
use Rattle.std.proofs.lemmas.Bool.{or_left}
use Rattle.std.proofs.lemmas.List.Folds.{list_any-append}
use Rattle.stop_areas.specs.Left.{IsLeftOf}
use Rattle.stop_laws.specs.Window.{base_of, window_base}
use Rattle.core_stops.specs.Machine.{CoreWithStops, FlushedStep, first_core, with_flush}
use Rattle.core_stops.specs.Survivors.{names, IsLeftForAll}
use Rattle.core_stops.specs.Laws.{MayRun, core_after, AreasAreSafe, StopsLeaveWhatStays, SurvivorsAreLeft, StopsLeaveSurvivors, SurvivingRecordsAreLeft, StopsLeaveRecords}
use Rattle.core_stops.proofs.Parted.{knowns, laters, is_lost}
use Rattle.core_stops.proofs.Kept.{safe}
use Rattle.core_stops.proofs.Survived.{survivors_left}
use Rattle.core_stops.proofs.Records.{machine_records}
use Rattle.core_stops.proofs.Steps.{IsCore, flush_core, take, take_all, first_is}

pub core_is : (mib relseg : ℕ) (steps : List FlushedStep) → MayRun mib relseg steps → IsCore (core_after mib relseg steps)
core_is mib relseg steps may = take_all (first_core mib relseg) steps (first_is mib relseg may.segment may.some) may.may

pub areas_safe : AreasAreSafe
areas_safe mib relseg steps may q small =
    let c = core_after mib relseg steps in
    let part = c.core.parts q in
    safe q c.core.relseg c.flushed (knowns part.point c.flushed c.core.history) (laters part.point c.flushed c.core.history) (c.pasts q) part ((core_is mib relseg steps may).parts q small)

pub stops_leave : StopsLeaveWhatStays
stops_leave mib relseg steps x q store may one small defined =
    (take (core_after mib relseg steps) x (core_is mib relseg steps may) one).moments q small store defined

-- ---- by what survives

-- what files have as of the point they have for all that may survive
for_all : (c : CoreWithStops) (q : ℕ) (is : IsCore c) (small : q < 4) (files : Files) → IsLeftOf c.core.relseg (base_of (is_of q) (is.parts q small).store (since (c.core.parts q).point (knowns (c.core.parts q).point c.flushed c.core.history))) files
    → IsLeftForAll q c.core.relseg c.core.history c.flushed files
for_all c q is small files left first from base are some made =
    let k = is.parts q small in
    let place = (c.core.parts q).point in
    let le : from ≤ place = is.redo q small from (ap (list_any (names from)) are.parts ∙ (list_any-append (names from) first are.lost ∙ or_left (list_any (names from) first) (list_any (names from) are.lost) some)) in
    at (c.core.history) (sym are.parts) place le is.machine.run.orderly is.machine.run.tidy k.lost k.defined left
  where
    at : (h : List Entry) → first ++ are.lost ≡ h → (place : ℕ) → from ≤ place → IsOrderly 0 h → AreTidy empty h → list_any (is_lost q place c.flushed) (knowns place c.flushed h) ≡ false → state_before (knowns place c.flushed h) place ≡ Some (is.parts q small).store
        → IsLeftOf c.core.relseg (base_of (is_of q) (is.parts q small).store (since place (knowns place c.flushed h))) files → IsLeftOf c.core.relseg (window_base q from first base) files
    at h same place le = subst
        (λ (l : List Entry). IsOrderly 0 l → AreTidy empty l → list_any (is_lost q place c.flushed) (knowns place c.flushed l) ≡ false → state_before (knowns place c.flushed l) place ≡ Some (is.parts q small).store
        → IsLeftOf c.core.relseg (base_of (is_of q) (is.parts q small).store (since place (knowns place c.flushed l))) files → IsLeftOf c.core.relseg (window_base q from first base) files)
        same
        (λ rise tidy quiet there old. survivors_left c.core.relseg q c.flushed from place first are.lost base (is.parts q small).store files rise tidy are.late le quiet made there old)

pub survivors_now : SurvivorsAreLeft
survivors_now mib relseg steps q may small =
    let c = core_after mib relseg steps in
    let is = core_is mib relseg steps may in
    λ files left. for_all c q is small files ((is.parts q small).left files left)

pub survivors_moments : StopsLeaveSurvivors
survivors_moments mib relseg steps x q may one small =
    let c = core_after mib relseg steps in
    let is = core_is mib relseg steps may in
    let flushed = flush_core c x.flushed is one.rises one.within in
    let k = flushed.parts q small in
    let l = (take c x is one).moments q small k.store k.defined in
    (λ files left. for_all (with_flush c x.flushed) q flushed small files (l.0 files left), λ files left. for_all (with_flush c x.flushed) q flushed small files (l.1 files left))

pub records_now : SurvivingRecordsAreLeft
records_now mib relseg steps q may small =
    let c = core_after mib relseg steps in
    let is = core_is mib relseg steps may in
    λ files left. machine_records c.core q c.core.relseg c.flushed files is.machine.run (survivors_now mib relseg steps q may small files left)

pub records_moments : StopsLeaveRecords
records_moments mib relseg steps x q may one small =
    let c = core_after mib relseg steps in
    let is = core_is mib relseg steps may in
    let l = survivors_moments mib relseg steps x q may one small in (
      λ files left. machine_records c.core q c.core.relseg x.flushed files is.machine.run (l.0 files left),
      λ files left. machine_records c.core q c.core.relseg x.flushed files is.machine.run (l.1 files left),
    )
