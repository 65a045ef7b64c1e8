-- Areas that are handed back where no store was begun.
use Rattle.std.proofs.Common.{◌≡◌, ℕ, ◌<◌, ◌≤◌, List, map, Option, Some, None, IfSome, IsSome, refl, sym, ap, subst, ◌∙◌, arith}
use Rattle.std.specs.Prelude.{box_value}
use Rattle.std.specs.FinMap.{empty}
use Rattle.lsn_core.specs.Files.{Files}
use Rattle.lsn_core.specs.Segment.{StoreSettings}
use Rattle.lsn_core.specs.Store.{Store}
use Rattle.lsn_core.specs.Tip.{Tip}
use Rattle.lsn_core.specs.declared.fault.StoreFault.{StoreFault}
use Rattle.vault.specs.declared.area.Vault.{Ghosts}
use Rattle.vault.specs.Frame.{Adds, IsAmong}
use Rattle.history.specs.Entry.{Entry}
use Rattle.history.specs.Apply.{apply_all}
use Rattle.history.specs.Whole.{entry_of}
use Rattle.history.proofs.partitions.Puts.{one_part}
use Rattle.recovery.specs.Causes.{HasSettings}
use Rattle.recovery.specs.Reading.{IsReadTo}
use Rattle.recovery.specs.declared.fault.RecoveryFault.{RecoveryFault}
use Rattle.recovery.proofs.OneWal.{both_end}
use Rattle.data_areas.specs.declared.areas.DataAreas.{DataAreas}
use Rattle.vault.specs.declared.boxed.BoxedArea.{BoxedArea}
use Rattle.data_areas.specs.Areas.{FaultsGrow, TellAlike, DataCause}
use Rattle.vault.specs.Boxed.{on_heap}
use Rattle.data_areas.specs.Marking.{IsOther}
use Rattle.data_areas.specs.Phases.{first_past, HaveMarkSince}
use Rattle.data_areas.specs.Rebuilt.{held_by}
use Rattle.data_areas.specs.Settling.{SettledSoFar}
use Rattle.data_areas.proofs.Phases.{so_far_on, came_so_far, cause_on, begun_on}
use Rattle.store_areas.specs.declared.areas.StoreAreas.{StoreAreas}
use Rattle.store_finding.specs.declared.boxing.BoxedAreas.{BoxedAreas}
use Rattle.store_areas.specs.declared.found.BeginFault.{BeginFault}
use Rattle.store_faults.specs.declared.begin_why.BeginWhy.{BeginWhy}
use Rattle.store_faults.specs.declared.begin_why.BeginWhy.TheVariants as why
use Rattle.store_areas.specs.Opened.{NoneFell}
use Rattle.store_areas.specs.Begin.{faults_of, IsWalPart, BeginCause, MayComeLate, BeginsNot, IsUnbegun}
use Rattle.store_areas.specs.Read.{IsFound}
use Rattle.store_finding.specs.Filling.{areas_with, HoldHistory, IsUnsettled, FillsNot, IsUnfilled}
use Rattle.store_finding.proofs.Begun.{fell_boxed, cause_boxed, came_at}

-- ---- areas that a replay filled

pub unsettled_at : {V : Type 0} (g : Ghosts V) (relseg : ℕ) (old : BoxedAreas V) (back : V) (new : DataAreas (BoxedArea V)) (areas : StoreAreas V) (fault : StoreFault) → areas ≡ areas_with back new → back ≡ old.wal → FaultsGrow (on_heap g) old.pages new
    → SettledSoFar (on_heap g) relseg (held_by (on_heap g) relseg old.pages) old.pages new → DataCause (on_heap g) old.pages new fault → IsUnsettled g relseg old (record { areas = areas; why = why.Data fault })
unsettled_at {V} g relseg old back new areas fault is same grow came cause = record {
  pages = new;
  areas = is ∙ ap (λ (v : V). areas_with v new) same;
  later = grow;
  came = came;
  why_is = fault;
  why = refl;
  cause = cause;
}

-- the pages that the WAL makes are those that the areas hold
pub among_held : {V : Type 0} (g : Ghosts V) (s : StoreSettings) (files : Option Files) (history : List Entry) (pages : ℕ) (tip : Tip) (areas : DataAreas (BoxedArea V)) → IsFound files s history pages tip → HoldHistory (on_heap g) s.relseg files areas history
    → (q : ℕ) → q < 4 → (held : Store) → IsWalPart files s q held → held_by (on_heap g) s.relseg areas q held
among_held g s files history pages tip areas found holds q below held part =
    let made : apply_all empty history ≡ Some part.store = ap (apply_all empty) (found.has.history_is ∙ ap (map entry_of) (sym (same files part.told part.read found.has.read))) ∙ part.made in
    let has = holds part.told part.store made q below in
    subst (held_by (on_heap g) s.relseg areas q) (one_part q part.store has.0 held has.1.0 part.part_is) has.1.1
  where
    same : (o : Option Files) → IsSome o → IsReadTo s o None part.entries part.tip → IsReadTo s o None found.has.found tip → part.entries ≡ found.has.found
    same None told a b = absurd (let t = sym told in cc)
    same (Some m) told a b = (both_end s m None part.entries found.has.found part.tip tip a.archive b.archive).0

pub unfilled_of : {V : Type 0} (g : Ghosts V) (s : StoreSettings) (old mid : BoxedAreas V) (fault : BeginFault V) → g.files mid.wal ≡ g.files old.wal → g.faults old.wal ≤ g.faults mid.wal → FaultsGrow (on_heap g) old.pages mid.pages → TellAlike (on_heap g) old.pages mid.pages
    → Adds (IsAmong IsOther) (first_past (on_heap g) old.pages) (first_past (on_heap g) mid.pages) → ((q : ℕ) → q < 4 → (held : Store) → IsWalPart (g.files old.wal) s q held → held_by (on_heap g) s.relseg mid.pages q held)
    → IsUnsettled g s.relseg mid fault → IsUnfilled g s old fault
unfilled_of g s old mid fault same counted grow tell more among is = record {
  wal = mid.wal;
  pages = is.pages;
  areas = is.areas;
  same = same;
  counted = counted;
  later = λ q. omega (arith, grow q, is.later q);
  cause = subst (FillsNot g s old mid.wal is.pages) (sym is.why) (
    cause_on (on_heap g) old.pages mid.pages is.pages is.why_is grow is.cause,
    so_far_on (on_heap g) s.relseg (held_by (on_heap g) s.relseg mid.pages) (IsWalPart (g.files old.wal) s) old.pages mid.pages is.pages tell more among is.came,
  );
}

-- ---- areas that a replay didn't fill

pub unfilled_at : {V : Type 0} (g : Ghosts V) (s : StoreSettings) (old : BoxedAreas V) (wal : V) (pages : DataAreas (BoxedArea V)) (areas : StoreAreas V) (why_is : BeginWhy) → areas ≡ areas_with wal pages → g.files wal ≡ g.files old.wal → g.faults old.wal ≤ g.faults wal
    → FaultsGrow (on_heap g) old.pages pages → FillsNot g s old wal pages why_is → IsUnfilled g s old (record { areas = areas; why = why_is })
unfilled_at g s old wal pages areas why_is is same counted grow cause = record { wal = wal; pages = pages; areas = is; same = same; counted = counted; later = grow; cause = cause }

-- ---- areas that were cleared before

pub unbegun_of : {V : Type 0} (g : Ghosts V) (s : StoreSettings) (wal : V) (x : DataAreas (BoxedArea V)) (mid : BoxedAreas V) (fault : BeginFault V) → mid.wal ≡ wal → HasSettings (g.files wal) s → FaultsGrow (on_heap g) x mid.pages → TellAlike (on_heap g) x mid.pages
    → HaveMarkSince (on_heap g) x mid.pages → IsUnfilled g s mid fault → IsUnbegun g (areas_with wal x) fault
unbegun_of {V} g s wal x mid fault is given grow tell begins unfilled =
    let same : g.files unfilled.wal ≡ g.files wal = unfilled.same ∙ ap g.files is in
    let counted : g.faults wal ≤ g.faults unfilled.wal = (let e = ap g.faults is in omega (arith, e, unfilled.counted)) in
    let old : StoreAreas V = areas_with wal x in
    let new : StoreAreas V = areas_with unfilled.wal unfilled.pages in
    let later : FaultsGrow (on_heap g) x unfilled.pages = λ q. omega (arith, grow q, unfilled.later q) in
    record {
      wal = ap (λ (a : StoreAreas V). g.files a.wal) unfilled.areas ∙ same;
      later = subst (λ (a : StoreAreas V). NoneFell (faults_of g old) (faults_of g a)) (sym unfilled.areas) (fell_boxed g wal unfilled.wal x unfilled.pages counted later);
      cause = subst (λ (a : StoreAreas V). BeginsNot g old a fault.why) (sym unfilled.areas) (go fault.why unfilled.cause);
    }
  where
    moved : (f : RecoveryFault) → BeginCause (g.files mid.wal) (g.faults mid.wal) (g.faults unfilled.wal) f → BeginCause (g.files wal) (g.faults wal) (g.faults unfilled.wal) f
    moved f cause = subst (λ (v : V). BeginCause (g.files v) (g.faults v) (g.faults unfilled.wal) f) is cause

    go : (w : BeginWhy) → FillsNot g s mid unfilled.wal unfilled.pages w → BeginsNot g (areas_with wal x) (areas_with unfilled.wal unfilled.pages) w
    go (why.Wal f) cause = absurd cause
    go (why.Replay f) cause = (
      moved f cause.0,
      (
        subst (λ (v : V). IfSome (g.files v) (λ m. MayComeLate f)) is cause.1.0,
        begun_on (IsSome (g.files (box_value x.data0.area))) (first_past (on_heap g) x) (first_past (on_heap g) mid.pages) (first_past (on_heap g) unfilled.pages) begins cause.1.1,
      ),
    )
    go (why.Data f) cause = (
      cause_boxed g wal unfilled.wal x unfilled.pages f (cause_on (on_heap g) x mid.pages unfilled.pages f grow cause.0),
      record {
        settings = s;
        given = given;
        came = came_at g s.relseg (IsWalPart (g.files wal) s) wal unfilled.wal x unfilled.pages
            (came_so_far (on_heap g) s.relseg (IsWalPart (g.files wal) s) x mid.pages unfilled.pages tell begins
            (subst (λ (v : V). SettledSoFar (on_heap g) s.relseg (IsWalPart (g.files v) s) mid.pages unfilled.pages) is cause.1));
      },
    )
