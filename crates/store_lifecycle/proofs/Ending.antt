-- A store that is ended: what its areas hold then, and what failed.
use Rattle.std.proofs.Common.{◌≡◌, ℕ, zero, suc, ◌<◌, ◌≤◌, Bool, true, false, cond, Result, Ok, Err, IfOk, IfErr, List, Option, Some, sym, subst, arith}
use Rattle.std.specs.Prelude.{◌==◌}
use Rattle.lsn_core.specs.Causes.{Rose}
use Rattle.lsn_core.specs.Files.{Files}
use Rattle.lsn_core.specs.Segment.{StoreSettings}
use Rattle.lsn_core.specs.declared.fault.StoreArea.{StoreArea}
use Rattle.lsn_core.specs.declared.fault.StoreArea.TheVariants.{Wal, Data, Sums}
use Rattle.lsn_core.specs.declared.fault.StoreFault.{StoreFault}
use Rattle.lsn_core.specs.declared.fault.StoreFault.TheVariants as store
use Rattle.vault.specs.Stops.{Event}
use Rattle.vault.specs.Frame.{AgreeBut, IsDurable}
use Rattle.vault.specs.declared.area.Vault.{Ghosts}
use Rattle.wal_writer.specs.declared.state.Flushed.{Flushed}
use Rattle.wal_writer.specs.Stops.{IsSegmentFile}
use Rattle.history.specs.Entry.{Entry}
use Rattle.history.specs.Written.{tip_of}
use Rattle.journal.specs.Journal.{IsJournal, Written}
use Rattle.page_pool.specs.Part.{Part}
use Rattle.store_areas.specs.declared.areas.StoreAreas.{StoreAreas}
use Rattle.store_areas.specs.Opened.{Opened, Faults, NoneFell, StoreCause, count_of}
use Rattle.store_lifecycle.specs.Ended.{IsOpen, opened_of}
use Rattle.store_locks.specs.Calls.{MayWriteWal}
use Rattle.store_areas.specs.Begin.{faults_of}
use Rattle.store_areas.specs.Begin.{data_area}
use Rattle.store_lifecycle.specs.Close.{HoldsPart, AreDurable, HoldsHistory}
use Rattle.store_lifecycle.specs.Ended.{EndAnswer, IsEnded}
use Rattle.store_locks.specs.Inside.{AreaCause}
use Rattle.store_lifecycle.specs.Ended.{IsAllFlushed, HoldsWhole, PartAnswer, place_of}
use Rattle.store_locks.proofs.Kept.{some_on}
use Rattle.store_locks.proofs.Recorded.{IsHeld, some_of}
use Rattle.store_lifecycle.proofs.Closed.{held_at, top_at, holds_part}

each : (P : ℕ → Type 0) → P 0 → P 1 → P 2 → P 3 → (q : ℕ) → q < 4 → P q
each P a b c d zero lt = a
each P a b c d (suc zero) lt = b
each P a b c d (suc (suc zero)) lt = c
each P a b c d (suc (suc (suc zero))) lt = d
each P a b c d (suc (suc (suc (suc q)))) lt = absurd (omega (arith, lt))

-- ---- faults

-- a choice among four numbers
pick_less : (s t u v : Bool) (a b c d a2 b2 c2 d2 : ℕ) → a ≤ a2 → b ≤ b2 → c ≤ c2 → d ≤ d2 → cond s a (cond t b (cond u c (cond v d 0))) ≤ cond s a2 (cond t b2 (cond u c2 (cond v d2 0)))
pick_less true t u v a b c d a2 b2 c2 d2 e f g h = e
pick_less false true u v a b c d a2 b2 c2 d2 e f g h = f
pick_less false false true v a b c d a2 b2 c2 d2 e f g h = g
pick_less false false false true a b c d a2 b2 c2 d2 e f g h = h
pick_less false false false false a b c d a2 b2 c2 d2 e f g h = omega arith

fell_each : (old new : Faults) → old.wal ≤ new.wal → old.data0 ≤ new.data0 → old.data1 ≤ new.data1 → old.data2 ≤ new.data2 → old.data3 ≤ new.data3 → NoneFell old new
fell_each old new w a b c d Wal = w
fell_each old new w a b c d (Data q) = pick_less (q == 0) (q == 1) (q == 2) (q == 3) old.data0 old.data1 old.data2 old.data3 new.data0 new.data1 new.data2 new.data3 a b c d
fell_each old new w a b c d Sums = omega arith

pub area_cause : (which : StoreArea) (old new : Faults) (why : StoreFault) → AreaCause which (count_of which old) (count_of which new) why → StoreCause old new why
area_cause which old new (store.Failed other) cause = subst (λ a. Rose (count_of a old) (count_of a new)) (sym cause.0) cause.1
area_cause which old new store.NoMemory cause = tt

-- ---- one step of closing behind another

pub caused : (q relseg : ℕ) (tells : Type 0) (part : Part) (files : Option Files) (past : Option (List Event)) (faults : ℕ) (old new : Faults) (r s : Result Flushed StoreFault) → ((why : StoreFault) → AreaCause (Data q) part.faults faults why → StoreCause old new why)
    → PartAnswer q relseg tells part files past faults r s → IfErr r (StoreCause old new) → IfErr s (StoreCause old new)
caused q relseg tells part files past faults old new (Err why) s cause answer before = subst (λ x. IfErr x (StoreCause old new)) (sym answer) before
caused q relseg tells part files past faults old new (Ok mark) (Ok same) cause answer before = tt
caused q relseg tells part files past faults old new (Ok mark) (Err why) cause answer before = cause why answer

pub passed : (q relseg : ℕ) (tells : Type 0) (part : Part) (files : Option Files) (past : Option (List Event)) (faults : ℕ) (P : Flushed → Type 0) (r s : Result Flushed StoreFault) → PartAnswer q relseg tells part files past faults r s → IfOk r P
    → IfOk s (λ mark. P mark × HoldsWhole relseg tells part files past)
passed q relseg tells part files past faults P (Err why) s answer before = subst (λ x. IfOk x (λ mark. P mark × HoldsWhole relseg tells part files past)) (sym answer) tt
passed q relseg tells part files past faults P (Ok mark) (Ok same) answer before = (subst P (sym answer.0) before, answer.1)
passed q relseg tells part files past faults P (Ok mark) (Err why) answer before = tt

-- ---- the answer

history_of : {V : Type 0} (g : Ghosts V) (s : StoreSettings) (history : List Entry) (areas : StoreAreas V) (files : Files) → (h : IsHeld s.segment s.system history files) → g.files areas.wal ≡ Some files
    → ((q : ℕ) → q < 4 → HoldsPart s.relseg q h.lawful.store (g.files (data_area areas q))) → AreDurable g areas → HoldsHistory g s history areas
history_of g s history areas files h e parts durable = record {
  lawful = h.lawful;
  files = files;
  wal = e;
  records = record { tip = h.held.tip; at = h.held.at; read = h.held.walk; whole = h.held.whole };
  parts = parts;
  durable = durable;
}

-- what is known where the store was taken apart
pub record IsApart {V : Type 0} (g : Ghosts V) (settings : StoreSettings) (tells : Type 0) (old new : Written V) (p0 p1 p2 p3 : Part) (areas : StoreAreas V) (r0 r1 r2 r3 r4 : Result Flushed StoreFault) : Type 0 where
  pub pen : new.pen ≡ old.pen
  pub written : MayWriteWal old.wal.tail.mib old.wal.tail.flushed (tip_of old.wal.tail.mib old.pen).end (g.files old.wal.area) (g.files new.wal.area)
  pub whole : IfOk r0 (IsAllFlushed g old new)
  pub later : g.faults old.wal.area ≤ g.faults new.wal.area
  pub cause : IfErr r0 (AreaCause Wal (g.faults old.wal.area) (g.faults new.wal.area))
  pub told : tells → IsJournal g new.wal new.pen new.pages
  pub area : areas.wal ≡ new.wal.area
  pub later0 : p0.faults ≤ g.faults areas.data0
  pub later1 : p1.faults ≤ g.faults areas.data1
  pub later2 : p2.faults ≤ g.faults areas.data2
  pub later3 : p3.faults ≤ g.faults areas.data3
  pub answer0 : PartAnswer 0 settings.relseg tells p0 (g.files areas.data0) (g.past areas.data0) (g.faults areas.data0) r0 r1
  pub answer1 : PartAnswer 1 settings.relseg tells p1 (g.files areas.data1) (g.past areas.data1) (g.faults areas.data1) r1 r2
  pub answer2 : PartAnswer 2 settings.relseg tells p2 (g.files areas.data2) (g.past areas.data2) (g.faults areas.data2) r2 r3
  pub answer3 : PartAnswer 3 settings.relseg tells p3 (g.files areas.data3) (g.past areas.data3) (g.faults areas.data3) r3 r4

wal_cause : (old new : Faults) (r : Result Flushed StoreFault) → IfErr r (AreaCause Wal old.wal new.wal) → IfErr r (StoreCause old new)
wal_cause old new (Ok mark) cause = tt
wal_cause old new (Err why) cause = area_cause Wal old new why cause

at_area : {V : Type 0} (n : ℕ) (f : V → ℕ) (a b : V) → a ≡ b → n ≤ f b → n ≤ f a
at_area n f a b same le = subst (λ v. n ≤ f v) (sym same) le

-- whatever was answered, what the areas hold, or why not
answered : {V : Type 0} (g : Ghosts V) (store : Opened) (tells : Type 0) (areas : StoreAreas V) (r : Result Flushed StoreFault) → IfOk r (λ mark. (mark.to.0 ≡ (tip_of store.settings.segment store.history).end) × (tells → HoldsHistory g store.settings store.history areas))
    → IfErr r (StoreCause store.faults (faults_of g areas)) → EndAnswer g tells store areas (place_of r)
answered g store tells areas (Ok mark) done cause = done
answered g store tells areas (Err why) done cause = cause

pub ok_turned : {A E : Type 0} (P Q : A → Type 0) (r : Result A E) → ((a : A) → P a → Q a) → IfOk r P → IfOk r Q
ok_turned P Q (Ok a) turn p = turn a p
ok_turned P Q (Err e) turn p = tt

pub closed : {V : Type 0} (g : Ghosts V) (settings : StoreSettings) (tells : Type 0) (workers : ℕ) (old new : Written V) (p0 p1 p2 p3 : Part) (counts : List ℕ) (at : ℕ) (areas : StoreAreas V) (r0 r1 r2 r3 r4 : Result Flushed StoreFault)
    → IsOpen g settings tells workers old p0 p1 p2 p3 counts at → IsApart g settings tells old new p0 p1 p2 p3 areas r0 r1 r2 r3 r4 → IsEnded g tells (opened_of g settings old p0 p1 p2 p3) areas (place_of r4)
closed {V} g settings tells workers old new p0 p1 p2 p3 counts at areas r0 r1 r2 r3 r4 is a =
    let store : Opened = opened_of g settings old p0 p1 p2 p3 in
    let now : Faults = faults_of g areas in
    let rs = settings.relseg in
    let e0 = wal_cause store.faults now r0 (subst (λ (v : V). IfErr r0 (AreaCause Wal (g.faults old.wal.area) (g.faults v))) (sym a.area) a.cause) in
    let e1 = caused 0 rs tells p0 (g.files areas.data0) (g.past areas.data0) (g.faults areas.data0) store.faults now r0 r1 (area_cause (Data 0) store.faults now) a.answer0 e0 in
    let e2 = caused 1 rs tells p1 (g.files areas.data1) (g.past areas.data1) (g.faults areas.data1) store.faults now r1 r2 (area_cause (Data 1) store.faults now) a.answer1 e1 in
    let e3 = caused 2 rs tells p2 (g.files areas.data2) (g.past areas.data2) (g.faults areas.data2) store.faults now r2 r3 (area_cause (Data 2) store.faults now) a.answer2 e2 in
    let e4 = caused 3 rs tells p3 (g.files areas.data3) (g.past areas.data3) (g.faults areas.data3) store.faults now r3 r4 (area_cause (Data 3) store.faults now) a.answer3 e3 in
    let d1 = passed 0 rs tells p0 (g.files areas.data0) (g.past areas.data0) (g.faults areas.data0) _ r0 r1 a.answer0 a.whole in
    let d2 = passed 1 rs tells p1 (g.files areas.data1) (g.past areas.data1) (g.faults areas.data1) _ r1 r2 a.answer1 d1 in
    let d3 = passed 2 rs tells p2 (g.files areas.data2) (g.past areas.data2) (g.faults areas.data2) _ r2 r3 a.answer2 d2 in
    let d4 = passed 3 rs tells p3 (g.files areas.data3) (g.past areas.data3) (g.faults areas.data3) _ r3 r4 a.answer3 d3 in
    record {
      wal = subst (λ (v : V). MayWriteWal settings.segment old.wal.tail.flushed (tip_of settings.segment old.pen).end (g.files old.wal.area) (g.files v)) (sym a.area)
          (subst (λ n. MayWriteWal n old.wal.tail.flushed (tip_of n old.pen).end (g.files old.wal.area) (g.files new.wal.area)) is.wal.segment a.written);
      later = fell_each store.faults now (at_area (g.faults old.wal.area) g.faults areas.wal new.wal.area a.area a.later) a.later0 a.later1 a.later2 a.later3;
      answer = answered g store tells areas r4
          (ok_turned _ _ r4 (λ mark d. (top_at g settings.segment old new mark is.wal.segment d.0.0.0.0 a.pen, λ t. kept mark d.0.0.0.0 d.0.0.0.1 d.0.0.1 d.0.1 d.1 t)) d4) e4;
    }
  where
    kept : (mark : Flushed) → IsAllFlushed g old new mark → HoldsWhole settings.relseg tells p0 (g.files areas.data0) (g.past areas.data0) → HoldsWhole settings.relseg tells p1 (g.files areas.data1) (g.past areas.data1)
        → HoldsWhole settings.relseg tells p2 (g.files areas.data2) (g.past areas.data2) → HoldsWhole settings.relseg tells p3 (g.files areas.data3) (g.past areas.data3) → tells → HoldsHistory g settings old.pen areas
    kept mark f w0 w1 w2 w3 t =
        let found = some_of (g.files new.wal.area) (some_on (AgreeBut (IsSegmentFile old.wal.tail.mib old.wal.tail.flushed (tip_of old.wal.tail.mib old.pen).end)) (g.files old.wal.area) (g.files new.wal.area) a.written.files (is.wal.told t)) in
        let h = held_at g settings tells old new 0 at found.0 mark is.wal f a.pen (a.told t) found.1 in
        let rest = f.rest (omega (arith, f.known.touched, f.all)) in
        history_of g settings old.pen areas found.0 h (subst (λ (v : V). g.files v ≡ Some found.0) (sym a.area) found.1)
        (each (λ q. HoldsPart settings.relseg q h.lawful.store (g.files (data_area areas q)))
        (holds_part settings.segment 0 settings.relseg tells old.pen p0 (g.files areas.data0) h.lawful is.first t (w0.0 t))
        (holds_part settings.segment 1 settings.relseg tells old.pen p1 (g.files areas.data1) h.lawful is.second t (w1.0 t))
        (holds_part settings.segment 2 settings.relseg tells old.pen p2 (g.files areas.data2) h.lawful is.third t (w2.0 t))
        (holds_part settings.segment 3 settings.relseg tells old.pen p3 (g.files areas.data3) h.lawful is.fourth t (w3.0 t)))
        (record {
          wal = subst (λ (v : V). IsDurable (g.files v) (g.past v)) (sym a.area) rest;
          parts = each (λ q. IsDurable (g.files (data_area areas q)) (g.past (data_area areas q))) w0.1 w1.1 w2.1 w3.1;
        })
