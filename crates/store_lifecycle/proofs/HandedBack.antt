-- What a shared store that is closed leaves, and what its workers are known to have.
use Rattle.std.proofs.Common.{◌≡◌, ℕ, zero, suc, ◌+◌, ◌<◌, ◌≤◌, Bool, true, false, cond, Result, Ok, Err, List, [], ◌∷◌, length, refl, sym, ap, subst, ◌∙◌, arith}
use Rattle.std.specs.Prelude.{◌==◌, box_value}
use Rattle.std.specs.List.{All, sum_by}
use Rattle.std.proofs.lemmas.Bool.{eqb-true}
use Rattle.std.proofs.lemmas.List.Sums.{sum_by-cons}
use mathlib.Core.List.{IsPrefix}
use Rattle.lsn_core.specs.Causes.{Rose}
use Rattle.lsn_core.specs.Segment.{StoreSettings}
use Rattle.lsn_core.specs.declared.lsn.Lsn.{Lsn}
use Rattle.lsn_core.specs.declared.fault.StoreArea.{StoreArea}
use Rattle.lsn_core.specs.declared.fault.StoreArea.TheVariants.{Wal, Data, Sums}
use Rattle.lsn_core.specs.declared.fault.StoreFault.{StoreFault}
use Rattle.lsn_core.specs.declared.fault.StoreFault.TheVariants as store
use Rattle.vault.specs.declared.area.Vault.{Ghosts}
use Rattle.vault.specs.Frame.{IsDurable}
use Rattle.history.specs.Entry.{Entry}
use Rattle.history.specs.Written.{tip_of}
use Rattle.journal.specs.Journal.{Written}
use Rattle.journal.specs.Lawful.{IsLawful}
use Rattle.page_pool.specs.Part.{Part}
use Rattle.vault.specs.declared.boxed.BoxedArea.{BoxedArea}
use Rattle.vault.specs.Boxed.{on_heap}
use Rattle.store_ledgers.specs.Counts.{Counts}
use Rattle.store_areas.specs.declared.areas.StoreAreas.{StoreAreas}
use Rattle.store_areas.specs.Opened.{Faults, count_of, data_count}
use Rattle.store_lifecycle.specs.Ended.{opened_of}
use Rattle.store_locks.specs.Calls.{MayWriteWal, IsOfRun}
use Rattle.store_areas.specs.Begin.{faults_of}
use Rattle.store_areas.specs.Begin.{data_area}
use Rattle.store_lifecycle.specs.Close.{area_at, booked_at, all_booked, HoldsPart, HoldsHistory, HasFailed, CloseAnswer, IsClosed}
use Rattle.store_lifecycle.specs.Ended.{EndAnswer, IsEnded, off_heap}
use Rattle.store_locks.specs.Inside.{written_end, end_of}
use Rattle.store_locks.specs.Seen.{Seen, Booked, both_booked}
use Rattle.shared_store.specs.Shared.{CountsItsOwn}
use Rattle.store_locks.specs.Locked.{AllHeld, gathered, empty_shares, WalStart, IsDesk, HasRisen}
use Rattle.store_locks.proofs.Goes.{writes_on}
use Rattle.store_locks.proofs.Keeping.{four}

-- ---- faults of all workers

booked_both : (a : ℕ) (x y : Booked) → booked_at a (both_booked x y) ≡ booked_at a x + booked_at a y
booked_both a x y = go (a == 0) (a == 1) (a == 2) (a == 3)
  where
    picked : (p q r s : Bool) → Booked → ℕ
    picked p q r s b = cond p b.data0 (cond q b.data1 (cond r b.data2 (cond s b.data3 b.wal)))

    go : (p q r s : Bool) → picked p q r s (both_booked x y) ≡ picked p q r s x + picked p q r s y
    go true q r s = refl
    go false true r s = refl
    go false false true s = refl
    go false false false true = refl
    go false false false false = refl

gathered_faults : (a : ℕ) (all : AllHeld) (passes : List Seen) → booked_at a (gathered all passes).faults ≡ booked_at a all.faults + all_booked a passes
gathered_faults a all [] = omega arith
gathered_faults a all (p ∷ passes) =
    omega (arith, booked_both a (gathered all passes).faults p.faults, gathered_faults a all passes, sum_by-cons (λ (q : Seen). booked_at a q.faults) p passes)

five : (P : ℕ → Type 0) → P 0 → P 1 → P 2 → P 3 → P 4 → (a : ℕ) → a < 5 → P a
five P p0 p1 p2 p3 p4 zero lt = p0
five P p0 p1 p2 p3 p4 (suc zero) lt = p1
five P p0 p1 p2 p3 p4 (suc (suc zero)) lt = p2
five P p0 p1 p2 p3 p4 (suc (suc (suc zero))) lt = p3
five P p0 p1 p2 p3 p4 (suc (suc (suc (suc zero)))) lt = p4
five P p0 p1 p2 p3 p4 (suc (suc (suc (suc (suc n))))) lt = absurd (omega (arith, lt))

none_booked : (a : ℕ) → a < 5 → booked_at a (empty_shares 0).faults ≡ 0
none_booked a lt = five (λ n. booked_at n (empty_shares 0).faults ≡ 0) refl refl refl refl refl a lt

pub all_gathered : (a : ℕ) (passes : List Seen) → a < 5 → booked_at a (gathered (empty_shares 0) passes).faults ≡ all_booked a passes
all_gathered a passes lt = omega (arith, gathered_faults a (empty_shares 0) passes, none_booked a lt)

pub sums_gathered : (all : AllHeld) (passes : List Seen) → (gathered all passes).faults.sums ≡ all.faults.sums + sum_by (λ (p : Seen). p.faults.sums) passes
sums_gathered all [] = omega arith
sums_gathered all (p ∷ passes) = omega (arith, sums_gathered all passes, sum_by-cons (λ (q : Seen). q.faults.sums) p passes)

not_equal : (a b : ℕ) → (a ≡ b → ⊥) → (a == b) ≡ false
not_equal a b apart =
    elim (a == b) as (λ x. (a == b) ≡ x → (a == b) ≡ false) [ true ↦ λ is. absurd (apart (eqb-true a b is)) | false ↦ λ is. is ] refl

-- of a data area that isn't there nothing is counted
count_none : (q : ℕ) (f : Faults) → 4 ≤ q → data_count q f ≡ 0
count_none q f ge =
    ap (λ b. cond b f.data0 (cond (q == 1) f.data1 (cond (q == 2) f.data2 (cond (q == 3) f.data3 0)))) (not_equal q 0 (λ e. omega (arith, e, ge)))
    ∙ (ap (λ b. cond b f.data1 (cond (q == 2) f.data2 (cond (q == 3) f.data3 0))) (not_equal q 1 (λ e. omega (arith, e, ge)))
    ∙ (ap (λ b. cond b f.data2 (cond (q == 3) f.data3 0)) (not_equal q 2 (λ e. omega (arith, e, ge)))
    ∙ ap (λ b. cond b f.data3 0) (not_equal q 3 (λ e. omega (arith, e, ge)))))

up : (start n all before now : ℕ) → HasRisen start n before → n ≡ all → before ≤ now → HasRisen start all now
up start n all before now h e le = (omega (arith, h.0, le), omega (arith, h.1, e, le))

more : (start n all before now : ℕ) → HasRisen start n before → n ≡ all → before ≤ now → Rose before now → HasRisen start (all + 1) now
more start n all before now h e le rose = (omega (arith, h.0, le), omega (arith, h.1, e, rose))

-- ---- a store that is closed

module _ {V : Type 0} (g : Ghosts V) (tells : Type 0) (s : StoreSettings) (found : List Entry) (workers : ℕ) (from : WalStart) (starts : ℕ → ℕ) (passes : List Seen) (journal : Written (BoxedArea V)) (p0 p1 p2 p3 : Part) (mark : ℕ) (counts : List ℕ) (entries : Counts) (made faults n0 n1 n2 n3 : ℕ)
    (desk : IsDesk (on_heap g) s tells found workers from (starts 4) journal mark counts entries made faults) (all : faults ≡ all_booked 4 passes) (r0 : HasRisen (starts 0) n0 p0.faults) (r1 : HasRisen (starts 1) n1 p1.faults) (r2 : HasRisen (starts 2) n2 p2.faults) (r3 : HasRisen (starts 3) n3 p3.faults)
    (e0 : n0 ≡ all_booked 0 passes) (e1 : n1 ≡ all_booked 1 passes) (e2 : n2 ≡ all_booked 2 passes) (e3 : n3 ≡ all_booked 3 passes) (boxed : StoreAreas (BoxedArea V)) where
  held : HoldsHistory (on_heap g) s journal.pen boxed → HoldsHistory g s journal.pen (off_heap boxed)
  held h = record {
    lawful = h.lawful;
    files = h.files;
    wal = h.wal;
    records = h.records;
    parts = four (λ q. HoldsPart s.relseg q h.lawful.store (g.files (data_area (off_heap boxed) q))) (h.parts 0 (omega arith)) (h.parts 1 (omega arith)) (h.parts 2 (omega arith)) (h.parts 3 (omega arith));
    durable = record {
      wal = h.durable.wal;
      parts = four (λ q. IsDurable (g.files (data_area (off_heap boxed) q)) (g.past (data_area (off_heap boxed) q))) (h.durable.parts 0 (omega arith)) (h.durable.parts 1 (omega arith)) (h.durable.parts 2 (omega arith)) (h.durable.parts 3 (omega arith));
    };
  }

  failed : (which : StoreArea) → count_of which (opened_of (on_heap g) s journal p0 p1 p2 p3).faults ≤ count_of which (faults_of (on_heap g) boxed) → Rose (count_of which (opened_of (on_heap g) s journal p0 p1 p2 p3).faults) (count_of which (faults_of (on_heap g) boxed)) → HasFailed g starts passes (off_heap boxed) which
  failed Wal le rose = record { number = 4; below = omega arith; is = refl; risen = more (starts 4) faults (all_booked 4 passes) ((on_heap g).faults journal.wal.area) (g.faults (box_value boxed.wal.area)) desk.risen all le rose }
  failed (Data zero) le rose = record { number = 0; below = omega arith; is = refl; risen = more (starts 0) n0 (all_booked 0 passes) p0.faults (g.faults (box_value boxed.data0.area)) r0 e0 le rose }
  failed (Data (suc zero)) le rose = record { number = 1; below = omega arith; is = refl; risen = more (starts 1) n1 (all_booked 1 passes) p1.faults (g.faults (box_value boxed.data1.area)) r1 e1 le rose }
  failed (Data (suc (suc zero))) le rose = record { number = 2; below = omega arith; is = refl; risen = more (starts 2) n2 (all_booked 2 passes) p2.faults (g.faults (box_value boxed.data2.area)) r2 e2 le rose }
  failed (Data (suc (suc (suc zero)))) le rose = record { number = 3; below = omega arith; is = refl; risen = more (starts 3) n3 (all_booked 3 passes) p3.faults (g.faults (box_value boxed.data3.area)) r3 e3 le rose }
  failed (Data (suc (suc (suc (suc n))))) le rose =
      absurd (omega (arith, rose, count_none (suc (suc (suc (suc n)))) (opened_of (on_heap g) s journal p0 p1 p2 p3).faults (omega arith), count_none (suc (suc (suc (suc n)))) (faults_of (on_heap g) boxed) (omega arith)))
  failed Sums le rose = absurd (omega (arith, rose))

  answered : (r : Result Lsn StoreFault) → ((which : StoreArea) → count_of which (opened_of (on_heap g) s journal p0 p1 p2 p3).faults ≤ count_of which (faults_of (on_heap g) boxed)) → EndAnswer (on_heap g) tells (opened_of (on_heap g) s journal p0 p1 p2 p3) boxed r → CloseAnswer g tells s journal.pen starts passes (off_heap boxed) r
  answered (Ok end) later is = (is.0, λ t. held (is.1 t))
  answered (Err (store.Failed which)) later cause = failed which (later which) cause
  answered (Err store.NoMemory) later cause = tt

  pub closed_shared : (r : Result Lsn StoreFault) → length passes ≡ workers → (tells → IsLawful s.segment journal.pen) → All (λ (p : Seen). IsPrefix p.list journal.pen) passes → All (CountsItsOwn journal.pen) passes
      → journal.wal.tail.flushed ≤ written_end journal → IsEnded (on_heap g) tells (opened_of (on_heap g) s journal p0 p1 p2 p3) boxed r → IsClosed g tells s found from starts passes (off_heap boxed) r
  closed_shared r many lawful seen counted within ended =
      let top : ℕ = end_of s.segment journal.pen in
      let ends : written_end journal ≡ top = ap (λ (n : ℕ). (tip_of n journal.pen).end) desk.wal.segment in
      record {
        history = journal.pen;
        runs = desk.grown;
        of_run = subst (λ (n : ℕ). All (IsOfRun n) desk.grown.own) (sym many) desk.of_run;
        lawful = lawful;
        seen = seen;
        counted = counted;
        wal = writes_on s.segment from.flushed top journal.wal.tail.flushed top from.files ((on_heap g).files journal.wal.area) ((on_heap g).files boxed.wal) desk.within (omega (arith, within, ends)) (omega arith)
            (subst (λ n. MayWriteWal s.segment from.flushed n from.files ((on_heap g).files journal.wal.area)) ends desk.since) ended.wal;
        risen = five (λ a. HasRisen (starts a) (all_booked a passes) (g.faults (area_at (off_heap boxed) a)))
            (up (starts 0) n0 (all_booked 0 passes) p0.faults (g.faults (box_value boxed.data0.area)) r0 e0 (ended.later (Data 0)))
            (up (starts 1) n1 (all_booked 1 passes) p1.faults (g.faults (box_value boxed.data1.area)) r1 e1 (ended.later (Data 1)))
            (up (starts 2) n2 (all_booked 2 passes) p2.faults (g.faults (box_value boxed.data2.area)) r2 e2 (ended.later (Data 2)))
            (up (starts 3) n3 (all_booked 3 passes) p3.faults (g.faults (box_value boxed.data3.area)) r3 e3 (ended.later (Data 3)))
            (up (starts 4) faults (all_booked 4 passes) ((on_heap g).faults journal.wal.area) (g.faults (box_value boxed.wal.area)) desk.risen all (ended.later Wal));
        answer = answered r ended.later ended.answer;
      }
