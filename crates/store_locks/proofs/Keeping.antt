-- What the values under the locks of an open store keep.
use Rattle.std.proofs.Common.{◌≡◌, ℕ, zero, suc, ◌+◌, ◌<◌, ◌≤◌, true, List, [], ◌∷◌, ◌++◌, length, Result, Ok, Err, IfOk, OnErr, refl, sym, ap, subst, ◌∙◌, arith, length-append}
use Rattle.std.proofs.lemmas.List.Elements.{All-append, All-weaker, All-nil, All-cons}
use mathlib.Core.List.{IsPrefix}
use Rattle.timeline.proofs.Prefixes.{prefix_length, prefix_trans}
use Rattle.lsn_core.specs.Causes.{Rose, HasCause}
use Rattle.lsn_core.specs.declared.fault.AreaFault.{AreaFault}
use Rattle.lsn_core.specs.declared.fault.AreaFault.TheVariants as area
use Rattle.lsn_core.specs.declared.fault.StoreArea.{StoreArea}
use Rattle.lsn_core.specs.declared.fault.StoreFault.{StoreFault}
use Rattle.lsn_core.specs.Segment.{StoreSettings}
use Rattle.lsn_core.specs.Tip.{Tip, tip_with}
use Rattle.wal_record.specs.Tips.{first_tip, wal_limit}
use Rattle.wal_writer.specs.Log.{Log, IsLog}
use Rattle.history.specs.Entry.{Entry, Marking, RedoMark, is_of_run}
use Rattle.history.specs.Written.{tip_past, tip_over, tip_of}
use Rattle.history.proofs.Pushes.{all_first, all_rest}
use Rattle.history.specs.partitions.Parts.{concerns}
use Rattle.history.specs.fuzzy_copies.Orderly.{AllEndBy}
use Rattle.journal.specs.Journal.{EndsWith}
use Rattle.journal.specs.Lawful.{IsLawful}
use Rattle.page_pool.specs.Part.{Part}
use Rattle.page_pool.specs.Facts.{history_end}
use Rattle.page_pool.proofs.Followed.{others_followed}
use Rattle.store_ledgers.specs.Counts.{Counts, Held, count_at, counted}
use Rattle.page_pool.specs.Facts.{IsPartOf}
use Rattle.store_locks.specs.Locked.{RunsOn, IsHeldPart, HasRisen, own_count, Standing, Follows, GoesOn, failures}
use Rattle.store_locks.specs.Inside.{fault_of, AreaCause, HasMark}
use Rattle.store_locks.specs.Calls.{IsPlaced}
use Rattle.store_locks.proofs.Kept.{history_ends}
use Rattle.lsn_core.specs.declared.lsn.Place.{Place}
use Rattle.lsn_core.specs.declared.fault.StoreArea.TheVariants.{Wal}
use Rattle.lsn_core.specs.declared.fault.StoreFault.TheVariants as store
use Rattle.store_locks.proofs.Growths.{rest_is_own, none_between}

-- ---- where beginnings of a history end

over_within : (tip : Tip) (es : List Entry) (place : ℕ) → tip.end ≤ place → AllEndBy place es → (tip_over tip es).end ≤ place
over_within tip [] place le all = le
over_within tip (e ∷ es) place le all = over_within (tip_past tip e) es place (all_first (λ (x : Entry). x.end ≤ place) e es all) (all_rest (λ (x : Entry). x.end ≤ place) e es all)

over_same : (a b : Tip) (es : List Entry) → a.end ≡ b.end → (tip_over a es).end ≡ (tip_over b es).end
over_same a b [] e = e
over_same a b (x ∷ es) e = over_same (tip_past a x) (tip_past b x) es refl

some_ends : (mib : ℕ) (es : List Entry) → 0 < length es → (tip_over (first_tip mib) es).end ≡ history_end es
some_ends mib [] some = absurd (omega (arith, some))
some_ends mib (e ∷ es) some = over_same (tip_past (first_tip mib) e) (tip_past (tip_with 0 0 0 0) e) es refl

all_front : (place : ℕ) (xs ys : List Entry) → AllEndBy place (xs ++ ys) → AllEndBy place xs
all_front place [] ys all = All-nil (λ (e : Entry). e.end ≤ place)
all_front place (x ∷ xs) ys all = All-cons (λ (e : Entry). e.end ≤ place) x xs (all_first (λ (e : Entry). e.end ≤ place) x (xs ++ ys) all) (all_front place xs ys (all_rest (λ (e : Entry). e.end ≤ place) x (xs ++ ys) all))

pub ends_later : (log : Log) (xs pen : List Entry) → EndsWith log pen → IsPrefix xs pen → history_end xs ≤ history_end pen
ends_later log [] pen ends p = omega arith
ends_later log (x ∷ xs) pen ends p =
    let within : AllEndBy log.tip.end (x ∷ xs) = all_front log.tip.end (x ∷ xs) p.0 (subst (λ l. AllEndBy log.tip.end l) (sym p.1) ends.within) in
    let some : 0 < length pen = omega (arith, prefix_length (x ∷ xs) pen p) in
    omega (arith, over_within (tip_with 0 0 0 0) (x ∷ xs) log.tip.end (omega arith) within, ends.end, some_ends log.mib pen some)

pub end_at : (mib : ℕ) (history : List Entry) → 0 < length history → (tip_of mib history).end ≤ history_end history
end_at mib history some = omega (arith, some_ends mib history some)

-- a worker that meets the history
pub follows_to : (log : Log) (pen : List Entry) (old new : Standing) → EndsWith log pen → IsPrefix old.list pen → new.list ≡ pen → new.worker ≡ old.worker → new.accepted ≡ old.accepted → new.marks ≡ old.marks → Follows old new
follows_to log pen old new ends p whole worker accepted marks = record {
  seen = subst (λ l. IsPrefix old.list l) (sym whole) p;
  ends = subst (λ l. history_end old.list ≤ history_end l) (sym whole) (ends_later log old.list pen ends p);
  worker = worker;
  accepted = accepted;
  marks = marks;
}

-- a worker that met the history, and saw its mark behind it
pub marked_on : (marking : Marking) (place : Place) (old met booked new : Standing) (before history : List Entry) (worker : ℕ) → Follows old met → met.list ≡ before → HasMark worker marking before history place → booked.list ≡ history → booked.worker ≡ met.worker → booked.accepted ≡ met.accepted → Follows booked new → GoesOn old new
marked_on marking place old met booked new before history worker one whole is seen same count two = record {
  seen = prefix_trans old.list booked.list new.list (subst (λ l. IsPrefix old.list l) (sym seen) (prefix_trans old.list before history (subst (λ l. IsPrefix old.list l) whole one.seen) (is.entry ∷ [], sym is.grown))) two.seen;
  ends = omega (arith, one.ends, ap history_end whole, is.late, history_ends before is.entry, ap history_end is.grown, ap history_end seen, two.ends);
  worker = two.worker ∙ (same ∙ one.worker);
  accepted = two.accepted ∙ (count ∙ one.accepted);
}

-- the start of a checkpoint, whatever is answered
pub started_on : {E : Type 0} (r : Result Place E) (old met booked new : Standing) (before history : List Entry) (worker : ℕ) → Follows old met → met.list ≡ before → IfOk r (HasMark worker (RedoMark 1) before history) → OnErr r (history ≡ before) → booked.list ≡ history → booked.worker ≡ met.worker → booked.accepted ≡ met.accepted → Follows booked new → GoesOn old new
started_on (Ok place) old met booked new before history worker one whole is none seen same count two = marked_on (RedoMark 1) place old met booked new before history worker one whole is seen same count two
started_on {E} (Err e) old met booked new before history worker one whole is none seen same count two = record {
  seen = prefix_trans old.list booked.list new.list (subst (λ l. IsPrefix old.list l) (whole ∙ (sym none ∙ sym seen)) one.seen) two.seen;
  ends = omega (arith, one.ends, ap history_end (whole ∙ (sym none ∙ sym seen)), two.ends);
  worker = two.worker ∙ (same ∙ one.worker);
  accepted = two.accepted ∙ (count ∙ one.accepted);
}

-- behind a call that lets it see no more
pub goes_still : (old mid new : Standing) → GoesOn old mid → new.list ≡ mid.list → new.worker ≡ mid.worker → new.accepted ≡ mid.accepted → GoesOn old new
goes_still old mid new on list worker accepted = record {
  seen = subst (λ l. IsPrefix old.list l) (sym list) on.seen;
  ends = omega (arith, on.ends, ap history_end list);
  worker = worker ∙ on.worker;
  accepted = accepted ∙ on.accepted;
}

-- the last mark of a history ends where that does, in the room of the WAL
pub mark_placed : (log : Log) (mib worker : ℕ) (marking : Marking) (before pen : List Entry) (place : Place) → IsLog log → EndsWith log pen → log.mib ≡ mib → HasMark worker marking before pen place → IsPlaced mib pen place.end.0
mark_placed log mib worker marking before pen place is ends same mark =
    let some : 0 < length pen = omega (arith, ap (λ (l : List Entry). length l) mark.grown, length-append before (mark.entry ∷ [])) in
    let at : place.end.0 ≡ log.tip.end = mark.end ∙ (sym (history_ends before mark.entry) ∙ (sym (ap history_end mark.grown) ∙ (sym (some_ends log.mib pen some) ∙ ends.end))) in
    record {
      last = subst (λ (n : ℕ). AllEndBy n pen) (sym at) ends.within;
      room = omega (arith, at, is.within.most, ap wal_limit same);
    }

-- ---- a partition that is brought up to date

pub caught_up : (q start : ℕ) (settings : StoreSettings) (tells : Type 0) (found list pen : List Entry) (part : Part) (share : Held) (faults : ℕ) → IsHeldPart q settings tells found start part list share faults → IsPrefix list pen → RunsOn found pen
    → history_end list ≤ history_end pen → (tells → IsLawful settings.segment pen) → count_at q share.amounts ≡ own_count q found pen → IsHeldPart q settings tells found start part pen share faults
caught_up q start settings tells found list pen part share faults h p runs later lawful same =
    let own = rest_is_own found list pen p h.grown runs in
    let none = none_between (concerns q) found list pen p h.grown runs (sym h.counted ∙ same) in
    let front = h.is in
    record {
      is = subst (λ l. IsPartOf q settings.relseg tells l part) p.1
          (record {
            follows = others_followed q list p.0 part (subst (λ l. history_end list ≤ history_end l) (sym p.1) later) none front.follows;
            relseg_is = front.relseg_is;
            own = λ t. All-append (λ (x : Entry). part.point ≤ x.start → is_of_run x ≡ true) list p.0 (front.own t) (All-weaker (λ (x : Entry). is_of_run x ≡ true) (λ (x : Entry). part.point ≤ x.start → is_of_run x ≡ true) (λ x is ge. is) p.0 own);
            told = front.told;
            alone = front.alone;
          });
      lawful = lawful;
      grown = runs;
      whole = h.whole;
      counted = same;
      risen = h.risen;
    }

-- ---- counts

pub four : (P : ℕ → Type 0) → P 0 → P 1 → P 2 → P 3 → (q : ℕ) → q < 4 → P q
four P a b c d zero lt = a
four P a b c d (suc zero) lt = b
four P a b c d (suc (suc zero)) lt = c
four P a b c d (suc (suc (suc zero))) lt = d
four P a b c d (suc (suc (suc (suc n)))) lt = absurd (omega (arith, lt))

pub counted_here : (c : Counts) (q : ℕ) → q < 4 → count_at q (counted q c) ≡ count_at q c + 1
counted_here c q lt = four (λ q. count_at q (counted q c) ≡ count_at q c + 1) refl refl refl refl q lt

pub counted_there : (c : Counts) (q p : ℕ) → q < 4 → p < 4 → (p ≡ q → ⊥) → count_at p (counted q c) ≡ count_at p c
counted_there c q p lt less apart =
    four (λ q. (p ≡ q → ⊥) → count_at p (counted q c) ≡ count_at p c)
    (four (λ p. (p ≡ 0 → ⊥) → count_at p (counted 0 c) ≡ count_at p c) (λ no. absurd (no refl)) (λ no. refl) (λ no. refl) (λ no. refl) p less)
    (four (λ p. (p ≡ 1 → ⊥) → count_at p (counted 1 c) ≡ count_at p c) (λ no. refl) (λ no. absurd (no refl)) (λ no. refl) (λ no. refl) p less)
    (four (λ p. (p ≡ 2 → ⊥) → count_at p (counted 2 c) ≡ count_at p c) (λ no. refl) (λ no. refl) (λ no. absurd (no refl)) (λ no. refl) p less)
    (four (λ p. (p ≡ 3 → ⊥) → count_at p (counted 3 c) ≡ count_at p c) (λ no. refl) (λ no. refl) (λ no. refl) (λ no. absurd (no refl)) p less)
    q lt apart

-- ---- faults

pub risen_stays : (start booked before now : ℕ) → HasRisen start booked before → before ≤ now → HasRisen start booked now
risen_stays start booked before now h le = (omega (arith, h.0, le), omega (arith, h.1, le))

pub risen_more : (start booked before now : ℕ) → HasRisen start booked before → before ≤ now → Rose before now → HasRisen start (booked + 1) now
risen_more start booked before now h le rose = (omega (arith, h.0, le), omega (arith, h.1, rose))

-- a fault of an area that is booked, where the area failed
pub risen_booked : (which : StoreArea) (fault : AreaFault) (f : StoreFault) (start booked now_booked before now : ℕ) → f ≡ fault_of which fault → now_booked ≡ booked + failures f → HasRisen start booked before → before ≤ now → (fault ≡ area.Failed → Rose before now) → HasRisen start now_booked now
risen_booked which area.Failed f start booked now_booked before now is more h le rose =
    subst (λ n. HasRisen start n now) (sym (more ∙ ap (λ (x : StoreFault). booked + failures x) is)) (risen_more start booked before now h le (rose refl))
risen_booked which area.NoMemory f start booked now_booked before now is more h le rose =
    let same : now_booked ≡ booked = more ∙ (ap (λ (x : StoreFault). booked + failures x) is ∙ omega arith) in
    subst (λ n. HasRisen start n now) (sym same) (risen_stays start booked before now h le)

ok_same : {T : Type 0} (r : Result T AreaFault) (fault : AreaFault) → r ≡ Err fault → fault ≡ area.Failed → r ≡ Err area.Failed
ok_same r fault is same = is ∙ ap (λ (f : AreaFault). Err f) same

pub rose_of : {T : Type 0} (before now : ℕ) (r : Result T AreaFault) (fault : AreaFault) → HasCause before now r → r ≡ Err fault → fault ≡ area.Failed → Rose before now
rose_of before now r fault cause is same = cause.failed (ok_same r fault is same)

-- ---- a held partition, behind calls on its area

pub held_with : (q start : ℕ) (settings : StoreSettings) (tells : Type 0) (found list : List Entry) (old new : Part) (share : Held) (faults faults_now : ℕ) → IsHeldPart q settings tells found start old list share faults → IsPartOf q settings.relseg tells list new → HasRisen start faults_now new.faults
    → IsHeldPart q settings tells found start new list share faults_now
held_with q start settings tells found list old new share faults faults_now h is risen = record {
  is = is;
  lawful = h.lawful;
  grown = h.grown;
  whole = h.whole;
  counted = h.counted;
  risen = risen;
}

-- what a failed call of the WAL books
pub wal_counted : (f : StoreFault) (start booked now_booked before now : ℕ) → AreaCause Wal before now f → now_booked ≡ booked + failures f → HasRisen start booked before → before ≤ now → HasRisen start now_booked now
wal_counted (store.Failed which) start booked now_booked before now cause more h le = subst (λ n. HasRisen start n now) (sym more) (risen_more start booked before now h le cause.1)
wal_counted store.NoMemory start booked now_booked before now cause more h le =
    (let same : now_booked ≡ booked = more ∙ omega arith in subst (λ n. HasRisen start n now) (sym same) (risen_stays start booked before now h le))
