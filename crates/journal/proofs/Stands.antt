-- Where the entries of a lawful history stand: they are in order, and tidy from where the found ones end.
use Rattle.std.proofs.Common.{◌≡◌, ℕ, zero, suc, ◌+◌, ◌-◌, ◌<◌, ◌≤◌, cond, List, [], ◌∷◌, ◌++◌, map, length, Some, refl, sym, ap, subst, ◌∙◌, arith, true≢false, inl, inr, true}
use Rattle.std.specs.Prelude.{nat_lt, nat_le}
use Rattle.std.specs.List.{All, filter}
use Rattle.std.specs.FinMap.{empty}
use Rattle.std.proofs.lemmas.Bool.{lt-ltb, lt-leb, cases_lt}
use Rattle.std.proofs.lemmas.List.Elements.{filter-append, All-nil, All-cons, All-weaker}
use Rattle.lsn_core.specs.byte_words.Numbers.{aligned}
use Rattle.lsn_core.specs.Store.{Store}
use Rattle.lsn_core.specs.Segment.{segment_bytes}
use Rattle.lsn_core.specs.Tip.{Tip}
use Rattle.wal_pages.specs.Places.{place, flat_before, start_after, stop_of, end_of}
use Rattle.wal_pages.proofs.Splits.{flat_place, place_le, place_after}
use Rattle.wal_record.specs.Tips.{first_tip}
use Rattle.history.specs.Entry.{Entry, is_of_run}
use Rattle.history.specs.Apply.{apply_all}
use Rattle.history.specs.Whole.{entry_of}
use Rattle.history.specs.Written.{Before, behind, tip_past, tip_over}
use Rattle.history.specs.Laws.{IsFresh, AreWrittenInPlace}
use Rattle.history.proofs.Pushes.{all_first, all_rest}
use Rattle.history.specs.fuzzy_copies.Orderly.{IsOrderly, AreOwnFrom}
use Rattle.history.specs.fuzzy_copies.Covers.{AreTidy, AreTidyFrom}
use Rattle.history.specs.fuzzy_copies.Logged.{found_before}
use Rattle.history.specs.fuzzy_copies.Sound.{state_before, entries_before}
use Rattle.history.specs.fuzzy_copies.Taken.{since}
use Rattle.history.proofs.fuzzy_copies.View.{middle}
use Rattle.history.proofs.fuzzy_copies.Replay.{applied_in_two}
use Rattle.history.proofs.fuzzy_copies.Kept.{tidy_behind}
use Rattle.history.proofs.fuzzy_copies.Taken.{in_parts}
use Rattle.journal.specs.Lawful.{StandInPlace, IsLawful}
use Rattle.journal.specs.Laws.{LawfulIsOrderly, LawfulIsTidy, OwnIsTidy, OwnPlacesAreTidy}
use Rattle.wal_record.specs.declared.record.Record.{Record}

-- an entry starts behind the place behind which it comes, and ends past its start
without_segments : (e : ℕ) → e ≤ start_after 0 e
unfolding start_after place flat_before
without_segments e = omega arith

pub start_later : (mib e : ℕ) → e ≤ start_after mib e
unfolding start_after
start_later zero e = without_segments e
start_later (suc m) e = place_after (suc m) e (omega arith)

pub start_some : (mib e : ℕ) → 24 ≤ start_after mib e
unfolding start_after place
start_some mib e = omega arith

pub end_later : (mib e total : ℕ) → 1 ≤ mib → 0 < total → start_after mib e < end_of mib (start_after mib e) total
unfolding start_after stop_of
end_later mib e total some least =
    let f : ℕ = flat_before mib e in
    let same : flat_before mib (place mib f) ≡ f = flat_place mib f some in
    let le = place_le mib f (flat_before mib (place mib f) + aligned total - 1) some (omega (arith, same, least)) in
    omega (arith, le)

stand_orderly : (mib last from : ℕ) (es : List Entry) → from ≤ last → StandInPlace mib last es → All (λ e. IsFresh e.act) es → IsOrderly from es
stand_orderly mib last from [] le stands fresh = tt
stand_orderly mib last from (e ∷ es) le stands fresh =
    let later = start_later mib last in
    let start : e.start ≡ start_after mib last = stands.0 in (
      omega (arith, later, start, le),
      stands.1,
      all_first (λ (x : Entry). IsFresh x.act) e es fresh,
      stand_orderly mib e.end e.end es (omega arith) stands.2 (all_rest (λ (x : Entry). IsFresh x.act) e es fresh),
    )

pub lawful_orderly : LawfulIsOrderly
lawful_orderly mib history lawful = stand_orderly mib (segment_bytes mib) 0 history (omega arith) lawful.places lawful.fresh

-- one more entry
pub stand_push : (mib : ℕ) (tip : Tip) (es : List Entry) (e : Entry) → StandInPlace mib tip.end es → e.start ≡ start_after mib (tip_over tip es).end → e.start < e.end → StandInPlace mib tip.end (es ++ (e ∷ []))
stand_push mib tip [] e stands start later = (start, later, tt)
stand_push mib tip (f ∷ es) e stands start later = (stands.0, stands.1, stand_push mib (tip_past tip f) es e stands.2 start later)

-- entries behind others
pub stand_behind : (mib : ℕ) (tip : Tip) (es fs : List Entry) → StandInPlace mib tip.end (es ++ fs) → StandInPlace mib (tip_over tip es).end fs
stand_behind mib tip [] fs stands = stands
stand_behind mib tip (e ∷ es) fs stands = stand_behind mib (tip_past tip e) es fs stands.2

pub stand_front : (mib : ℕ) (tip : Tip) (es fs : List Entry) → StandInPlace mib tip.end (es ++ fs) → StandInPlace mib tip.end es
stand_front mib tip [] fs stands = tt
stand_front mib tip (e ∷ es) fs stands = (stands.0, stands.1, stand_front mib (tip_past tip e) es fs stands.2)

-- the last one ends behind where the first one comes
pub over_later : (mib : ℕ) (tip : Tip) (es : List Entry) → StandInPlace mib tip.end es → tip.end ≤ (tip_over tip es).end
over_later mib tip [] stands = omega arith
over_later mib tip (e ∷ es) stands =
    let rest : e.end ≤ (tip_over (tip_past tip e) es).end = over_later mib (tip_past tip e) es stands.2 in
    let start : e.start ≡ start_after mib tip.end = stands.0 in
    let long : e.start < e.end = stands.1 in
    omega (arith, start_later mib tip.end, rest, start, long)

-- the start of the last one is past 0
pub prev_some : (mib : ℕ) (tip : Tip) (es : List Entry) → StandInPlace mib tip.end es → 0 < length es → 0 < (tip_over tip es).prev
prev_some mib tip [] stands some = absurd (omega (arith, some))
prev_some mib tip (e ∷ []) stands some =
    let start : e.start ≡ start_after mib tip.end = stands.0 in
    omega (arith, start, start_some mib tip.end)
prev_some mib tip (e ∷ (f ∷ es)) stands some = prev_some mib (tip_past tip e) (f ∷ es) stands.2 (omega arith)

-- entries that all start below a place
abbrev pub Below : ℕ → List Entry → Type 0
Below from [] = Unit {0}
Below from (e ∷ es) = (e.start < from) × Below from es

below_kept : (from : ℕ) (es : List Entry) → Below from es → filter (λ e. nat_lt e.start from) es ≡ es
below_kept from [] below = refl
below_kept from (e ∷ es) below =
    ap (λ b. cond b (e ∷ filter (λ (x : Entry). nat_lt x.start from) es) (filter (λ (x : Entry). nat_lt x.start from) es)) (lt-ltb e.start from below.0) ∙ ap (λ (l : List Entry). e ∷ l) (below_kept from es below.1)

none_since : (from : ℕ) (es : List Entry) → Below from es → since from es ≡ []
none_since from [] below = refl
none_since from (e ∷ es) below = ap (λ b. cond b (e ∷ since from es) (since from es)) (lt-leb from e.start below.0) ∙ none_since from es below.1

-- so do those that end by it
ended_below : (mib : ℕ) (tip : Tip) (es : List Entry) (from : ℕ) → StandInPlace mib tip.end es → (tip_over tip es).end ≤ from → Below from es
ended_below mib tip [] from stands le = tt
ended_below mib tip (e ∷ es) from stands le =
    let long : e.start < e.end = stands.1 in
    let rest : e.end ≤ (tip_over (tip_past tip e) es).end = over_later mib (tip_past tip e) es stands.2 in
    (omega (arith, long, rest, le), ended_below mib (tip_past tip e) es from stands.2 le)

-- and entries that were found, where the entries from there on are a run's own
found_below : (from : ℕ) (rs : List Record) (own : List Entry) → AreOwnFrom from (map entry_of rs ++ own) → Below from (map entry_of rs)
found_below from [] own ours = tt
found_below from (r ∷ rs) own ours =
    let P : Entry → Type 0 = λ e. from ≤ e.start → is_of_run e ≡ true in
    let here : r.start.0 < from =
    elim (cases_lt r.start.0 from) [
      | inl lt ↦ lt
      | inr ge ↦ absurd (true≢false (sym (all_first P (entry_of r) (map entry_of rs ++ own) ours ge)))
    ] in
    (here, found_below from rs own (all_rest P (entry_of r) (map entry_of rs ++ own) ours))

pub own_later : (from later : ℕ) (es : List Entry) → from ≤ later → AreOwnFrom from es → AreOwnFrom later es
own_later from later es le own = All-weaker (λ (e : Entry). from ≤ e.start → is_of_run e ≡ true) (λ (e : Entry). later ≤ e.start → is_of_run e ≡ true) (λ e ours ge. ours (omega (arith, le, ge))) es own

orderly_behind : (last : ℕ) (es fs : List Entry) → IsOrderly last (es ++ fs) → (at : ℕ) × IsOrderly at fs
orderly_behind last [] fs r = (last, r)
orderly_behind last (e ∷ es) fs r = orderly_behind e.end es fs r.3

-- entries that are tidy behind others are so from a place on by which these end
tidy_since : (front own : List Entry) (from last : ℕ) (base : Store) → IsOrderly last own → entries_before front from ≡ front → since from front ≡ []
    → ((first : Store) → apply_all empty front ≡ Some first → AreTidy first own) → state_before (front ++ own) from ≡ Some base → AreTidy base (since from (front ++ own))
tidy_since front own from last base orderly all none tidy made =
    let early : List Entry = entries_before own from in
    let late : List Entry = since from own in
    let before : entries_before (front ++ own) from ≡ front ++ early = filter-append (λ (e : Entry). nat_lt e.start from) front own ∙ ap (λ (l : List Entry). l ++ early) all in
    let after : since from (front ++ own) ≡ late = filter-append (λ (e : Entry). nat_le from e.start) front own ∙ ap (λ (l : List Entry). l ++ late) none in
    let whole : apply_all empty (front ++ early) ≡ Some base = sym (ap (apply_all empty) before) ∙ made in
    subst (AreTidy base) (sym after)
    (middle (apply_all empty front) (λ s. apply_all s early) base (sym (applied_in_two empty front early) ∙ whole) (λ first one rest.
    tidy_behind first base early late (subst (AreTidy first) (in_parts from last own orderly) (tidy first one)) rest))

tidy_from : (mib from : ℕ) (history : List Entry) → (lawful : IsLawful mib history) → Below from (map entry_of lawful.found) → AreTidyFrom from history
tidy_from mib from history lawful below base made =
    let front : List Entry = map entry_of lawful.found in
    let own : List Entry = lawful.own in
    let orderly = orderly_behind 0 front own (subst (IsOrderly 0) lawful.grown (lawful_orderly mib history lawful)) in
    subst (λ h. AreTidy base (since from h)) (sym lawful.grown)
    (tidy_since front own from orderly.0 base orderly.1 (below_kept from front below) (none_since from front below) lawful.tidy (ap (λ h. state_before h from) (sym lawful.grown) ∙ made))

pub lawful_tidy : LawfulIsTidy
lawful_tidy mib from history lawful le =
    let front : List Entry = map entry_of lawful.found in
    let stands : StandInPlace mib (segment_bytes mib) front = stand_front mib (first_tip mib) front lawful.own (subst (StandInPlace mib (segment_bytes mib)) lawful.grown lawful.places) in
    tidy_from mib from history lawful (ended_below mib (first_tip mib) front from stands le)

cons_head : {x y : Entry} {xs ys : List Entry} → x ∷ xs ≡ y ∷ ys → x ≡ y
cons_head e = cc

cons_tail : {x y : Entry} {xs ys : List Entry} → x ∷ xs ≡ y ∷ ys → xs ≡ ys
cons_tail e = cc

-- entries behind a place start at it or past it
starts_later : (mib last : ℕ) (front behind : List Entry) (e : Entry) → StandInPlace mib last (front ++ (e ∷ behind)) → last ≤ e.start
starts_later mib last [] behind e stands = (let start : e.start ≡ start_after mib last = stands.0 in omega (arith, start_later mib last, start))
starts_later mib last (f ∷ front) behind e stands =
    let start : f.start ≡ start_after mib last = stands.0 in
    let long : f.start < f.end = stands.1 in
    omega (arith, start_later mib last, start, long, starts_later mib f.end front behind e stands.2)

-- entries that are written in their places are this run's own
all_own : (mib : ℕ) (before : Before) (own : List Entry) → AreWrittenInPlace mib before own → All (λ e. is_of_run e ≡ true) own
all_own mib before [] placed = All-nil (λ (e : Entry). is_of_run e ≡ true)
all_own mib before (e ∷ own) placed = All-cons (λ (x : Entry). is_of_run x ≡ true) e own placed.0 (all_own mib (behind before e) own placed.1.1.1.1)

read_is_none : (r : Record) (e : Entry) → entry_of r ≡ e → is_of_run e ≡ true → ⊥
read_is_none r e same own = true≢false (sym own ∙ sym (ap is_of_run same))

from_own : (mib last : ℕ) (found : List Record) (own front behind : List Entry) (e : Entry) → All (λ x. is_of_run x ≡ true) own → StandInPlace mib last (map entry_of found ++ own) → map entry_of found ++ own ≡ front ++ (e ∷ behind) → is_of_run e ≡ true
    → AreOwnFrom e.start (map entry_of found ++ own)
from_own mib last [] own front behind e ours stands split is = All-weaker (λ (x : Entry). is_of_run x ≡ true) (λ (x : Entry). e.start ≤ x.start → is_of_run x ≡ true) (λ x here ge. here) own ours
from_own mib last (r ∷ rs) own [] behind e ours stands split is = absurd (read_is_none r e (cons_head split) is)
from_own mib last (r ∷ rs) own (f ∷ front) behind e ours stands split is =
    let long : r.start.0 < r.end.0 = stands.1 in
    let later = starts_later mib r.end.0 front behind e (subst (StandInPlace mib r.end.0) (cons_tail split) stands.2) in
    All-cons (λ (x : Entry). e.start ≤ x.start → is_of_run x ≡ true) (entry_of r) (map entry_of rs ++ own) (λ ge. absurd (omega (arith, long, later, ge)))
    (from_own mib r.end.0 rs own front behind e ours stands.2 (cons_tail split) is)

pub own_is_tidy : OwnIsTidy
own_is_tidy mib from history lawful own = tidy_from mib from history lawful (found_below from lawful.found lawful.own (subst (AreOwnFrom from) lawful.grown own))

pub own_places : OwnPlacesAreTidy
own_places mib history front behind e lawful split is =
    let own : AreOwnFrom e.start history =
    subst (AreOwnFrom e.start) (sym lawful.grown)
    (from_own mib (segment_bytes mib) lawful.found lawful.own front behind e (all_own mib (found_before mib lawful.found) lawful.own lawful.logged.written) (subst (StandInPlace mib (segment_bytes mib)) lawful.grown lawful.places) (sym lawful.grown ∙ split) is) in
    (own, own_is_tidy mib e.start history lawful own)
