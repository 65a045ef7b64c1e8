-- What was read of a history stays as the history goes on.
use Rattle.std.proofs.Common.{◌≡◌, ℕ, ◌≤◌, Bool, true, false, cond, ◌&&◌, ◌==◌, List, [], ◌∷◌, ◌++◌, map, Option, Some, None, refl, sym, ap, subst, ◌∙◌, arith, append_assoc}
use Rattle.std.specs.Prelude.{nat_le, nat_lt}
use Rattle.std.specs.List.{list_any}
use Rattle.std.proofs.lemmas.Bool.{eqb-true}
use Rattle.std.proofs.lemmas.List.{append-nil}
use Rattle.std.proofs.lemmas.List.Elements.{filter-append}
use mathlib.Core.List.{IsPrefix}
use Rattle.history.specs.Entry.{Entry}
use Rattle.history.specs.Written.{is_redo}
use Rattle.history.specs.fuzzy_copies.Orderly.{IsOrderly}
use Rattle.history.specs.fuzzy_copies.Sound.{is_in, window}
use Rattle.history.specs.fuzzy_copies.Summary.{BlockRefTable, table_of, summed, both_summed, summary_of}
use Rattle.wal_summary.proofs.Tables.{regrouped}
use Rattle.wal_summary.specs.declared.summary.Summary.{Summary}
use Rattle.wal_summary.specs.Summary.{IsSummary}
use Rattle.store_locks.specs.Records.{is_place_of, IsPlaceOf}
use Rattle.shared_summaries.specs.summary_publish.Entries.{first_start, next_redo}
use Rattle.shared_summaries.specs.summary_publish.Published.{IsNext, AreNext}
use Rattle.shared_summaries.specs.summary_publish.Inside.{CanStart, from_place}
use Rattle.shared_summaries.proofs.summary_publish.Ranges.{IsReadTo, stop, stop_later, orderly_front, orderly_behind, none_past, all_from, redo_first, said_append, any_left}
use Rattle.shared_summaries.proofs.summary_publish.Fitting.{one_of}
use Rattle.shared_summaries.proofs.summary_publish.Honest.{next_starts, redo_below}

pub prefix_trans : {A : Type 0} (xs ys zs : List A) → IsPrefix xs ys → IsPrefix ys zs → IsPrefix xs zs
prefix_trans xs ys zs p q = (p.0 ++ q.0, sym (append_assoc xs p.0 q.0) ∙ (ap (λ w. w ++ q.0) p.1 ∙ q.1))

pub place_stays : (place : ℕ) (old new : List Entry) → IsPlaceOf old place → IsPrefix old new → IsPlaceOf new place
place_stays place old new is prefix = subst (λ l. IsPlaceOf l place) prefix.1 (any_left (is_place_of place) old prefix.0 is)

pub prefix_self : {A : Type 0} (xs : List A) → IsPrefix xs xs
prefix_self xs = ([], append-nil xs)

first_more : (x : ℕ) (h more : List Entry) → IsPlaceOf h x → first_start (h ++ more) ≡ first_start h
first_more x [] more is = absurd cc
first_more x (e ∷ es) more is = refl

pub first_later : (x : ℕ) (h g : List Entry) → IsPrefix h g → IsPlaceOf h x → first_start g ≡ first_start h
first_later x h g prefix is = sym (ap first_start prefix.1) ∙ first_more x h prefix.0 is

-- a place of entries isn't past their end
place_below : (low place : ℕ) (h : List Entry) → IsOrderly low h → IsPlaceOf h place → place ≤ stop low h
place_below low place [] o is = absurd cc
place_below low place (e ∷ es) o is =
    let up = o.1 in
    let later = stop_later e.end es o.3 in
    one_of (place ≤ stop low (e ∷ es)) (is_place_of place e) (list_any (is_place_of place) es)
    (λ here. one_of (place ≤ stop low (e ∷ es)) (e.start == place) (e.end == place)
    (λ k. let same = eqb-true e.start place k in omega (arith, same, up, later))
    (λ k. let same = eqb-true e.end place k in omega (arith, same, later)) here)
    (λ behind. place_below e.end place es o.3 behind) is

-- what entries say in a range that ends before more of them
said_on : (h more : List Entry) (from to : ℕ) → IsOrderly 0 (h ++ more) → to ≤ stop 0 h → summary_of (h ++ more) from to ≡ summary_of h from to
said_on h more from to order le =
    ap (λ (l : List Entry). summed (map table_of l))
    (filter-append (is_in from to) h more ∙ ap (λ (l : List Entry). window h from to ++ l) (none_past from to (stop 0 h) more le (orderly_behind 0 h more order)) ∙ append-nil (window h from to))

next_more : (h more : List Entry) (made place : ℕ) (sum : Summary) → IsOrderly 0 (h ++ more) → IsNext h made place sum → IsNext (h ++ more) made place sum
next_more h more made place sum order next =
    let below = (redo_below 0 sum.end.0 h (orderly_front 0 h more order) (next_starts place sum.end.0 h next.ends)).1 in
    record {
      starts = next.starts;
      ends = redo_first place sum.end.0 h more next.ends;
      at = next.at;
      says = subst (λ (t : BlockRefTable). IsSummary t sum.forks) (sym (said_on h more place sum.end.0 order (omega (arith, below)))) next.says;
    }

pub next_on : (h g : List Entry) (made place : ℕ) (sum : Summary) → IsPrefix h g → IsOrderly 0 g → IsNext h made place sum → IsNext g made place sum
next_on h g made place sum prefix order next =
    subst (λ (l : List Entry). IsNext l made place sum) prefix.1 (next_more h prefix.0 made place sum (subst (IsOrderly 0) (sym prefix.1) order) next)

pub are_next_on : (h g : List Entry) (made place : ℕ) (sums : List Summary) → IsPrefix h g → IsOrderly 0 g → AreNext h made place sums → AreNext g made place sums
are_next_on h g made place [] prefix order next = tt
are_next_on h g made place (s ∷ ss) prefix order next = (next_on h g made place s prefix order next.0, are_next_on h g made s.end.0 ss prefix order next.1)

start_more : (h more : List Entry) (from at : ℕ) → IsOrderly 0 (h ++ more) → CanStart h from at → CanStart (h ++ more) from at
start_more h more from at order start =
    let below = place_below 0 at h (orderly_front 0 h more order) start.place in
    record {
      place = any_left (is_place_of at) h more start.place;
      between = filter-append (is_in from at) h more
          ∙ ap (λ (l : List Entry). l ++ window more from at) start.between
          ∙ none_past from at (stop 0 h) more (omega (arith, below)) (orderly_behind 0 h more order);
    }

pub start_on : (h g : List Entry) (from at : ℕ) → IsPrefix h g → IsOrderly 0 g → CanStart h from at → CanStart g from at
start_on h g from at prefix order start = subst (λ (l : List Entry). CanStart l from at) prefix.1 (start_more h prefix.0 from at (subst (IsOrderly 0) (sym prefix.1) order) start)

abbrev or_next : Option ℕ → Option ℕ → Option ℕ
or_next None b = b
or_next (Some a) b = Some a

redo_or : (from : ℕ) (xs ys : List Entry) → next_redo from (xs ++ ys) ≡ or_next (next_redo from xs) (next_redo from ys)
redo_or from [] ys = refl
redo_or from (x ∷ xs) ys = first (is_redo x.act && nat_lt from x.start) x.start (next_redo from xs) (next_redo from (xs ++ ys)) (next_redo from ys) (redo_or from xs ys)
  where
    first : (t : Bool) (s : ℕ) (a b c : Option ℕ) → b ≡ or_next a c → cond t (Some s) b ≡ or_next (cond t (Some s) a) c
    first true s a b c e = refl
    first false s a b c e = e

read_more : (h more : List Entry) (from at : ℕ) (table : BlockRefTable) → IsOrderly 0 (h ++ more) → IsPlaceOf h at → IsReadTo h from at table → IsReadTo (h ++ more) from at table
read_more h more from at table order place r =
    let below = place_below 0 at h (orderly_front 0 h more order) place in
    let rest : from_place at more ≡ more = all_from (stop 0 h) at more (orderly_behind 0 h more order) below in
    let split : from_place at (h ++ more) ≡ from_place at h ++ more = filter-append (λ e. nat_le at e.start) h more ∙ ap (λ (l : List Entry). from_place at h ++ l) rest in
    record {
      marked = λ to le.
          said_append h more from to
          ∙ ap (λ (t : BlockRefTable). both_summed t (summary_of more from to)) (r.marked to le)
          ∙ regrouped table (summary_of (from_place at h) from to) (summary_of more from to)
          ∙ ap (both_summed table) (sym (said_append (from_place at h) more from to))
          ∙ sym (ap (λ (l : List Entry). both_summed table (summary_of l from to)) split);
      redo = ap (next_redo from) split ∙ redo_or from (from_place at h) more ∙ ap (λ (o : Option ℕ). or_next o (next_redo from more)) r.redo ∙ sym (redo_or from h more);
    }

pub read_later : (h g : List Entry) (from at : ℕ) (table : BlockRefTable) → IsPrefix h g → IsOrderly 0 g → IsPlaceOf h at → IsReadTo h from at table → IsReadTo g from at table
read_later h g from at table prefix order place r =
    subst (λ (l : List Entry). IsReadTo l from at table) prefix.1 (read_more h prefix.0 from at table (subst (IsOrderly 0) (sym prefix.1) order) place r)
