-- Entries that are read up to a redo point.
use Rattle.std.proofs.Common.{◌≡◌, ◌⊎◌, inl, inr, ℕ, zero, suc, ◌-◌, ◌^◌, ◌<◌, ◌≤◌, Bool, true, false, cond, ◌&&◌, ◌||◌, ◌==◌, List, [], ◌∷◌, ◌++◌, map, length, take, drop, get_or, Option, Some, None, option_map, refl, sym, ap, subst, ◌∙◌, arith, true≢false}
use Rattle.std.specs.Prelude.{nat_le, nat_lt}
use Rattle.std.specs.List.{filter, list_any}
use Rattle.std.proofs.lemmas.Bool.{leb-true, leb-false, le-leb, lt-leb, le-ltb, lt-ltb, ltb-true, eqb-true, eq-eqb}
use Rattle.std.proofs.lemmas.List.{take-append-drop, map-append}
use Rattle.std.proofs.lemmas.List.Elements.{filter-append}
use Rattle.lsn_core.specs.declared.lsn.Lsn.{Lsn}
use Rattle.wal_record.specs.declared.record.Record.{Record}
use Rattle.history.specs.Entry.{Entry}
use Rattle.history.specs.Whole.{says, entry_of}
use Rattle.history.specs.Written.{is_redo}
use Rattle.history.specs.fuzzy_copies.Orderly.{IsOrderly}
use Rattle.history.specs.fuzzy_copies.Sound.{is_in, window}
use Rattle.history.specs.fuzzy_copies.Summary.{BlockRefTable, table_of, summed, both_summed, summary_of}
use Rattle.wal_summary.proofs.Tables.{before_none, regrouped, lists_summed}
use mathlib.Core.List.{IsPrefix}
use Rattle.store_locks.proofs.Pieces.{places_stay}
use Rattle.store_locks.specs.Records.{is_place_of, IsPlaceOf}
use Rattle.shared_summaries.specs.summary_publish.Entries.{first_start, next_redo}
use Rattle.shared_summaries.specs.summary_publish.Inside.{from_place, AreRecordsOf, RiseBehind}
use Rattle.wal_summary.specs.declared.summary.Summary.{Summary}
use Rattle.shared_summaries.specs.summary_publish.Published.{IsNext}
use Rattle.shared_summaries.specs.summary_publish.Inside.{CanStart, StartsBy, last_end, place_or}

-- ---- records

last_at : (rs : List Record) (low n : ℕ) (r : Record) → length rs ≡ suc n → r ≡ get_or rs n r → r.end.0 ≡ last_end low rs
last_at [] low n r len is = absurd (omega (arith, len))
last_at (t ∷ []) low zero r len is = ap (λ (x : Record). x.end.0) is
last_at (t ∷ []) low (suc n) r len is = absurd (omega (arith, len))
last_at (t ∷ (u ∷ us)) low zero r len is = absurd (omega (arith, len))
last_at (t ∷ (u ∷ us)) low (suc n) r len is = last_at (u ∷ us) t.end.0 n r (omega (arith, len)) is

pub last_is : (rs : List Record) (low : ℕ) (r : Record) → 0 < length rs → r ≡ get_or rs (length rs - 1) r → r.end.0 ≡ last_end low rs
last_is rs low r some is = last_at rs low (length rs - 1) r (omega (arith, some)) is

pub redo_here : (test : Bool) (from : ℕ) (r : Record) (rs : List Record) → test ≡ (is_redo (says r) && nat_lt from r.start.0) → test ≡ true → Some r.start.0 ≡ next_redo from (map entry_of (r ∷ rs))
redo_here test from r rs e y = ap (λ (t : Bool). cond t (Some r.start.0) (next_redo from (map entry_of rs))) (sym y ∙ e)

pub redo_on : (test : Bool) (from : ℕ) (r : Record) (rs : List Record) → test ≡ (is_redo (says r) && nat_lt from r.start.0) → test ≡ false → next_redo from (map entry_of (r ∷ rs)) ≡ next_redo from (map entry_of rs)
redo_on test from r rs e n = ap (λ (t : Bool). cond t (Some r.start.0) (next_redo from (map entry_of rs))) (sym e ∙ n)

-- ---- records and their entries say the same

tables_alike : (rs : List Record) (es : List Entry) (from to : ℕ) → AreRecordsOf rs es → map table_of (window (map entry_of rs) from to) ≡ map table_of (window es from to)
tables_alike [] [] from to h = refl
tables_alike [] (e ∷ es) from to h = absurd h
tables_alike (r ∷ rs) [] from to h = absurd h
tables_alike (r ∷ rs) (e ∷ es) from to h =
    let rest = tables_alike rs es from to h.1 in
    subst (λ (s : ℕ). map table_of (cond (nat_le from r.start.0 && nat_lt r.start.0 to) (entry_of r ∷ window (map entry_of rs) from to) (window (map entry_of rs) from to)) ≡ map table_of (cond (nat_le from s && nat_lt s to) (e ∷ window es from to) (window es from to))) h.0.start
    (elim (nat_le from r.start.0 && nat_lt r.start.0 to) as (λ t. map table_of (cond t (entry_of r ∷ window (map entry_of rs) from to) (window (map entry_of rs) from to)) ≡ map table_of (cond t (e ∷ window es from to) (window es from to))) [
      | true ↦ ap (λ (t : BlockRefTable). t ∷ map table_of (window (map entry_of rs) from to)) h.0.table ∙ ap (λ (l : List BlockRefTable). table_of e ∷ l) rest
      | false ↦ rest
    ])

pub said_alike : (rs : List Record) (es : List Entry) (from to : ℕ) → AreRecordsOf rs es → summary_of (map entry_of rs) from to ≡ summary_of es from to
said_alike rs es from to h = ap summed (tables_alike rs es from to h)

pub redo_alike : (rs : List Record) (es : List Entry) (from : ℕ) → AreRecordsOf rs es → next_redo from (map entry_of rs) ≡ next_redo from es
redo_alike [] [] from h = refl
redo_alike [] (e ∷ es) from h = absurd h
redo_alike (r ∷ rs) [] from h = absurd h
redo_alike (r ∷ rs) (e ∷ es) from h =
    ap (λ (t : Bool). cond (t && nat_lt from r.start.0) (Some r.start.0) (next_redo from (map entry_of rs))) h.0.redo
    ∙ ap (λ (s : ℕ). cond (is_redo e.act && nat_lt from s) (Some s) (next_redo from (map entry_of rs))) h.0.start
    ∙ ap (cond (is_redo e.act && nat_lt from e.start) (Some e.start)) (redo_alike rs es from h.1)

-- the end of the last one of some entries; where there is none, a place before them
abbrev pub stop : ℕ → List Entry → ℕ
stop low [] = low
stop low (e ∷ es) = stop e.end es

pub stop_alike : (rs : List Record) (es : List Entry) (low : ℕ) → AreRecordsOf rs es → last_end low rs ≡ stop low es
stop_alike [] [] low h = refl
stop_alike [] (e ∷ es) low h = absurd h
stop_alike (r ∷ rs) [] low h = absurd h
stop_alike (r ∷ rs) (e ∷ es) low h = ap (λ (x : ℕ). last_end x rs) h.0.end ∙ stop_alike rs es e.end h.1

pub length_alike : (rs : List Record) (es : List Entry) → AreRecordsOf rs es → length rs ≡ length es
length_alike [] [] h = refl
length_alike [] (e ∷ es) h = absurd h
length_alike (r ∷ rs) [] h = absurd h
length_alike (r ∷ rs) (e ∷ es) h = ap suc (length_alike rs es h.1)

-- ---- entries in order

orderly_low : (low high : ℕ) (h : List Entry) → low ≤ high → IsOrderly high h → IsOrderly low h
orderly_low low high [] le o = tt
orderly_low low high (e ∷ es) le o = let first = o.0 in (omega (arith, le, first), o.1, o.2, o.3)

orderly_filter : (p : Entry → Bool) (low : ℕ) (h : List Entry) → IsOrderly low h → IsOrderly low (filter p h)
orderly_filter p low [] o = tt
orderly_filter p low (e ∷ es) o =
    let rest = orderly_filter p e.end es o.3 in
    let first = o.0 in
    let up = o.1 in
    elim (p e) as (λ t. IsOrderly low (cond t (e ∷ filter p es) (filter p es))) [ true ↦ (o.0, o.1, o.2, rest) | false ↦ orderly_low low e.end (filter p es) (omega (arith, first, up)) rest ]

from_step : (at low : ℕ) (e : Entry) (es : List Entry) → IsOrderly low (e ∷ es) → (t : Bool) → nat_le at e.start ≡ t → IsOrderly at (from_place at es) → IsOrderly at (cond t (e ∷ from_place at es) (from_place at es))
from_step at low e es o true is rest = (leb-true at e.start is, o.1, o.2, orderly_filter (λ x. nat_le at x.start) e.end es o.3)
from_step at low e es o false is rest = rest

pub orderly_from : (at low : ℕ) (h : List Entry) → IsOrderly low h → IsOrderly at (from_place at h)
orderly_from at low [] o = tt
orderly_from at low (e ∷ es) o = from_step at low e es o (nat_le at e.start) refl (orderly_from at e.end es o.3)

pub orderly_front : (low : ℕ) (xs ys : List Entry) → IsOrderly low (xs ++ ys) → IsOrderly low xs
orderly_front low [] ys o = tt
orderly_front low (x ∷ xs) ys o = (o.0, o.1, o.2, orderly_front x.end xs ys o.3)

pub orderly_behind : (low : ℕ) (xs ys : List Entry) → IsOrderly low (xs ++ ys) → IsOrderly (stop low xs) ys
orderly_behind low [] ys o = o
orderly_behind low (x ∷ xs) ys o = orderly_behind x.end xs ys o.3

pub stop_later : (low : ℕ) (xs : List Entry) → IsOrderly low xs → low ≤ stop low xs
stop_later low [] o = omega arith
stop_later low (x ∷ xs) o = let rest = stop_later x.end xs o.3 in let first = o.0 in let up = o.1 in omega (arith, rest, first, up)

-- what starts at a place or past it, of entries that all start before another place
first_only : (a b : Bool) → b ≡ true → (a && b) ≡ a
first_only true b h = h
first_only false b h = refl

all_before : (from to low : ℕ) (es : List Entry) → IsOrderly low es → stop low es ≤ to → window es from to ≡ from_place from es
all_before from to low [] o le = refl
all_before from to low (e ∷ es) o le =
    let up = o.1 in
    let rest = stop_later e.end es o.3 in
    ap (λ (t : Bool). cond t (e ∷ window es from to) (window es from to)) (first_only (nat_le from e.start) (nat_lt e.start to) (lt-ltb e.start to (omega (arith, le, up, rest))))
    ∙ ap (λ (l : List Entry). cond (nat_le from e.start) (e ∷ l) l) (all_before from to e.end es o.3 le)

-- none does before a place, of entries behind it
no_second : (a b : Bool) → b ≡ false → (a && b) ≡ false
no_second true b h = h
no_second false b h = refl

pub none_past : (from to low : ℕ) (es : List Entry) → to ≤ low → IsOrderly low es → window es from to ≡ []
none_past from to low [] le o = refl
none_past from to low (e ∷ es) le o =
    let first = o.0 in
    let up = o.1 in
    ap (λ (t : Bool). cond t (e ∷ window es from to) (window es from to)) (no_second (nat_le from e.start) (nat_lt e.start to) (le-ltb e.start to (omega (arith, le, first))))
    ∙ none_past from to e.end es (omega (arith, le, first, up)) o.3

none_from : (low at : ℕ) (es : List Entry) → IsOrderly low es → stop low es ≤ at → from_place at es ≡ []
none_from low at [] o le = refl
none_from low at (e ∷ es) o le =
    let up = o.1 in
    let rest = stop_later e.end es o.3 in
    ap (λ (t : Bool). cond t (e ∷ from_place at es) (from_place at es)) (lt-leb at e.start (omega (arith, le, up, rest)))
    ∙ none_from e.end at es o.3 le

pub all_from : (low at : ℕ) (es : List Entry) → IsOrderly low es → at ≤ low → from_place at es ≡ es
all_from low at [] o le = refl
all_from low at (e ∷ es) o le =
    let first = o.0 in
    let up = o.1 in
    ap (λ (t : Bool). cond t (e ∷ from_place at es) (from_place at es)) (le-leb at e.start (omega (arith, le, first)))
    ∙ ap (λ (l : List Entry). e ∷ l) (all_from e.end at es o.3 (omega (arith, le, first, up)))

twice_step : (at later : ℕ) (e : Entry) (es : List Entry) → at ≤ later → (t : Bool) → nat_le at e.start ≡ t → from_place later (from_place at es) ≡ from_place later es → from_place later (cond t (e ∷ from_place at es) (from_place at es)) ≡ from_place later (e ∷ es)
twice_step at later e es le true is rest = ap (λ (l : List Entry). cond (nat_le later e.start) (e ∷ l) l) rest
twice_step at later e es le false is rest =
    let before = leb-false at e.start is in
    rest ∙ sym (ap (λ (t : Bool). cond t (e ∷ from_place later es) (from_place later es)) (lt-leb later e.start (omega (arith, before, le))))

from_twice : (at later : ℕ) (h : List Entry) → at ≤ later → from_place later (from_place at h) ≡ from_place later h
from_twice at later [] le = refl
from_twice at later (e ∷ es) le = twice_step at later e es le (nat_le at e.start) refl (from_twice at later es le)

-- what is left behind a piece
left_behind : (at : ℕ) (h es rest : List Entry) → IsOrderly 0 h → from_place at h ≡ es ++ rest → from_place (stop at es) h ≡ rest
left_behind at h es rest o split =
    let order = subst (IsOrderly at) split (orderly_from at 0 h o) in
    let front = orderly_front at es rest order in
    let place = stop at es in
    sym (from_twice at place h (stop_later at es front)) ∙ ap (from_place place) split ∙ filter-append (λ e. nat_le place e.start) es rest
    ∙ ap (λ (l : List Entry). l ++ from_place place rest) (none_from at place es front (omega arith))
    ∙ all_from place place rest (orderly_behind at es rest order) (omega arith)

-- and none between a place and one that isn't past it
nowhere_step : (from to s : ℕ) (t : Bool) → to ≤ from → nat_le from s ≡ t → (t && nat_lt s to) ≡ false
nowhere_step from to s true le is = let late = leb-true from s is in le-ltb s to (omega (arith, late, le))
nowhere_step from to s false le is = refl

pub none_between : (h : List Entry) (from to : ℕ) → to ≤ from → window h from to ≡ []
none_between [] from to le = refl
none_between (e ∷ es) from to le =
    ap (λ (t : Bool). cond t (e ∷ window es from to) (window es from to)) (nowhere_step from to e.start (nat_le from e.start) le refl) ∙ none_between es from to le

pub none_before_first : (h : List Entry) (from : ℕ) → IsOrderly 0 h → window h from (first_start h) ≡ []
none_before_first [] from o = refl
none_before_first (e ∷ es) from o = none_past from e.start e.start (e ∷ es) (omega arith) (omega arith, o.1, o.2, o.3)

-- what entries say, and others behind them
pub said_append : (xs ys : List Entry) (from to : ℕ) → summary_of (xs ++ ys) from to ≡ both_summed (summary_of xs from to) (summary_of ys from to)
said_append xs ys from to =
    ap (λ (l : List Entry). summed (map table_of l)) (filter-append (is_in from to) xs ys)
    ∙ ap summed (map-append table_of (window xs from to) (window ys from to))
    ∙ lists_summed (map table_of (window xs from to)) (map table_of (window ys from to))

-- ---- reading that starts at another place, where no entry starts between

none_first : (t : Bool) (e : Entry) (es : List Entry) → cond t (e ∷ es) es ≡ [] → (t ≡ false) × (es ≡ [])
none_first true e es none = absurd cc
none_first false e es none = (refl, none)

by_second : (a b : Bool) → b ≡ true → (a && b) ≡ false → a ≡ false
by_second true b h none = absurd (true≢false (sym h ∙ none))
by_second false b h none = refl

before_from : (from at s : ℕ) → nat_le at s ≡ false → (nat_le from s && nat_lt s at) ≡ false → nat_le from s ≡ false
before_from from at s is none = by_second (nat_le from s) (nat_lt s at) (lt-ltb s at (leb-false at s is)) none

starts : (from at to : ℕ) (h : List Entry) → window h from at ≡ [] → window (from_place at h) from to ≡ window h from to
starts from at to [] none = refl
starts from at to (e ∷ es) none =
    let here = none_first (is_in from at e) e (window es from at) none in
    let rest = starts from at to es here.1 in
    elim (nat_le at e.start) as (λ t. nat_le at e.start ≡ t → window (cond t (e ∷ from_place at es) (from_place at es)) from to ≡ window (e ∷ es) from to) [
      | true ↦ λ k. ap (λ (l : List Entry). cond (is_in from to e) (e ∷ l) l) rest
      | false ↦ λ k.
          rest
          ∙ sym (ap (λ (t : Bool). cond (t && nat_lt e.start to) (e ∷ window es from to) (window es from to)) (before_from from at e.start k here.0))
    ] refl

-- ---- the next redo point

none_yet : (t : Bool) (s : ℕ) (a b c : Option ℕ) → (a ≡ None → b ≡ c) → cond t (Some s) a ≡ None → cond t (Some s) b ≡ c
none_yet true s a b c f e = absurd cc
none_yet false s a b c f e = f e

first_yet : (t : Bool) (s place : ℕ) (a b : Option ℕ) → (a ≡ Some place → b ≡ Some place) → cond t (Some s) a ≡ Some place → cond t (Some s) b ≡ Some place
first_yet true s place a b f e = e
first_yet false s place a b f e = f e

redo_append : (from : ℕ) (xs ys : List Entry) → next_redo from xs ≡ None → next_redo from (xs ++ ys) ≡ next_redo from ys
redo_append from [] ys none = refl
redo_append from (x ∷ xs) ys none = none_yet (is_redo x.act && nat_lt from x.start) x.start (next_redo from xs) (next_redo from (xs ++ ys)) (next_redo from ys) (λ e. redo_append from xs ys e) none

pub redo_first : (from place : ℕ) (xs ys : List Entry) → next_redo from xs ≡ Some place → next_redo from (xs ++ ys) ≡ Some place
redo_first from place [] ys some = absurd cc
redo_first from place (x ∷ xs) ys some = first_yet (is_redo x.act && nat_lt from x.start) x.start place (next_redo from xs) (next_redo from (xs ++ ys)) (λ e. redo_first from place xs ys e) some

some_same : (a b : ℕ) → (let o : Option ℕ = Some a in o ≡ Some b) → a ≡ b
some_same a b e = cc

within_step : (low : ℕ) (x : Entry) (xs : List Entry) (place : ℕ) → IsOrderly low (x ∷ xs) → (t : Bool) (a : Option ℕ) → (a ≡ Some place → (x.end ≤ place) × (place < stop x.end xs)) → cond t (Some x.start) a ≡ Some place → (low ≤ place) × (place < stop x.end xs)
within_step low x xs place o true a f e =
    let same = some_same x.start place e in
    let first = o.0 in
    let up = o.1 in
    let rest = stop_later x.end xs o.3 in
    (omega (arith, same, first), omega (arith, same, up, rest))
within_step low x xs place o false a f e =
    let there = f e in
    let late = there.0 in
    let first = o.0 in
    let up = o.1 in
    (omega (arith, late, first, up), there.1)

-- it starts in these entries, behind the place
redo_within : (low from place : ℕ) (xs : List Entry) → IsOrderly low xs → next_redo from xs ≡ Some place → (low ≤ place) × (place < stop low xs)
redo_within low from place [] o some = absurd cc
redo_within low from place (x ∷ xs) o some = within_step low x xs place o (is_redo x.act && nat_lt from x.start) (next_redo from xs) (λ e. redo_within x.end from place xs o.3 e) some

no_redo : (b : Bool) (s : ℕ) (o : Option ℕ) → cond (b && false) (Some s) o ≡ o
no_redo true s o = refl
no_redo false s o = refl

redo_from : (from at : ℕ) (h : List Entry) → window h from at ≡ [] → next_redo from (from_place at h) ≡ next_redo from h
redo_from from at [] none = refl
redo_from from at (e ∷ es) none =
    let here = none_first (is_in from at e) e (window es from at) none in
    let rest = redo_from from at es here.1 in
    elim (nat_le at e.start) as (λ t. nat_le at e.start ≡ t → next_redo from (cond t (e ∷ from_place at es) (from_place at es)) ≡ next_redo from (e ∷ es)) [
      | true ↦ λ k. ap (cond (is_redo e.act && nat_lt from e.start) (Some e.start)) rest
      | false ↦ λ k.
          let early = leb-false from e.start (before_from from at e.start k here.0) in
          rest
          ∙ sym (ap (λ (t : Bool). cond (is_redo e.act && t) (Some e.start) (next_redo from es)) (le-ltb from e.start (omega (arith, early))) ∙ no_redo (is_redo e.act) e.start (next_redo from es))
    ] refl

-- ---- places

pub or_right : (a b : Bool) → b ≡ true → (a || b) ≡ true
or_right true b h = refl
or_right false b h = h

or_on : (a b c : Bool) → (b ≡ true → c ≡ true) → (a || b) ≡ true → (a || c) ≡ true
or_on true b c f h = refl
or_on false b c f h = f h

any_step : (t : Bool) (p : Entry → Bool) (x : Entry) (some all : List Entry) → (list_any p some ≡ true → list_any p all ≡ true) → list_any p (cond t (x ∷ some) some) ≡ true → (p x || list_any p all) ≡ true
any_step true p x some all f h = or_on (p x) (list_any p some) (list_any p all) f h
any_step false p x some all f h = or_right (p x) (list_any p all) (f h)

any_filter : (p q : Entry → Bool) (h : List Entry) → list_any p (filter q h) ≡ true → list_any p h ≡ true
any_filter p q [] e = e
any_filter p q (x ∷ xs) e = any_step (q x) p x (filter q xs) xs (λ h. any_filter p q xs h) e

pub any_left : (p : Entry → Bool) (xs ys : List Entry) → list_any p xs ≡ true → list_any p (xs ++ ys) ≡ true
any_left p [] ys e = absurd cc
any_left p (x ∷ xs) ys e = or_on (p x) (list_any p xs) (list_any p (xs ++ ys)) (λ h. any_left p xs ys h) e

pub any_behind : (p : Entry → Bool) (xs ys : List Entry) → list_any p ys ≡ true → list_any p (xs ++ ys) ≡ true
any_behind p [] ys h = h
any_behind p (x ∷ xs) ys h = or_right (p x) (list_any p (xs ++ ys)) (any_behind p xs ys h)

end_place : (e : Entry) → is_place_of e.end e ≡ true
end_place e = or_right (e.start == e.end) (e.end == e.end) (eq-eqb e.end e.end refl)

pub or_left : (a b : Bool) → a ≡ true → (a || b) ≡ true
or_left true b h = refl
or_left false b h = absurd cc

stop_place : (h : List Entry) (e : Entry) (es : List Entry) → ((x : ℕ) → list_any (is_place_of x) (e ∷ es) ≡ true → IsPlaceOf h x) → IsPlaceOf h (stop e.end es)
stop_place h e [] among = among e.end (or_left (is_place_of e.end e) false (end_place e))
stop_place h e (f ∷ fs) among = stop_place h f fs (λ x t. among x (or_right (is_place_of x e) (list_any (is_place_of x) (f ∷ fs)) t))

stop_among : (at : ℕ) (h es rest : List Entry) → from_place at h ≡ es ++ rest → 0 < length es → IsPlaceOf h (stop at es)
stop_among at h [] rest split some = absurd (omega (arith, some))
stop_among at h (e ∷ es) rest split some = stop_place h e es (λ x t. any_filter (is_place_of x) (λ y. nat_le at y.start) h (subst (λ l. list_any (is_place_of x) l ≡ true) (sym split) (any_left (is_place_of x) (e ∷ es) rest t)))

some_at : (t : Bool) (e : Entry) (place : ℕ) (a : Option ℕ) (all : Bool) → (a ≡ Some place → all ≡ true) → cond t (Some e.start) a ≡ Some place → (is_place_of place e || all) ≡ true
some_at true e place a all f is =
    let same = some_same e.start place is in
    or_left (is_place_of place e) all (or_left (e.start == place) (e.end == place) (eq-eqb e.start place same))
some_at false e place a all f is = or_right (is_place_of place e) all (f is)

pub redo_place : (from place : ℕ) (h : List Entry) → next_redo from h ≡ Some place → IsPlaceOf h place
redo_place from place [] is = absurd cc
redo_place from place (e ∷ es) is = some_at (is_redo e.act && nat_lt from e.start) e place (next_redo from es) (list_any (is_place_of place) es) (λ h. redo_place from place es h) is

-- ---- what is read so far

-- a table is what the entries from a place on say that start before another one, from which on all
-- others are left; no redo point past the first place is among them
pub record IsReadTo (h : List Entry) (from at : ℕ) (table : BlockRefTable) : Type 0 where
  pub marked : (to : ℕ) → at ≤ to → summary_of h from to ≡ both_summed table (summary_of (from_place at h) from to)
  pub redo : next_redo from (from_place at h) ≡ next_redo from h

pub read_first : (h : List Entry) (from at : ℕ) (table : BlockRefTable) → table ≡ summed [] → window h from at ≡ [] → IsReadTo h from at table
read_first h from at table empty none = record {
  marked = λ to le.
      sym (ap (λ (l : List Entry). summed (map table_of l)) (starts from at to h none))
      ∙ ap (λ (t : BlockRefTable). both_summed t (summary_of (from_place at h) from to)) (sym empty);
  redo = redo_from from at h none;
}

no_more : (most : ℕ) (xs : List Entry) → 0 < most → length (take most xs) ≡ 0 → xs ≡ []
no_more zero xs some none = absurd (omega (arith, some))
no_more (suc most) [] some none = refl
no_more (suc most) (x ∷ xs) some none = absurd (omega (arith, none))

-- a piece of what is left, which is records of it
pub record IsPieceOf (h : List Entry) (at : ℕ) (rs : List Record) : Type 0 where
  pub es : List Entry
  pub rest : List Entry
  pub split : from_place at h ≡ es ++ rest
  pub told : AreRecordsOf rs es

pub piece_is : (h : List Entry) (at most : ℕ) (rs : List Record) → AreRecordsOf rs (take most (from_place at h)) → IsPieceOf h at rs
piece_is h at most rs told = record {
  es = take most (from_place at h);
  rest = drop most (from_place at h);
  split = sym (take-append-drop most (from_place at h));
  told = told;
}

-- a piece more
piece_said : (h : List Entry) (from at to : ℕ) (table : BlockRefTable) (rs : List Record) (r : IsReadTo h from at table) (p : IsPieceOf h at rs) → at ≤ to
    → summary_of h from to ≡ both_summed (both_summed table (summary_of p.es from to)) (summary_of p.rest from to)
piece_said h from at to table rs r p le =
    r.marked to le ∙ ap (λ (l : List Entry). both_summed table (summary_of l from to)) p.split ∙ ap (both_summed table) (said_append p.es p.rest from to)
    ∙ sym (regrouped table (summary_of p.es from to) (summary_of p.rest from to))

-- what is said of a piece up to any place behind it
piece_whole : (h : List Entry) (from at to high : ℕ) (rs : List Record) → IsOrderly 0 h → (p : IsPieceOf h at rs) → stop at p.es ≤ to → stop at p.es ≤ high → summary_of p.es from to ≡ summary_of (map entry_of rs) from high
piece_whole h from at to high rs o p a b =
    let front = orderly_front at p.es p.rest (subst (IsOrderly at) p.split (orderly_from at 0 h o)) in
    ap (λ (l : List Entry). summed (map table_of l)) (all_before from to at p.es front a ∙ sym (all_before from high at p.es front b))
    ∙ sym (said_alike rs p.es from high p.told)

pub read_on : (h : List Entry) (from at high : ℕ) (table next : BlockRefTable) (rs : List Record) → IsOrderly 0 h → IsReadTo h from at table → IsPieceOf h at rs → next_redo from (map entry_of rs) ≡ None
    → next ≡ both_summed table (summary_of (map entry_of rs) from high) → last_end at rs ≤ high → IsReadTo h from (last_end at rs) next
read_on h from at high table next rs o r p none add le =
    let es = p.es in
    let rest = p.rest in
    let order = subst (IsOrderly at) p.split (orderly_from at 0 h o) in
    let place = stop_alike rs es at p.told in
    let up = stop_later at es (orderly_front at es rest order) in
    let left = left_behind at h es rest o p.split in
    subst (λ (x : ℕ). IsReadTo h from x next) (sym place) (record {
      marked = λ to far.
          piece_said h from at to table rs r p (omega (arith, up, far))
          ∙ ap (λ (t : BlockRefTable). both_summed (both_summed table t) (summary_of rest from to)) (piece_whole h from at to high rs o p far (omega (arith, place, le)))
          ∙ ap (λ (t : BlockRefTable). both_summed t (summary_of rest from to)) (sym add)
          ∙ ap (λ (l : List Entry). both_summed next (summary_of l from to)) (sym left);
      redo = ap (next_redo from) left ∙ sym (redo_append from es rest (sym (redo_alike rs es from p.told) ∙ none)) ∙ sym (ap (next_redo from) p.split) ∙ r.redo;
    })

pub on_place : (h : List Entry) (at : ℕ) (rs : List Record) → IsPieceOf h at rs → 0 < length rs → IsPlaceOf h (last_end at rs)
on_place h at rs p some =
    let same = length_alike rs p.es p.told in
    subst (IsPlaceOf h) (sym (stop_alike rs p.es at p.told)) (stop_among at h p.es p.rest p.split (omega (arith, some, same)))

pub read_all : (h : List Entry) (from at most : ℕ) (table : BlockRefTable) (rs : List Record) → IsReadTo h from at table → 0 < most → AreRecordsOf rs (take most (from_place at h)) → length rs ≡ 0 → next_redo from h ≡ None
read_all h from at most table rs r some told none =
    sym r.redo ∙ ap (next_redo from) (no_more most (from_place at h) some (sym (length_alike rs (take most (from_place at h)) told) ∙ none))

pub read_up : (h : List Entry) (from at place : ℕ) (table next : BlockRefTable) (rs : List Record) → IsOrderly 0 h → IsReadTo h from at table → IsPieceOf h at rs → next_redo from (map entry_of rs) ≡ Some place
    → next ≡ both_summed table (summary_of (map entry_of rs) from place) → (next_redo from h ≡ Some place) × (next ≡ summary_of h from place)
read_up h from at place table next rs o r p some add =
    let es = p.es in
    let rest = p.rest in
    let order = subst (IsOrderly at) p.split (orderly_from at 0 h o) in
    let found = sym (redo_alike rs es from p.told) ∙ some in
    let within = redo_within at from place es (orderly_front at es rest order) found in
    let below = within.1 in
    let past : window rest from place ≡ [] = none_past from place (stop at es) rest (omega (arith, below)) (orderly_behind at es rest order) in (
      sym r.redo ∙ ap (next_redo from) p.split ∙ redo_first from place es rest found,
      add ∙ ap (both_summed table) (said_alike rs es from place p.told)
          ∙ sym (piece_said h from at place table rs r p within.0
          ∙ ap (λ (l : List Entry). both_summed (both_summed table (summary_of es from place)) (summed (map table_of l))) past
          ∙ before_none (both_summed table (summary_of es from place))),
    )

-- ---- ends

pub rise_end : (low : ℕ) (rs : List Record) → RiseBehind low rs → 0 < length rs → low < last_end low rs
rise_end low [] rise some = absurd (omega (arith, some))
rise_end low (r ∷ []) rise some = rise.0
rise_end low (r ∷ (s ∷ ss)) rise some = let first = rise.0 in let rest = rise_end r.end.0 (s ∷ ss) rise.2 (omega arith) in omega (arith, first, rest)

-- ---- one turn

option_some : (o : Option Lsn) (at : Lsn) → o ≡ Some at → option_map (λ x. x.0) o ≡ Some at.0
option_some o at e = ap (option_map (λ x. x.0)) e

-- what the next range is, where a piece has its end
pub found_up : (h : List Entry) (from at : ℕ) (table next : BlockRefTable) (rs : List Record) (o : Option Lsn) (end : Lsn) → IsOrderly 0 h → IsReadTo h from at table → AreRecordsOf rs (take 64 (from_place at h))
    → option_map (λ x. x.0) o ≡ next_redo from (map entry_of rs) → o ≡ Some end → next ≡ both_summed table (summary_of (map entry_of rs) from (place_or o)) → (next_redo from h ≡ Some end.0) × (next ≡ summary_of h from end.0)
found_up h from at table next rs o end order r told is some add =
    read_up h from at end.0 table next rs order r (piece_is h at 64 rs told) (sym is ∙ option_some o end some) (add ∙ ap (λ x. both_summed table (summary_of (map entry_of rs) from (place_or x))) some)

-- and where it hasn't
pub found_none : (h : List Entry) (from at now : ℕ) (table next : BlockRefTable) (rs : List Record) (o : Option Lsn) → IsOrderly 0 h → IsReadTo h from at table → AreRecordsOf rs (take 64 (from_place at h))
    → option_map (λ x. x.0) o ≡ next_redo from (map entry_of rs) → o ≡ None → next ≡ both_summed table (summary_of (map entry_of rs) from (place_or o)) → now ≡ last_end at rs → now ≤ 2 ^ 64 - 1 → IsReadTo h from now next
found_none h from at now table next rs o order r told is none add last le =
    subst (λ (x : ℕ). IsReadTo h from x next) (sym last)
    (read_on h from at (2 ^ 64 - 1) table next rs order r (piece_is h at 64 rs told) (sym is ∙ ap (option_map (λ x. x.0)) none) (add ∙ ap (λ x. both_summed table (summary_of (map entry_of rs) from (place_or x))) none) (omega (arith, last, le)))

pub place_on : (h : List Entry) (at now : ℕ) (rs : List Record) → IsPlaceOf h at → AreRecordsOf rs (take 64 (from_place at h)) → now ≡ last_end at rs → IsPlaceOf h now
place_on h at now [] place told last = subst (IsPlaceOf h) (sym last) place
place_on h at now (r ∷ rs) place told last = subst (IsPlaceOf h) (sym last) (on_place h at (r ∷ rs) (piece_is h at 64 (r ∷ rs) told) (omega arith))

pub moved_place : (h : List Entry) (old new at : Lsn) → IsPlaceOf h old.0 → IsPlaceOf h at.0 → (new ≡ old) ⊎ (new ≡ at) → IsPlaceOf h new.0
moved_place h old new at stays moves (inl same) = subst (λ (x : Lsn). IsPlaceOf h x.0) (sym same) stays
moved_place h old new at stays moves (inr moved) = subst (λ (x : Lsn). IsPlaceOf h x.0) (sym moved) moves

pub none_at_end : (h : List Entry) (from at : ℕ) (table : BlockRefTable) (rs : List Record) (ended : Bool) → IsReadTo h from at table → AreRecordsOf rs (take 64 (from_place at h)) → ended ≡ (length rs == 0) → ended ≡ true → next_redo from h ≡ None
none_at_end h from at table [] ended r told e end = read_all h from at 64 table [] r (omega arith) told refl
none_at_end h from at table (x ∷ xs) ended r told e end = absurd (let z = eqb-true (length (x ∷ xs)) 0 (sym e ∙ end) in omega (arith, z))

pub turns_fewer : (at now : ℕ) (rs : List Record) (was ended : Bool) → RiseBehind at rs → now ≡ last_end at rs → now ≤ 2 ^ 64 - 1 → ended ≡ (length rs == 0) → was ≡ false → cond ended 0 (2 ^ 64 - now) < cond was 0 (2 ^ 64 - at)
turns_fewer at now [] was true rise last le e w = rw w (omega (arith, last, le))
turns_fewer at now (r ∷ rs) was true rise last le e w = absurd (let z = eqb-true (length (r ∷ rs)) 0 (sym e) in omega (arith, z))
turns_fewer at now [] was false rise last le e w = absurd cc
turns_fewer at now (r ∷ rs) was false rise last le e w = let up = rise_end at (r ∷ rs) rise (omega arith) in rw w (omega (arith, last, up, le))

past_step : (b t : Bool) (from s place : ℕ) (a : Option ℕ) → nat_lt from s ≡ t → (a ≡ Some place → from < place) → cond (b && t) (Some s) a ≡ Some place → from < place
past_step true true from s place a is f e = let same = some_same s place e in let lt = ltb-true from s is in omega (arith, same, lt)
past_step true false from s place a is f e = f e
past_step false t from s place a is f e = f e

pub past_redo : (from place : ℕ) (h : List Entry) → next_redo from h ≡ Some place → from < place
past_redo from place [] is = absurd cc
past_redo from place (e ∷ es) is = past_step (is_redo e.act) (nat_lt from e.start) from e.start place (next_redo from es) refl (λ k. past_redo from place es k) is

pub redo_past : (from : ℕ) (rs : List Record) (o : Option Lsn) (end : Lsn) → option_map (λ x. x.0) o ≡ next_redo from (map entry_of rs) → o ≡ Some end → from < end.0
redo_past from rs o end is some = past_redo from end.0 (map entry_of rs) (sym is ∙ option_some o end some)

-- behind a summary's range reading goes on where the range ends
pub can_go_on : (h : List Entry) (made place : ℕ) (sum : Summary) → IsNext h made place sum → CanStart h sum.end.0 sum.end.0
can_go_on h made place sum next = record { place = redo_place place sum.end.0 h next.ends; between = none_between h sum.end.0 sum.end.0 (omega arith) }

-- and where it starts behind what is kept
pub start_from : (h seen : List Entry) (known now from first : Lsn) → IsOrderly 0 h → IsPrefix seen h → IsPlaceOf seen known.0 → first.0 ≡ first_start h → IsPlaceOf h first.0 → StartsBy known now from first → CanStart h from.0 now.0
start_from h seen known now from first order before is first_is there (inl stays) =
    subst (λ (x : Lsn). CanStart h from.0 x.0) (sym stays.0) (record { place = places_stay known.0 seen h is before; between = none_between h from.0 known.0 stays.1 })
start_from h seen known now from first order before is first_is there (inr moved) =
    subst (λ (x : Lsn). CanStart h from.0 x.0) (sym moved) (record { place = there; between = subst (λ (n : ℕ). window h from.0 n ≡ []) (sym first_is) (none_before_first h from.0 order) })
