-- What the published summaries keep, and what they say together.
use Rattle.std.proofs.Common.{◌≡◌, ℕ, ◌<◌, ◌≤◌, ◌&&◌, ◌||◌, Bool, true, false, cond, List, [], ◌∷◌, ◌++◌, map, Some, refl, ap, sym, subst, ◌∙◌, arith, true≢false, eqb-true}
use Rattle.std.specs.Prelude.{◌==◌, nat_lt, nat_le}
use Rattle.std.specs.List.{All, list_any, filter}
use Rattle.std.proofs.lemmas.Bool.{and_parts, or_left, or_right, eq-eqb, lt-leb, lt-ltb, le-ltb, ltb-true, ltb-false}
use Rattle.std.proofs.lemmas.List.{append-nil}
use Rattle.std.proofs.lemmas.List.Elements.{All-nil, All-cons, filter-append}
use Rattle.std.proofs.lemmas.List.Folds.{list_any-append}
use Rattle.history.specs.Entry.{Entry}
use Rattle.history.specs.Written.{is_redo}
use Rattle.history.proofs.Stores.{by_test}
use Rattle.history.specs.fuzzy_copies.Orderly.{IsOrderly}
use Rattle.history.specs.fuzzy_copies.Sound.{is_in, window}
use Rattle.history.specs.fuzzy_copies.Summary.{summed, both_summed, summed_up, summary_of}
use Rattle.history.proofs.fuzzy_copies.Summaries.{meet}
use Rattle.history.proofs.fuzzy_copies.Ranges.{and_false, start_behind}
use Rattle.wal_summary.proofs.Tables.{same_table, first_summed}
use Rattle.store_core.specs.State.{Published}
use Rattle.store_core.specs.Increments.{published_to, next_redo, overlaps, table_between}
use Rattle.store_core.specs.Laws.{IsHonest}

-- an entry of the history starts there; a redo point is there
abbrev pub StartsAt : List Entry → ℕ → Type 0
StartsAt history x = list_any (λ e. e.start == x) history ≡ true

abbrev pub IsRedoAt : List Entry → ℕ → Type 0
IsRedoAt history x = list_any (λ e. (e.start == x) && is_redo e.act) history ≡ true

-- ---- what is kept

-- a summary of a range from a place to the next redo point
pub record IsPublished (history : List Entry) (from : ℕ) (p : Published) : Type 0 where
  pub start : p.start ≡ from
  pub above : p.start < p.end
  pub honest : IsHonest history p
  pub between : (x : ℕ) → IsRedoAt history x → p.start < x → p.end ≤ x

abbrev pub ArePublished : List Entry → ℕ → List Published → Type 0
ArePublished history from [] = Unit
ArePublished history from (p ∷ ps) = IsPublished history from p × ArePublished history p.end ps

pub record HasPublished (history : List Entry) (from : ℕ) (published : List Published) : Type 0 where
  pub each : ArePublished history from published
  pub ends : StartsAt history (published_to from published)

published_rise : (history : List Entry) (from : ℕ) (ps : List Published) → ArePublished history from ps → from ≤ published_to from ps
published_rise history from [] are = omega arith
published_rise history from (p ∷ ps) are =
    let s = are.0.start in
    let a = are.0.above in
    let b = published_rise history p.end ps are.1 in
    omega (arith, s, a, b)

-- ---- over an entry

-- an entry behind a history starts past the starts in it
last_late : (last : ℕ) (es : List Entry) (e : Entry) → IsOrderly last (es ++ (e ∷ [])) → last ≤ e.start
last_late last [] e o = o.0
last_late last (f ∷ es) e o = let a = o.0 in let b = o.1 in let c = last_late f.end es e o.3 in omega (arith, a, b, c)

pub start_before : (x last : ℕ) (es : List Entry) (e : Entry) → IsOrderly last (es ++ (e ∷ [])) → StartsAt es x → x ≤ e.start
start_before x last [] e o there = absurd (true≢false (sym there))
start_before x last (f ∷ es) e o there =
    by_test (f.start == x)
    (λ here. let same = eqb-true f.start x here in let b = o.1 in let c = last_late f.end es e o.3 in omega (arith, same, b, c))
    (λ away. start_before x f.end es e o.3 (ap (λ t. t || list_any (λ g. g.start == x) es) (sym away) ∙ there))

outside : (a b s : ℕ) → b ≤ s → (nat_le a s && nat_lt s b) ≡ false
outside a b s le = ap (λ t. nat_le a s && t) (le-ltb s b le) ∙ and_false (nat_le a s)

pub window_same : (history : List Entry) (e : Entry) (from to : ℕ) → to ≤ e.start → window (history ++ (e ∷ [])) from to ≡ window history from to
window_same history e from to le =
    filter-append (is_in from to) history (e ∷ []) ∙ ap (λ t. window history from to ++ cond t (e ∷ []) []) (outside from to e.start le) ∙ append-nil (window history from to)

pub summary_same : (history : List Entry) (e : Entry) (from to : ℕ) → to ≤ e.start → summary_of (history ++ (e ∷ [])) from to ≡ summary_of history from to
summary_same history e from to le = ap summed_up (window_same history e from to le)

pub starts_push : (history : List Entry) (e : Entry) (x : ℕ) → StartsAt history x → StartsAt (history ++ (e ∷ [])) x
starts_push history e x there = list_any-append (λ f. f.start == x) history (e ∷ []) ∙ or_left (list_any (λ f. f.start == x) history) _ there

each_push : (history : List Entry) (e : Entry) (from : ℕ) (ps : List Published) → published_to from ps ≤ e.start → ArePublished history from ps → ArePublished (history ++ (e ∷ [])) from ps
each_push history e from [] le are = tt
each_push history e from (p ∷ ps) le are =
    let rise = published_rise history p.end ps are.1 in
    let late : p.end ≤ e.start = omega (arith, le, rise) in (
      record {
        start = are.0.start;
        above = are.0.above;
        honest = are.0.honest ∙ sym (summary_same history e p.start p.end late);
        between = λ x redo past.
            let test = λ (f : Entry). (f.start == x) && is_redo f.act in
            by_test (list_any test history)
            (λ old. are.0.between x old past)
            (λ new.
            let here : ((test e) || false) ≡ true = ap (λ t. t || ((test e) || false)) (sym new) ∙ sym (list_any-append test history (e ∷ [])) ∙ redo in
            let same = eqb-true e.start x (and_parts (e.start == x) (is_redo e.act) (one_of (test e) here)).0 in
            omega (arith, same, late));
      },
      each_push history e p.end ps le are.1,
    )
  where
    one_of : (t : Bool) → (t || false) ≡ true → t ≡ true
    one_of true k = refl
    one_of false k = absurd (true≢false (sym k))

pub published_push : (history : List Entry) (from : ℕ) (published : List Published) (e : Entry) → IsOrderly 0 (history ++ (e ∷ [])) → HasPublished history from published → HasPublished (history ++ (e ∷ [])) from published
published_push history from published e o has = record {
  each = each_push history e from published (start_before (published_to from published) 0 history e o has.ends) has.each;
  ends = starts_push history e (published_to from published) has.ends;
}

-- ---- a summary more

pub to_pushed : (from : ℕ) (ps : List Published) (p : Published) → published_to from (ps ++ (p ∷ [])) ≡ p.end
to_pushed from [] p = refl
to_pushed from (q ∷ ps) p = to_pushed q.end ps p

each_more : (history : List Entry) (from : ℕ) (ps : List Published) (p : Published) → ArePublished history from ps → IsPublished history (published_to from ps) p → ArePublished history from (ps ++ (p ∷ []))
each_more history from [] p are is = (is, tt)
each_more history from (q ∷ ps) p are is = (are.0, each_more history q.end ps p are.1 is)

pub redo_starts : (x : ℕ) (es : List Entry) → IsRedoAt es x → StartsAt es x
redo_starts x [] h = h
redo_starts x (g ∷ es) h =
    by_test ((g.start == x) && is_redo g.act)
    (λ yes. or_left (g.start == x) (list_any (λ h. h.start == x) es) (and_parts (g.start == x) (is_redo g.act) yes).0)
    (λ no. or_right (g.start == x) (list_any (λ h. h.start == x) es) (redo_starts x es (ap (λ t. t || list_any (λ h. (h.start == x) && is_redo h.act) es) (sym no) ∙ h)))

-- the next redo point
pub record IsNextRedo (history : List Entry) (place end : ℕ) : Type 0 where
  pub past : place < end
  pub redo : IsRedoAt history end
  pub least : (x : ℕ) → IsRedoAt history x → place < x → end ≤ x

some_same : (a b : ℕ) → Some a ≡ Some b → a ≡ b
some_same a b e = cc

next_is : (place end last : ℕ) (es : List Entry) → IsOrderly last es → next_redo place es ≡ Some end → IsNextRedo es place end
next_is place end last [] o e = absurd cc
next_is place end last (f ∷ es) o e =
    let test = is_redo f.act && nat_lt place f.start in
    let here = λ (x : ℕ). (f.start == x) && is_redo f.act in
    let later = λ (x : ℕ). list_any (λ g. (g.start == x) && is_redo g.act) es in
    elim test as (λ t. test ≡ t → cond t (Some f.start) (next_redo place es) ≡ Some end → IsNextRedo (f ∷ es) place end) [
      | true ↦ λ k is.
          let same = some_same f.start end is in
          let p = and_parts (is_redo f.act) (nat_lt place f.start) k in
          let low = ltb-true place f.start p.1 in
          record {
            past = omega (arith, same, low);
            redo = or_left (here end) (later end) (ap (λ t. t && is_redo f.act) (eq-eqb f.start end same) ∙ p.0);
            least = λ x redo past. by_test (here x)
                (λ yes. let at = eqb-true f.start x (and_parts (f.start == x) (is_redo f.act) yes).0 in omega (arith, same, at))
                (λ no.
                let there : later x ≡ true = ap (λ t. t || later x) (sym no) ∙ redo in
                let far = start_behind x f.end es o.3 (redo_starts x es there) in
                let long = o.1 in
                omega (arith, same, far, long));
          }
      | false ↦ λ k is.
          let rest = next_is place end f.end es o.3 is in
          record {
            past = rest.past;
            redo = or_right (here end) (later end) rest.redo;
            least = λ x redo past. by_test (here x)
                (λ yes.
                let p = and_parts (f.start == x) (is_redo f.act) yes in
                let at = eqb-true f.start x p.0 in
                absurd (true≢false (sym (ap (λ t. t && nat_lt place f.start) p.1 ∙ lt-ltb place f.start (omega (arith, at, past))) ∙ k)))
                (λ no. rest.least x (ap (λ t. t || later x) (sym no) ∙ redo) past);
          }
    ] refl e

pub published_more : (history : List Entry) (from end : ℕ) (published : List Published) → IsOrderly 0 history → next_redo (published_to from published) history ≡ Some end → HasPublished history from published
    → HasPublished history from (published ++ (record { start = published_to from published; end = end; table = summary_of history (published_to from published) end } ∷ []))
published_more history from end published o e has =
    let place = published_to from published in
    let p : Published = record { start = place; end = end; table = summary_of history place end } in
    let next = next_is place end 0 history o e in
    record {
      each = each_more history from published p has.each (record { start = refl; above = next.past; honest = refl; between = next.least });
      ends = subst (StartsAt history) (sym (to_pushed from published p)) (redo_starts end history next.redo);
    }

pub all_honest : (history : List Entry) (from : ℕ) (ps : List Published) → ArePublished history from ps → All (IsHonest history) ps
all_honest history from [] are = All-nil (IsHonest history)
all_honest history from (p ∷ ps) are = All-cons (IsHonest history) p ps are.0.honest (all_honest history p.end ps are.1)

-- ---- what they say together

nowhere : (from s : ℕ) → (nat_le from s && nat_lt s from) ≡ false
nowhere from s =
    by_test (nat_lt s from)
    (λ low. ap (λ t. t && nat_lt s from) (lt-leb from s (ltb-true s from low)))
    (λ high. outside from from s (ltb-false s from high))

empty_window : (history : List Entry) (from : ℕ) → window history from from ≡ []
empty_window [] from = refl
empty_window (e ∷ es) from = ap (λ t. cond t (e ∷ window es from from) (window es from from)) (nowhere from e.start) ∙ empty_window es from

joined : (history : List Entry) (from between to : ℕ) → IsOrderly 0 history → from ≤ between → between ≤ to → summary_of history from to ≡ both_summed (summary_of history from between) (summary_of history between to)
joined history from between to order a b = same_table (summary_of history from to) (both_summed (summary_of history from between) (summary_of history between to)) (meet history from between to order a b)

-- none past the range
none_past : (history : List Entry) (at from to : ℕ) (ps : List Published) → ArePublished history at ps → to ≤ at → filter (overlaps from to) ps ≡ []
none_past history at from to [] are le = refl
none_past history at from to (p ∷ ps) are le =
    let s = are.0.start in
    let a = are.0.above in
    ap (λ t. cond (nat_lt from p.end && t) (p ∷ filter (overlaps from to) ps) (filter (overlaps from to) ps)) (le-ltb p.start to (omega (arith, s, le)))
    ∙ ap (λ t. cond t (p ∷ filter (overlaps from to) ps) (filter (overlaps from to) ps)) (and_false (nat_lt from p.end))
    ∙ none_past history p.end from to ps are.1 (omega (arith, s, a, le))

-- of ranges that begin within another one
onward : (history : List Entry) (at from to : ℕ) (ps : List Published) → IsOrderly 0 history → ArePublished history at ps → from < at → at ≤ to → to ≤ published_to at ps → IsRedoAt history to → table_between ps from to ≡ summary_of history at to
onward history at from to [] o are past low reach redo =
    ap summed_up (sym (empty_window history at)) ∙ ap (summary_of history at) (let same : at ≡ to = omega (arith, low, reach) in same)
onward history at from to (p ∷ ps) o are past low reach redo =
    let s = are.0.start in
    let a = are.0.above in
    let some = filter (overlaps from to) ps in
    let table = λ (x : Published). x.table in
    by_test (nat_lt p.start to)
    (λ inside.
    let end : p.end ≤ to = are.0.between to redo (ltb-true p.start to inside) in
    ap (λ t. summed (map table (cond (t && nat_lt p.start to) (p ∷ some) some))) (lt-ltb from p.end (omega (arith, s, a, past)))
    ∙ ap (λ t. summed (map table (cond t (p ∷ some) some))) inside
    ∙ first_summed p.table (map table some)
    ∙ ap (λ t. both_summed t (table_between ps from to)) (are.0.honest ∙ ap (λ n. summary_of history n p.end) s)
    ∙ ap (both_summed (summary_of history at p.end)) (onward history p.end from to ps o are.1 (omega (arith, s, a, past)) end reach redo)
    ∙ sym (joined history at p.end to o (omega (arith, s, a)) end))
    (λ beyond.
    let same : at ≡ to = (let b = ltb-false p.start to beyond in omega (arith, s, b, low)) in
    ap (λ ps. summed (map table ps)) (none_past history at from to (p ∷ ps) are (omega (arith, same)))
    ∙ ap summed_up (sym (empty_window history at)) ∙ ap (summary_of history at) same)

-- of a range from one redo point to another
pub together : (history : List Entry) (at from to : ℕ) (ps : List Published) → IsOrderly 0 history → ArePublished history at ps → at ≤ from → from < to → to ≤ published_to at ps → IsRedoAt history from → IsRedoAt history to → table_between ps from to ≡ summary_of history from to
together history at from to [] o are low range reach begin redo = absurd (omega (arith, low, range, reach))
together history at from to (p ∷ ps) o are low range reach begin redo =
    let s = are.0.start in
    let a = are.0.above in
    let some = filter (overlaps from to) ps in
    let table = λ (x : Published). x.table in
    by_test (nat_lt from p.end)
    (λ inside.
    let less = ltb-true from p.end inside in
    let same : p.start ≡ from = by_test (nat_lt p.start from)
    (λ below. let far = are.0.between from begin (ltb-true p.start from below) in absurd (omega (arith, far, less)))
    (λ not_below. let b = ltb-false p.start from not_below in omega (arith, s, low, b)) in
    let end : p.end ≤ to = are.0.between to redo (omega (arith, same, range)) in
    ap (λ t. summed (map table (cond (t && nat_lt p.start to) (p ∷ some) some))) inside
    ∙ ap (λ t. summed (map table (cond t (p ∷ some) some))) (lt-ltb p.start to (omega (arith, same, range)))
    ∙ first_summed p.table (map table some)
    ∙ ap (λ t. both_summed t (table_between ps from to)) (are.0.honest ∙ ap (λ n. summary_of history n p.end) same)
    ∙ ap (both_summed (summary_of history from p.end)) (onward history p.end from to ps o are.1 less end reach redo)
    ∙ sym (joined history from p.end to o (omega (arith, less)) end))
    (λ past.
    ap (λ t. summed (map table (cond (t && nat_lt p.start to) (p ∷ some) some))) past
    ∙ together history p.end from to ps o are.1 (ltb-false from p.end past) range reach begin redo)
