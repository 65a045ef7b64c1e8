-- Summaries of neighbouring ranges.
use Rattle.std.proofs.Common.{◌≡◌, ℕ, zero, suc, ◌-◌, ◌<◌, ◌≤◌, Bool, true, false, cond, ◌&&◌, ◌||◌, List, [], ◌∷◌, ◌++◌, map, fold, length, get_or, refl, sym, ap, subst, ◌∙◌, arith}
use Rattle.std.specs.Prelude.{nat_le, nat_lt}
use Rattle.std.specs.List.{filter, AllByRecursion}
use Rattle.std.proofs.lemmas.Bool.{lt-leb, leb-true, ltb-true, ltb-false, lt-ltb, le-ltb, or_from, and_parts, true≢false}
use Rattle.std.proofs.lemmas.List.{append-nil}
use Rattle.std.proofs.lemmas.List.Elements.{filter-append}
use Rattle.history.specs.Entry.{Entry}
use Rattle.history.specs.Whole.{entry_of}
use Rattle.history.specs.fuzzy_copies.Logged.{history_of, log_of}
use Rattle.history.specs.fuzzy_copies.Orderly.{IsOrderly}
use Rattle.history.specs.fuzzy_copies.Sound.{entries_before, is_in, window}
use Rattle.history.specs.fuzzy_copies.Summary.{table_of, summed, both_summed, summary_of}
use Rattle.history.proofs.fuzzy_copies.Summaries.{meet}
use Rattle.history.proofs.fuzzy_copies.SummedAlike.{summed_alike}
use Rattle.wal_summary.specs.declared.summary.Summary.{Summary}
use Rattle.wal_summary.specs.Summary.{IsSummary, table_of_forks, table_of_summary}
use Rattle.wal_summary.specs.Kept.{covers, is_covered, AreInOrder, overlaps, overlapping, AreNeighbours, last_made, IsCovering, AreHonest}
use Rattle.wal_summary.specs.Inside.{past}
use Rattle.wal_summary.specs.Laws.{MergesSumUpBoth, NeighboursAreMerged, CoveringsSumUp, LogsAreSummedUp, AddedEntriesKeepHonesty}
use Rattle.wal_summary.proofs.Tables.{same_table, first_summed}
use Rattle.wal_summary.proofs.Cover.{and_no_second, no_gap}

-- the summaries of two adjoining ranges
joined : (history : List Entry) (from between to : ℕ) → IsOrderly 0 history → from ≤ between → between ≤ to → summary_of history from to ≡ both_summed (summary_of history from between) (summary_of history between to)
joined history from between to order a b = same_table (summary_of history from to) (both_summed (summary_of history from between) (summary_of history between to)) (meet history from between to order a b)

pub merge_is_summary : MergesSumUpBoth
merge_is_summary history from between to first next both order a b p q r = record {
  sorted = r.sorted;
  says = r.says ∙ ap (λ t. both_summed t (table_of_forks next)) p.says ∙ ap (both_summed (summary_of history from between)) q.says ∙ sym (joined history from between to order a b);
}

-- no entry starts in a range without places
nowhere : (from s : ℕ) → (nat_le from s && nat_lt s from) ≡ false
nowhere from s =
    elim (nat_le from s) as (λ t. nat_le from s ≡ t → (t && nat_lt s from) ≡ false) [
      | true ↦ λ k. le-ltb s from (leb-true from s k)
      | false ↦ λ k. refl
    ] refl

empty_window : (history : List Entry) (from : ℕ) → window history from from ≡ []
empty_window [] from = refl
empty_window (e ∷ es) from = ap (λ t. cond t (e ∷ window es from from) (window es from from)) (nowhere from e.start) ∙ empty_window es from

neighbours_rise : (from to : ℕ) (sums : List Summary) → AreNeighbours from sums to → from ≤ to
neighbours_rise from to [] h = omega (arith, h)
neighbours_rise from to (s ∷ ss) h = let a = h.1 in let b = neighbours_rise s.end.0 to ss h.2 in omega (arith, a, b)

neighbours_say : (history : List Entry) (sums : List Summary) (from to : ℕ) → IsOrderly 0 history → AreHonest history sums → AreNeighbours from sums to → summed (map table_of_summary sums) ≡ summary_of history from to
neighbours_say history [] from to order honest h = ap (λ es. summed (map table_of es)) (sym (empty_window history from)) ∙ ap (λ n. summary_of history from n) h
neighbours_say history (s ∷ ss) from to order honest h =
    let rest = neighbours_say history ss s.end.0 to order honest.1 h.2 in
    first_summed (table_of_summary s) (map table_of_summary ss)
    ∙ ap (λ t. both_summed t (summed (map table_of_summary ss))) (honest.0.says ∙ ap (λ n. summary_of history n s.end.0) h.0)
    ∙ ap (both_summed (summary_of history from s.end.0)) rest
    ∙ sym (joined history from s.end.0 to order h.1 (neighbours_rise s.end.0 to ss h.2))

pub neighbours_merged : NeighboursAreMerged
neighbours_merged history sums from to forks order honest h p = record { sorted = p.sorted; says = p.says ∙ neighbours_say history sums from to order honest h }

some_honest : {X : Type 0} (P : X → Type 0) (p : X → Bool) (xs : List X) → AllByRecursion P xs → AllByRecursion P (filter p xs)
some_honest P p [] h = tt
some_honest P p (x ∷ xs) h = elim (p x) as (λ t. AllByRecursion P (cond t (x ∷ filter p xs) (filter p xs))) [ true ↦ (h.0, some_honest P p xs h.1) | false ↦ some_honest P p xs h.1 ]

pub covering_sums_up : CoveringsSumUp
covering_sums_up history kept from to sum order honest c =
    neighbours_merged history (overlapping from to kept) sum.start.0 sum.end.0 sum.forks order (some_honest _ (overlaps from to) kept honest) c.range c.forks

-- a log has the summaries of its history
pub logs_sum_up : LogsAreSummedUp
logs_sum_up mib found own from to forks logged p = record {
  sorted = p.sorted;
  says = p.says ∙ same_table (summary_of (map entry_of (log_of mib found own)) from to) (summary_of (history_of found own) from to) (summed_alike mib found own from to logged);
}

-- entries that start at a range's end or past it aren't in it
none_added : (from to place : ℕ) (more : List Entry) → to ≤ place → entries_before more place ≡ [] → window more from to ≡ []
none_added from to place [] le e = refl
none_added from to place (x ∷ xs) le e =
    elim (nat_lt x.start place) as (λ t. nat_lt x.start place ≡ t → cond t (x ∷ entries_before xs place) (entries_before xs place) ≡ [] → window (x ∷ xs) from to ≡ []) [
      | true ↦ λ k f. absurd cc
      | false ↦ λ k f.
          let late = ltb-false x.start place k in
          ap (λ t. cond t (x ∷ window xs from to) (window xs from to)) (and_no_second (nat_le from x.start) (nat_lt x.start to) (le-ltb x.start to (omega arith))) ∙ none_added from to place xs le f
    ] refl e

same_window : (history more : List Entry) (from to place : ℕ) → to ≤ place → entries_before more place ≡ [] → window history from to ≡ window (history ++ more) from to
same_window history more from to place le e =
    sym (filter-append (is_in from to) history more ∙ ap (λ l. window history from to ++ l) (none_added from to place more le e) ∙ append-nil (window history from to))

pub honesty_kept : AddedEntriesKeepHonesty
honesty_kept history more [] place e ends honest = tt
honesty_kept history more (s ∷ ss) place e ends honest = (
  subst (λ es. IsSummary (summed (map table_of es)) s.forks) (same_window history more s.start.0 s.end.0 place ends.0 e) honest.0,
  honesty_kept history more ss place e ends.1 honest.1,
)

-- summaries that are neighbours over a range and beyond
record AreOver (sums : List Summary) (from to : ℕ) : Type 0 where
  start : ℕ
  end : ℕ
  range : AreNeighbours start sums end
  begins : start ≤ from
  ends : to ≤ end

abbrev Covered : List Summary → ℕ → ℕ → Type 0
Covered kept from to = (p : ℕ) → from ≤ p → p < to → is_covered kept p ≡ true

-- past a place nothing that starts there overlaps
none_overlap : (low from to : ℕ) (kept : List Summary) → AreInOrder low kept → to ≤ low → overlapping from to kept ≡ []
none_overlap low from to [] h le = refl
none_overlap low from to (s ∷ ss) h le =
    let a = h.0 in
    let b = h.1 in
    ap (λ t. cond t (s ∷ overlapping from to ss) (overlapping from to ss)) (and_no_second (nat_lt from s.end.0) (nat_lt s.start.0 to) (le-ltb s.start.0 to (omega arith)))
    ∙ none_overlap s.end.0 from to ss h.3 (omega arith)

-- a lower beginning changes nothing for those that start behind both
same_overlap : (low from next to : ℕ) (kept : List Summary) → AreInOrder low kept → from ≤ low → next ≤ low → overlapping from to kept ≡ overlapping next to kept
same_overlap low from next to [] h le ge = refl
same_overlap low from next to (s ∷ ss) h le ge =
    let a = h.0 in
    let b = h.1 in
    let rest = same_overlap s.end.0 from next to ss h.3 (omega arith) (omega arith) in
    let test : overlaps from to s ≡ overlaps next to s = ap (λ t. t && nat_lt s.start.0 to) (lt-ltb from s.end.0 (omega arith) ∙ sym (lt-ltb next s.end.0 (omega arith))) in
    ap (λ t. cond t (s ∷ overlapping from to ss) (overlapping from to ss)) test ∙ ap (λ l. cond (overlaps next to s) (s ∷ l) l) rest

-- below the first range nothing is covered
not_covered : (low p : ℕ) (kept : List Summary) → AreInOrder low kept → p < low → is_covered kept p ≡ false
not_covered low p [] h lt = refl
not_covered low p (s ∷ ss) h lt =
    let a = h.0 in
    let b = h.1 in
    or_from (covers p s) (is_covered ss p) (ap (λ t. t && nat_lt p s.end.0) (lt-leb s.start.0 p (omega arith))) (not_covered s.end.0 p ss h.3 (omega arith))

or_other : (a b : Bool) → a ≡ false → (a || b) ≡ true → b ≡ true
or_other true b e f = absurd cc
or_other false b e f = f

-- what is covered past a summary's end is covered by those behind it
covered_behind : (s : Summary) (ss : List Summary) (from next to : ℕ) → from ≤ next → s.end.0 ≤ next → Covered (s ∷ ss) from to → Covered ss next to
covered_behind s ss from next to le ge all p a b =
    or_other (covers p s) (is_covered ss p) (and_no_second (nat_le s.start.0 p) (nat_lt p s.end.0) (le-ltb p s.end.0 (omega arith))) (all p (omega arith) b)

-- the summary that covers the first place
covers_first : (s : Summary) (ss : List Summary) (from to : ℕ) → AreInOrder s.end.0 ss → from < s.end.0 → from < to → Covered (s ∷ ss) from to → s.start.0 ≤ from
covers_first s ss from to h lt range all =
    elim (covers from s) as (λ t. covers from s ≡ t → s.start.0 ≤ from) [
      | true ↦ λ k. leb-true s.start.0 from (and_parts (nat_le s.start.0 from) (nat_lt from s.end.0) k).0
      | false ↦ λ k. absurd (true≢false (sym (all from (omega arith) range) ∙ or_from (covers from s) (is_covered ss from) k (not_covered s.end.0 from ss h lt)))
    ] refl

-- those that overlap start where the first of all does, or past it
late : (low next from to : ℕ) (kept : List Summary) → low ≤ next → AreInOrder next kept → AllByRecursion (λ x. low ≤ x.start.0) (overlapping from to kept)
late low next from to [] le h = tt
late low next from to (s ∷ ss) le h =
    let a = h.0 in
    let b = h.1 in
    let rest = late low s.end.0 from to ss (omega arith) h.3 in
    elim (overlaps from to s) as (λ t. AllByRecursion (λ (x : Summary). low ≤ x.start.0) (cond t (s ∷ overlapping from to ss) (overlapping from to ss))) [ true ↦ (omega arith, rest) | false ↦ rest ]

-- one more before them
behind : (s : Summary) (os : List Summary) (from to : ℕ) → s.start.0 ≤ from → s.start.0 < s.end.0 → s.end.0 < to → AllByRecursion (λ x. s.end.0 ≤ x.start.0) os → AreOver os s.end.0 to → AreOver (s ∷ os) from to
behind s [] from to a b c later o = absurd (let i = o.range in let j = o.begins in let k = o.ends in omega arith)
behind s (x ∷ xs) from to a b c later o =
    let i = o.range.0 in
    let j = o.begins in
    let k = later.0 in
    let e : o.start ≡ s.end.0 = omega arith in
    record { start = s.start.0; end = o.end; range = (refl, omega arith, subst (λ n. AreNeighbours n (x ∷ xs) o.end) e o.range); begins = a; ends = o.ends }

-- of kept summaries that cover a range, those that overlap it are neighbours
over : (low from to : ℕ) (kept : List Summary) → AreInOrder low kept → from < to → Covered kept from to → AreOver (overlapping from to kept) from to
over low from to [] h range all = absurd (let e = all from (omega arith) range in cc)
over low from to (s ∷ ss) h range all =
    let some = h.1 in
    elim (nat_lt from s.end.0) as (λ t. nat_lt from s.end.0 ≡ t → AreOver (cond (t && nat_lt s.start.0 to) (s ∷ overlapping from to ss) (overlapping from to ss)) from to) [
      | true ↦ λ k.
          let lt = ltb-true from s.end.0 k in
          let begins = covers_first s ss from to h.3 lt range all in
          subst (λ t. AreOver (cond t (s ∷ overlapping from to ss) (overlapping from to ss)) from to) (sym (lt-ltb s.start.0 to (omega arith)))
          (elim (nat_lt s.end.0 to) as (λ t. nat_lt s.end.0 to ≡ t → AreOver (s ∷ overlapping from to ss) from to) [
            | true ↦ λ j.
                let more = ltb-true s.end.0 to j in
                let rest = over s.end.0 s.end.0 to ss h.3 more (covered_behind s ss from s.end.0 to (omega arith) (omega arith) all) in
                behind s (overlapping from to ss) from to begins some more (late s.end.0 s.end.0 from to ss (omega arith) h.3)
                (subst (λ l. AreOver l s.end.0 to) (same_overlap s.end.0 s.end.0 from to ss h.3 (omega arith) (omega arith)) rest)
            | false ↦ λ j.
                let less = ltb-false s.end.0 to j in
                subst (λ l. AreOver (s ∷ l) from to) (sym (none_overlap s.end.0 from to ss h.3 less))
                record { start = s.start.0; end = s.end.0; range = (refl, omega arith, refl); begins = begins; ends = less }
          ] refl)
      | false ↦ λ k.
          let ge = ltb-false from s.end.0 k in
          over s.end.0 from to ss h.3 range (covered_behind s ss from from to (omega arith) ge all)
    ] refl

-- the ends of neighbours
first_is : (sums : List Summary) (a z : ℕ) (d : Summary) → AreNeighbours a sums z → 0 < length sums → (get_or sums 0 d).start.0 ≡ a
first_is [] a z d h lt = absurd (omega (arith, lt))
first_is (s ∷ ss) a z d h lt = h.0

last_is : (sums : List Summary) (n a z : ℕ) (d : Summary) → length sums ≡ suc n → AreNeighbours a sums z → (get_or sums n d).end.0 ≡ z
last_is [] n a z d len h = absurd (omega (arith, len))
last_is (s ∷ []) zero a z d len h = h.2
last_is (s ∷ []) (suc n) a z d len h = absurd (omega (arith, len))
last_is (s ∷ t ∷ ss) zero a z d len h = absurd (omega (arith, len))
last_is (s ∷ t ∷ ss) (suc n) a z d len h = last_is (t ∷ ss) n s.end.0 z d (omega (arith, len)) h.2

made_is : (sums : List Summary) (n : ℕ) (d : Summary) → length sums ≡ suc n → (get_or sums n d).made ≡ last_made sums
made_is [] n d len = absurd (omega (arith, len))
made_is (s ∷ []) zero d len = refl
made_is (s ∷ []) (suc n) d len = absurd (omega (arith, len))
made_is (s ∷ t ∷ ss) zero d len = absurd (omega (arith, len))
made_is (s ∷ t ∷ ss) (suc n) d len = made_is (t ∷ ss) n d (omega (arith, len))

some_over : (sums : List Summary) (from to : ℕ) → from < to → AreOver sums from to → 0 < length sums
some_over [] from to range o = absurd (let i = o.range in let j = o.begins in let k = o.ends in omega arith)
some_over (s ∷ ss) from to range o = omega arith

-- where the walk passes a range, something overlaps it
pub some_parts : (from to place : ℕ) (kept os : List Summary) → AreInOrder 0 kept → from < to → place ≡ fold past from kept → to ≤ place → os ≡ overlapping from to kept → 0 < length os
some_parts from to place kept os order range walked passed is =
    subst (λ l. 0 < length l) (sym is) (some_over (overlapping from to kept) from to range (over 0 from to kept order range (no_gap from to kept place order walked passed)))

-- what the code answers of those that overlap
pub covering_is : (from to place : ℕ) (kept os : List Summary) (first last sum : Summary) → AreInOrder 0 kept → from < to → place ≡ fold past from kept → to ≤ place → os ≡ overlapping from to kept
    → first ≡ get_or os 0 first → last ≡ get_or os (length os - 1) last → (sum.start.0 ≡ first.start.0) × (sum.end.0 ≡ last.end.0) × (sum.made ≡ last.made)
    → IsSummary (summed (map table_of_summary os)) sum.forks → IsCovering kept from to sum
covering_is from to place kept os first last sum order range walked passed is at_first at_last head forks =
    let all = no_gap from to kept place order walked passed in
    let some = some_parts from to place kept os order range walked passed is in
    let o : AreOver os from to = subst (λ l. AreOver l from to) (sym is) (over 0 from to kept order range all) in
    let a : o.start ≡ sum.start.0 = sym (head.0 ∙ ap (λ (s : Summary). s.start.0) at_first ∙ first_is os o.start o.end first o.range some) in
    let z : o.end ≡ sum.end.0 = sym (head.1 ∙ ap (λ (s : Summary). s.end.0) at_last ∙ last_is os (length os - 1) o.start o.end last (omega (arith, some)) o.range) in
    record {
      covered = all;
      range = subst (λ l. AreNeighbours sum.start.0 l sum.end.0) is (subst (λ n. AreNeighbours sum.start.0 os n) z (subst (λ n. AreNeighbours n os o.end) a o.range));
      begins = subst (λ n. n ≤ from) a o.begins;
      ends = subst (λ n. to ≤ n) z o.ends;
      made = head.2 ∙ ap (λ (s : Summary). s.made) at_last ∙ made_is os (length os - 1) last (omega (arith, some)) ∙ ap last_made is;
      forks = subst (λ l. IsSummary (summed (map table_of_summary l)) sum.forks) is forks;
    }
