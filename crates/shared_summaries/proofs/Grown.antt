-- What is kept of an area of summaries grows, but for what is old.
use Rattle.std.proofs.Common.{◌≡◌, ◌⊎◌, inl, inr, ℕ, ◌<◌, ◌≤◌, Bool, true, false, cond, not, ◌&&◌, ◌||◌, List, [], ◌∷◌, ◌++◌, refl, sym, ap, subst, ◌∙◌, arith, append_assoc, true≢false}
use Rattle.std.specs.List.{list_any, filter}
use Rattle.std.specs.Prelude.{nat_le, nat_lt}
use Rattle.std.proofs.lemmas.Bool.{cases_lt, le-leb, lt-ltb, ltb-true}
use Rattle.std.proofs.lemmas.List.{append-nil}
use Rattle.std.proofs.lemmas.List.Elements.{filter-append}
use Rattle.std.proofs.lemmas.List.Folds.{list_any-append}
use Rattle.history.specs.Entry.{Entry}
use Rattle.wal_summary.specs.declared.summary.Summary.{Summary}
use Rattle.wal_summary.specs.Kept.{covers, is_covered}
use Rattle.summary_store.specs.Kept.{end_behind}
use Rattle.summary_store.specs.Expiry.{is_old, young}
use Rattle.shared_summaries.specs.summary_publish.Entries.{first_start}
use Rattle.shared_summaries.specs.summary_publish.Published.{AreNext}
use Rattle.shared_summaries.specs.Grown.{AreBehind}
use Rattle.shared_summaries.specs.Laws.{RunsBeginGrown, PublishingGrows, GapsAreOld}
use Rattle.shared_summaries.proofs.summary_publish.Ranges.{past_redo}
use Rattle.shared_summaries.proofs.summary_publish.Adding.{end_append}

-- ---- one behind the other

behind_next : (h : List Entry) (made place : ℕ) (sums : List Summary) → AreNext h made place sums → AreBehind place sums
behind_next h made place [] next = tt
behind_next h made place (s ∷ ss) next = (next.0.starts, past_redo place s.end.0 h next.0.ends, behind_next h made s.end.0 ss next.1)

behind_append : (place : ℕ) (xs ys : List Summary) → AreBehind place xs → AreBehind (end_behind place xs) ys → AreBehind place (xs ++ ys)
behind_append place [] ys a b = b
behind_append place (x ∷ xs) ys a b = (a.0, a.1, behind_append x.end.0 xs ys a.2 b)

-- what is published isn't old
not_old : (limit made : ℕ) → limit ≤ made → (b : Bool) → nat_lt made limit ≡ b → not (nat_lt made limit) ≡ true
not_old limit made le true e = absurd (let lt = ltb-true made limit e in omega (arith, lt, le))
not_old limit made le false e = ap not e

young_next : (limit : ℕ) (h : List Entry) (made place : ℕ) (sums : List Summary) → limit ≤ made → AreNext h made place sums → young limit sums ≡ sums
young_next limit h made place [] le next = refl
young_next limit h made place (s ∷ ss) le next =
    let at = next.0.at in
    ap (λ b. cond b (s ∷ young limit ss) (young limit ss)) (not_old limit s.made (omega (arith, le, at)) (nat_lt s.made limit) refl)
    ∙ ap (λ l. s ∷ l) (young_next limit h made s.end.0 ss le next.1)

young_append : (limit : ℕ) (xs ys : List Summary) → young limit (xs ++ ys) ≡ young limit xs ++ young limit ys
young_append limit xs ys = filter-append (λ s. not (is_old limit s)) xs ys

-- ---- laws

pub runs_begin_grown : RunsBeginGrown
runs_begin_grown first limit begun = record {
  more = [];
  behind = tt;
  added = refl;
  young_are = ap (young limit) (sym (append-nil begun));
  end = λ low. ap (end_behind low) (sym (append-nil begun));
}

pub publishing_grows : PublishingGrows
publishing_grows limit h made begun kept sums now le g next same end =
    let first = first_start h in
    let more = g.more in
    let start : end_behind first kept ≡ end_behind (end_behind first begun) more = g.end first ∙ end_append first begun more in
    record {
      more = more ++ sums;
      behind = behind_append (end_behind first begun) more sums g.behind (subst (λ n. AreBehind n sums) start (behind_next h made (end_behind first kept) sums next));
      added = young_append limit more sums ∙ ap (λ l. l ++ young limit sums) g.added ∙ ap (λ l. more ++ l) (young_next limit h made (end_behind first kept) sums le next);
      young_are = same ∙ young_append limit kept sums ∙ ap (λ l. l ++ young limit sums) g.young_are ∙ sym (young_append limit (begun ++ more) sums)
          ∙ ap (young limit) (append_assoc begun more sums);
      end = λ low. end low ∙ end_append low kept sums ∙ ap (λ n. end_behind n sums) (g.end low) ∙ sym (end_append low (begun ++ more) sums)
          ∙ ap (end_behind low) (append_assoc begun more sums);
    }

-- ---- gaps

no_some : (a b : Bool) → (a || b) ≡ false → (a ≡ false) × (b ≡ false)
no_some true b e = absurd (true≢false e)
no_some false b e = (refl, e)

or_this : (a b : Bool) → a ≡ true → (a || b) ≡ true
or_this true b h = refl
or_this false b h = absurd cc

or_that : (a b : Bool) → b ≡ true → (a || b) ≡ true
or_that true b h = refl
or_that false b h = h

both_true : (a b : Bool) → a ≡ true → b ≡ true → (a && b) ≡ true
both_true true b h k = k
both_true false b h k = absurd cc

behind_covers : (place p : ℕ) (sums : List Summary) → AreBehind place sums → place ≤ p → p < end_behind place sums → is_covered sums p ≡ true
behind_covers place p [] behind le lt = absurd (omega (arith, le, lt))
behind_covers place p (s ∷ ss) behind le lt =
    let same = behind.0 in
    elim (cases_lt p s.end.0) [
      | inl less ↦ or_this (covers p s) (is_covered ss p) (both_true (nat_le s.start.0 p) (nat_lt p s.end.0) (le-leb s.start.0 p (omega (arith, same, le))) (lt-ltb p s.end.0 less))
      | inr more ↦ or_that (covers p s) (is_covered ss p) (behind_covers s.end.0 p ss behind.2 more lt)
    ]

end_with : (a b : ℕ) (kept : List Summary) → a < end_behind b kept → (a < end_behind 0 kept) ⊎ (a < b)
end_with a b [] lt = inr lt
end_with a b (s ∷ ss) lt = inl lt

fewer_none : (p q : Summary → Bool) (xs : List Summary) → list_any p xs ≡ false → list_any p (filter q xs) ≡ false
fewer_none p q [] e = refl
fewer_none p q (x ∷ xs) e =
    let both = no_some (p x) (list_any p xs) e in
    step (q x) both.0 (fewer_none p q xs both.1)
  where
    step : (b : Bool) → p x ≡ false → list_any p (filter q xs) ≡ false → list_any p (cond b (x ∷ filter q xs) (filter q xs)) ≡ false
    step true is rest = ap (λ c. c || list_any p (filter q xs)) is ∙ rest
    step false is rest = rest

pub gaps_are_old : GapsAreOld
gaps_are_old first limit begun now from to place g reach gap =
    let more = g.more in
    let few : is_covered (young limit now) place ≡ false = fewer_none (covers place) (λ s. not (is_old limit s)) now gap.uncovered in
    let parts : young limit now ≡ young limit begun ++ more = g.young_are ∙ young_append limit begun more ∙ ap (λ l. young limit begun ++ l) g.added in
    let none = no_some (is_covered (young limit begun) place) (is_covered more place) (sym (ap (λ l. is_covered l place) parts ∙ list_any-append (covers place) (young limit begun) more) ∙ few) in
    let end : end_behind first now ≡ end_behind (end_behind first begun) more = g.end first ∙ end_append first begun more in
    let below = gap.below in
    record {
      later = gap.later;
      below = gap.below;
      uncovered = none.0;
      old = elim (cases_lt place (end_behind first begun)) [
        | inl lt ↦ end_with place first begun lt
        | inr le ↦ absurd (true≢false (sym (behind_covers (end_behind first begun) place more g.behind le (omega (arith, below, reach, end))) ∙ none.1))
      ];
    }
