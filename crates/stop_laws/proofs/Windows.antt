-- A history that goes on tidily from a place has its window there, and with more entries more changes.
use Rattle.std.proofs.Common.{◌≡◌, ℕ, Bool, true, false, cond, true≢false, inl, inr, List, [], ◌∷◌, ◌++◌, refl, sym, ap, subst, ◌∙◌, arith, append-nil}
use Rattle.std.specs.Prelude.{nat_lt, nat_le}
use Rattle.std.specs.List.{list_any}
use Rattle.std.specs.FinMap.{empty}
use Rattle.std.proofs.lemmas.Bool.{le-leb, lt-ltb, or_parts}
use Rattle.std.proofs.lemmas.Bool.Decides.{leb_tells}
use Rattle.std.proofs.lemmas.List.Elements.{filter-append}
use Rattle.std.proofs.lemmas.List.Folds.{list_any-append}
use Rattle.history.specs.Entry.{Entry}
use Rattle.history.specs.Apply.{apply_all}
use Rattle.history.proofs.Stores.{by_test}
use Rattle.history.specs.fuzzy_copies.Touches.{resets, settles}
use Rattle.history.specs.fuzzy_copies.Sound.{state_before, entries_before}
use Rattle.history.specs.fuzzy_copies.Taken.{since}
use Rattle.history.specs.fuzzy_copies.Covers.{AreTidy}
use Rattle.history.proofs.fuzzy_copies.View.{middle}
use Rattle.history.proofs.fuzzy_copies.Replay.{applied_in_two}
use Rattle.history.proofs.fuzzy_copies.Taken.{rising_front, two_parts}
use Rattle.history.proofs.fuzzy_copies.Kept.{tidy_front, tidy_behind}
use Rattle.stop_laws.specs.Laws.{HistoriesHaveWindows, WindowsGrow}

-- where none starts below a place, all start there or past it
pub all_since : (from : ℕ) (es : List Entry) → entries_before es from ≡ [] → since from es ≡ es
all_since from [] late = refl
all_since from (e ∷ es) late =
    by_test (nat_lt e.start from)
    (λ below. absurd (never (entries_before es from) (sym (ap (λ (b : Bool). cond b (e ∷ entries_before es from) (entries_before es from)) below) ∙ late)))
    (λ past.
    let rest : entries_before es from ≡ [] = sym (ap (λ (b : Bool). cond b (e ∷ entries_before es from) (entries_before es from)) past) ∙ late in
    ap (λ (b : Bool). cond b (e ∷ since from es) (since from es)) (at_least e.start past) ∙ ap (λ (l : List Entry). e ∷ l) (all_since from es rest))
  where
    never : (l : List Entry) → e ∷ l ≡ [] → ⊥
    never l k = cc

    at_least : (start : ℕ) → nat_lt start from ≡ false → nat_le from start ≡ true
    at_least start past = by_test (nat_le from start) (λ k. k) (λ k. absurd (below start past k))
      where
        below : (s : ℕ) → nat_lt s from ≡ false → nat_le from s ≡ false → ⊥
        below s p k = elim (leb_tells from s) [
          | inl x ↦ true≢false (sym (le-leb from s x.1) ∙ k)
          | inr x ↦ true≢false (sym (lt-ltb s from (let n = x.1 in omega (arith, n))) ∙ p)
        ]

pub have_windows : HistoriesHaveWindows
have_windows from known later now makes late =
    let before : state_before (known ++ later) from ≡ state_before known from =
    ap (apply_all empty) (filter-append (λ (e : Entry). nat_lt e.start from) known later ∙ ap (λ (l : List Entry). entries_before known from ++ l) late ∙ append-nil (entries_before known from)) in
    let behind = all_since from later late in
    middle (apply_all empty known) (λ m. apply_all m later) now (sym (applied_in_two empty known later) ∙ makes.made) (λ mid made rest.
    middle (state_before known from) (λ t. apply_all t (since from known)) mid (sym (two_parts from known (rising_front 0 known later makes.orderly)) ∙ made) (λ store defined done.
    let tidy : AreTidy store (since from known ++ since from later) = subst (AreTidy store) (filter-append (λ (e : Entry). nat_le from e.start) known later) (makes.tidy store (before ∙ defined)) in
    record {
      store = store;
      mid = mid;
      window = record {
        made = makes.made;
        defined = defined;
        done = done;
        tidy = tidy_front store (since from known) (since from later) tidy;
        late = late;
        rest = rest;
        tidy_rest = subst (AreTidy mid) behind (tidy_behind store mid (since from known) (since from later) tidy done);
      };
    }))

-- ---- more entries

first_none : (t : Entry → Bool) (xs ys : List Entry) → list_any t (xs ++ ys) ≡ false → list_any t xs ≡ false
first_none t xs ys none = (or_parts (list_any t xs) (list_any t ys) (sym (list_any-append t xs ys) ∙ none)).0

pub grow : WindowsGrow
grow ours store entries more = record {
  ours = refl;
  store = refl;
  changed = λ fork block none. first_none (resets fork block) entries more none;
  settled = λ fork none. first_none (settles fork) entries more none;
}
