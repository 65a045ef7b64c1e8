-- What a stop left as of a place, it left as of each earlier one.
use Rattle.std.proofs.Common.{◌≡◌, ℕ, ◌≤◌, Bool, false, cond, List, [], ◌∷◌, ◌++◌, Option, Some, refl, sym, ap, subst, ◌∙◌, arith, append-nil, true≢false}
use Rattle.std.specs.Prelude.{nat_lt, nat_le}
use Rattle.std.specs.List.{list_any}
use Rattle.std.specs.FinMap.{empty}
use Rattle.std.proofs.lemmas.Bool.{or_parts, lt-ltb, ltb-true}
use Rattle.std.proofs.lemmas.List.Elements.{filter-append}
use Rattle.std.proofs.lemmas.List.Folds.{list_any-append}
use Rattle.lsn_core.specs.byte_words.Numbers.{◌>>=◌}
use Rattle.lsn_core.specs.declared.ids.ForkId.{ForkId}
use Rattle.lsn_core.specs.Files.{Files}
use Rattle.lsn_core.specs.Store.{Store}
use Rattle.lsn_core.specs.Blocks.{block_of}
use Rattle.history.specs.Entry.{Entry}
use Rattle.history.specs.Apply.{apply_all}
use Rattle.history.specs.fuzzy_copies.Touches.{resets, settles}
use Rattle.history.specs.fuzzy_copies.Orderly.{IsOrderly}
use Rattle.history.specs.fuzzy_copies.Sound.{window, state_before, entries_before}
use Rattle.history.specs.fuzzy_copies.Taken.{since}
use Rattle.history.specs.fuzzy_copies.Covers.{AreTidy}
use Rattle.history.proofs.Stores.{by_test}
use Rattle.history.proofs.fuzzy_copies.Replay.{applied_in_two}
use Rattle.history.proofs.fuzzy_copies.Taken.{in_parts, rising_front}
use Rattle.history.proofs.fuzzy_copies.Kept.{entries_keep, forks_keep, tidy_front, tidy_behind}
use Rattle.history.proofs.fuzzy_copies.Covering.{TwoRanges, two_ranges}
use Rattle.stop_areas.specs.Left.{IsLeftOf}
use Rattle.stop_laws.specs.Window.{window_base}
use Rattle.stop_comebacks.specs.Laws.{EarlierPlacesAreLeft}

-- where none of entries starts below a place, none starts below an earlier one
pub none_earlier : (from place : ℕ) (es : List Entry) → from ≤ place → entries_before es place ≡ [] → entries_before es from ≡ []
none_earlier from place [] le none = refl
none_earlier from place (e ∷ es) le none =
    by_test (nat_lt e.start place)
    (λ below. absurd (never (entries_before es place) (sym (ap (λ (b : Bool). cond b (e ∷ entries_before es place) (entries_before es place)) below) ∙ none)))
    (λ past.
    let rest : entries_before es place ≡ [] = sym (ap (λ (b : Bool). cond b (e ∷ entries_before es place) (entries_before es place)) past) ∙ none in
    ap (λ (b : Bool). cond b (e ∷ entries_before es from) (entries_before es from)) (past_too e.start past) ∙ none_earlier from place es le rest)
  where
    never : (l : List Entry) → e ∷ l ≡ [] → ⊥
    never l k = cc

    past_too : (start : ℕ) → nat_lt start place ≡ false → nat_lt start from ≡ false
    past_too start past =
        by_test (nat_lt start from)
        (λ below. absurd (true≢false (sym (lt-ltb start place (let n = ltb-true start from below in omega (arith, n, le))) ∙ past)))
        (λ no. no)

module _ (relseg q from place : ℕ) (known more : List Entry) (base store : Store) (files : Files) (r : IsOrderly 0 (known ++ more)) (tidy : AreTidy empty known) (le : from ≤ place) (late : entries_before more place ≡ [])
    (made : state_before (known ++ more) from ≡ Some base) (there : state_before known place ≡ Some store) (left : IsLeftOf relseg (window_base q place known store) files) where
  rising : IsOrderly 0 known
  rising = rising_front 0 known more r

  ranges : TwoRanges known from place
  ranges = two_ranges known from place rising le

  between : List Entry
  between = window known from place

  -- the store at the earlier place is made by the known entries alone
  made_known : state_before known from ≡ Some base
  made_known =
      sym (ap (apply_all empty) (filter-append (λ (e : Entry). nat_lt e.start from) known more ∙ ap (λ (l : List Entry). entries_before known from ++ l) (none_earlier from place more le late) ∙ append-nil (entries_before known from))) ∙ made

  done : apply_all base (window known from place) ≡ Some store
  done =
      sym (ap (apply_all empty) ranges.early ∙ applied_in_two empty (entries_before known from) (window known from place) ∙ ap (λ (m : Option Store). m >>= λ t. apply_all t (window known from place)) made_known) ∙ there

  tidy_since : AreTidy base (since from known)
  tidy_since = tidy_behind empty base (entries_before known from) (since from known) (subst (AreTidy empty) (in_parts from 0 known rising) tidy) made_known

  tidy_between : AreTidy base (window known from place)
  tidy_between = tidy_front base (window known from place) (since place known) (subst (AreTidy base) ranges.all tidy_since)

  -- what no entry from the earlier place on does, none does from the later one on, nor in between
  parts : (t : Entry → Bool) → list_any t (since from (known ++ more)) ≡ false → (list_any t (window known from place) ≡ false) × (list_any t (since place known) ≡ false)
  parts t none =
      let front = (or_parts (list_any t (since from known)) (list_any t (since from more))
      (sym (ap (list_any t) (filter-append (λ (e : Entry). nat_le from e.start) known more) ∙ list_any-append t (since from known) (since from more)) ∙ none)).0 in
      or_parts (list_any t (window known from place)) (list_any t (since place known))
      (sym (ap (list_any t) ranges.all ∙ list_any-append t (window known from place) (since place known)) ∙ front)

  same_block : (fork : ForkId) (block : ℕ) → list_any (resets fork block) (since from (known ++ more)) ≡ false → block_of store fork block ≡ block_of base fork block
  same_block fork block none = entries_keep base store (window known from place) fork block tidy_between done (parts (resets fork block) none).0

  pub still_left : IsLeftOf relseg (window_base q from (known ++ more) base) files
  still_left = record {
    pages = λ fork block page named stays. left.pages fork block page named (record {
      ours = stays.ours;
      kept = (parts (resets fork block) stays.kept).1;
      there = same_block fork block stays.kept ∙ stays.there;
    });
    missing = λ fork block named stays. left.missing fork block named (record {
      ours = stays.ours;
      kept = (parts (resets fork block) stays.kept).1;
      none = same_block fork block stays.kept ∙ stays.none;
    });
    forks = λ fork named mine unsettled.
        left.forks fork named mine (parts (settles fork) unsettled).1
        ∙ forks_keep base store (window known from place) fork tidy_between done (parts (settles fork) unsettled).0;
  }

pub earlier_left : EarlierPlacesAreLeft
earlier_left relseg q from place known more base store files r tidy le late made there left =
    still_left relseg q from place known more base store files r tidy le late made there left
