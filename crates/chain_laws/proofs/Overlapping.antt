-- An incremental copy over a sound one that may have ended behind its start: it is sound to the later
-- of both ends.
use Rattle.std.proofs.Common.{◌≡◌, ℕ, ◌≤◌, ◌<◌, Bool, true, false, cond, List, [], ◌∷◌, ◌⊎◌, inl, inr, Option, Some, None, unwrap_or, is_some, refl, sym, ap, subst, ◌∙◌, arith}
use Rattle.std.specs.Prelude.{◌==◌, nat_lt, nat_le, max}
use Rattle.std.specs.List.{list_any, filter}
use Rattle.std.specs.FinMap.{empty}
use Rattle.std.proofs.lemmas.Bool.{cases_lt, leb-true, ltb-true, le-leb, lt-ltb, le-ltb, and_parts, and_from, or_parts, or_right, or_from}
use Rattle.std.proofs.lemmas.List.Folds.{list_any-append}
use Rattle.lsn_core.specs.declared.ids.ForkId.{ForkId}
use Rattle.lsn_core.specs.Store.{Store}
use Rattle.lsn_core.specs.Blocks.{block_of}
use Rattle.history.specs.Entry.{Entry}
use Rattle.history.specs.Apply.{apply_all}
use Rattle.history.specs.Written.{is_redo}
use Rattle.history.specs.fuzzy_copies.Touches.{resets, settles}
use Rattle.history.specs.fuzzy_copies.Orderly.{IsOrderly}
use Rattle.history.specs.fuzzy_copies.Sound.{entries_before, state_before, window, is_in, IsSoundCopy}
use Rattle.history.specs.fuzzy_copies.Taken.{since, IsRunning}
use Rattle.history.specs.fuzzy_copies.Covers.{AreTidy}
use Rattle.history.specs.fuzzy_copies.CoverLaws.{Makes}
use Rattle.history.specs.fuzzy_copies.Increment.{MayBeKept, BlockOrigin, Copied, Kept, Raised, Missing, ForkOrigin}
use Rattle.history.proofs.fuzzy_copies.View.{middle}
use Rattle.history.proofs.fuzzy_copies.Replay.{applied_in_two}
use Rattle.history.proofs.fuzzy_copies.Taken.{in_parts, two_parts, any_weaker, same_base, none_since, same_page, none_kept, start_below, some_fork, deltas_follow}
use Rattle.history.proofs.fuzzy_copies.Kept.{entries_keep, tidy_front, tidy_behind}
use Rattle.history.proofs.fuzzy_copies.Covering.{two_ranges}
use Rattle.history.proofs.fuzzy_copies.Summaries.{unlisted_stand, below_limits}

-- ---- ranges

-- what no entry of two ranges does, none does of one that both cover
none_in_two : (t p q r : Entry → Bool) (es : List Entry) → ((e : Entry) → p e ≡ true → (q e ≡ true) ⊎ (r e ≡ true)) → list_any t (filter q es) ≡ false → list_any t (filter r es) ≡ false → list_any t (filter p es) ≡ false
none_in_two t p q r [] h one other = refl
none_in_two t p q r (e ∷ es) h one other = by (none_in_two t p q r es h (tail_none (q e) (filter q es) one) (tail_none (r e) (filter r es) other))
  where
    tail_none : (b : Bool) (ds : List Entry) → list_any t (cond b (e ∷ ds) ds) ≡ false → list_any t ds ≡ false
    tail_none true ds none = (or_parts (t e) (list_any t ds) none).1
    tail_none false ds none = none

    head_none : (b : Bool) (ds : List Entry) → b ≡ true → list_any t (cond b (e ∷ ds) ds) ≡ false → t e ≡ false
    head_none true ds is none = (or_parts (t e) (list_any t ds) none).0
    head_none false ds is none = absurd cc

    here : (q e ≡ true) ⊎ (r e ≡ true) → t e ≡ false
    here (inl is) = head_none (q e) (filter q es) is one
    here (inr is) = head_none (r e) (filter r es) is other

    by : list_any t (filter p es) ≡ false → list_any t (cond (p e) (e ∷ filter p es) (filter p es)) ≡ false
    by rest =
        elim (p e) as (λ b. p e ≡ b → list_any t (cond b (e ∷ filter p es) (filter p es)) ≡ false) [
          | true ↦ λ k. or_from (t e) (list_any t (filter p es)) (here (h e k)) rest
          | false ↦ λ k. rest
        ] refl

in_range : (from to : ℕ) (e : Entry) → from ≤ e.start → e.start < to → is_in from to e ≡ true
in_range from to e le lt = and_from (nat_le from e.start) (nat_lt e.start to) (le-leb from e.start le) (lt-ltb e.start to lt)

record IsWithin (from to : ℕ) (e : Entry) : Type 0 where
  past : from ≤ e.start
  before : e.start < to

within : (from to : ℕ) (e : Entry) → is_in from to e ≡ true → IsWithin from to e
within from to e k =
    let q = and_parts (nat_le from e.start) (nat_lt e.start to) k in
    record { past = leb-true from e.start q.0; before = ltb-true e.start to q.1 }

-- so it is of a part of a range
none_in_part : (t : Entry → Bool) (history : List Entry) (first last from to : ℕ) → first ≤ from → to ≤ last → list_any t (window history first last) ≡ false → list_any t (window history from to) ≡ false
none_in_part t history first last from to early late none =
    none_in_two t (is_in from to) (is_in first last) (is_in first last) history (λ e k.
    let i = within from to e k in
    let past = i.past in
    let before = i.before in
    inl (in_range first last e (omega (arith, past, early)) (omega (arith, before, late)))) none none

-- and of one that two ranges cover
none_over : (t : Entry → Bool) (history : List Entry) (first start stop from wide : ℕ) → first ≤ start → stop ≤ wide → list_any t (window history first from) ≡ false → list_any t (window history from wide) ≡ false → list_any t (window history start stop) ≡ false
none_over t history first start stop from wide early le before behind =
    none_in_two t (is_in start stop) (is_in first from) (is_in from wide) history (λ e k.
    let i = within start stop e k in
    let past = i.past in
    let ends = i.before in
    elim (cases_lt e.start from) [
      | inl less ↦ inl (in_range first from e (omega (arith, past, early)) less)
      | inr more ↦ inr (in_range from wide e more (omega (arith, ends, le)))
    ]) before behind

-- ---- the stores at two places

-- the store at a place, and the entries from there up to another
record Between (history : List Entry) (start end : ℕ) (last : Store) : Type 0 where
  first : Store
  defined : state_before history start ≡ Some first
  makes : Makes first (window history start end) last

between : (history : List Entry) (start end : ℕ) (last : Store) → IsOrderly 0 history → AreTidy empty history → start ≤ end → state_before history end ≡ Some last → Between history start end last
between history start end last r tidy h defined =
    let ranges = two_ranges history start end r h in
    let front = entries_before history start in
    middle (apply_all empty front) (λ s. apply_all s (window history start end)) last (sym (ap (apply_all empty) ranges.early ∙ applied_in_two empty front (window history start end)) ∙ defined) (λ first before done.
    record {
      first = first;
      defined = before;
      makes = record {
        tidy = tidy_behind empty first front (window history start end)
            (subst (AreTidy empty) ranges.early (tidy_front empty (entries_before history end) (since end history) (subst (AreTidy empty) (in_parts end 0 history r) tidy))) before;
        made = done;
      };
    })

-- a block of the base that the earlier copy has as it was, and that was taken over from there
taken_over : (base prior copy : Option (List ℕ)) → is_some base ≡ true → prior ≡ base → ((page : List ℕ) → prior ≡ Some page → copy ≡ Some page) → copy ≡ base
taken_over (Some page) prior copy there e takes = takes page e
taken_over None prior copy there e takes = absurd cc

same_store : (s t : Store) (m : Option Store) → m ≡ Some s → m ≡ Some t → s ≡ t
same_store s t m e f = cc

-- ---- blocks

module _ (copy prior : Store) (history : List Entry) (first start stop from to : ℕ) (running : IsRunning history from) (tidy : AreTidy empty history) (sound : IsSoundCopy prior history start stop) (early : first ≤ start) (late : start ≤ from) (base : Store) (defined : state_before history from ≡ Some base) where
  abbrev wide : ℕ
  wide = max stop to

  orderly : IsOrderly 0 history
  orderly = running.orderly

  -- a block of the earlier store that wasn't touched or cut since
  kept_block : (fork : ForkId) (block : ℕ) → MayBeKept history first from fork block → list_any (resets fork block) (window history from wide) ≡ false → is_some (block_of base fork block) ≡ true → block_of prior fork block ≡ block_of base fork block
  kept_block fork block may none there =
      let all = between history first from base orderly tidy (omega (arith, early, late)) defined in
      let last = between history start from base orderly tidy late defined in
      let none_first = unlisted_stand all.first base (window history first from) fork block all.makes may there in
      let none_stop = none_over (resets fork block) history first start stop from wide early (omega arith) none_first none in
      let none_from = none_in_part (resets fork block) history first from start from early (omega arith) none_first in
      let makes = last.makes in
      sound.blocks fork block none_stop
      ∙ ap (λ (s : Store). block_of s fork block) (same_store sound.base last.first (state_before history start) sound.defined last.defined)
      ∙ sym (entries_keep last.first base (window history start from) fork block makes.tidy makes.made none_from)

  origin_block : (fork : ForkId) (block count : ℕ) → list_any (resets fork block) (window history from wide) ≡ false → nat_lt block count ≡ is_some (block_of base fork block) → BlockOrigin copy prior history first from to fork block count → block_of copy fork block ≡ block_of base fork block
  origin_block fork block count none reach (Copied page short is c) =
      let less = none_in_part (resets fork block) history from wide from to (omega arith) (omega arith) none in
      is ∙ same_page page c.answer (block_of base fork block) (c.copied (none_since (resets fork block) history c.seen from to orderly c.prefix less) base (same_base history c.seen from to orderly c.prefix ∙ defined)) (sym reach ∙ lt-ltb block count short) c.written
  origin_block fork block count none reach (Kept short may takes) =
      let there : is_some (block_of base fork block) ≡ true = sym reach ∙ lt-ltb block count short in
      taken_over (block_of base fork block) (block_of prior fork block) (block_of copy fork block) there (kept_block fork block may none there) takes
  origin_block fork block count none reach (Raised past low) =
      let all = between history first from base orderly tidy (omega (arith, early, late)) defined in
      let there = below_limits all.first base (window history first from) fork block low.limit all.makes low.is low.below in
      let gone : is_some (block_of base fork block) ≡ false = sym reach ∙ le-ltb block count past in
      absurd cc
  origin_block fork block count none reach (Missing past is) =
      is ∙ none_kept (block_of base fork block) (sym reach ∙ le-ltb block count past)

  -- ---- the copy

  module _ (origins : (fork : ForkId) → ForkOrigin copy prior history first from to fork) where
    own_end : list_any (λ e. e.end == to) history ≡ true
    own_end =
        let f = origins some_fork in
        let p = f.prefix in
        ap (list_any (λ e. e.end == to)) p.all ∙ list_any-append (λ e. e.end == to) f.seen p.behind ∙ or_right (list_any (λ e. e.end == to) f.seen) _ p.ends

    last_end : list_any (λ e. e.end == wide) history ≡ true
    last_end = elim (cases_lt stop to) [
      | inl less ↦ subst (λ (n : ℕ). list_any (λ e. e.end == n) history ≡ true) (let same : to ≡ wide = omega (arith, less) in same) own_end
      | inr more ↦ subst (λ (n : ℕ). list_any (λ e. e.end == n) history ≡ true) (let same : stop ≡ wide = omega (arith, more) in same) sound.ends
    ]

    below_own : from < to
    below_own = let f = origins some_fork in start_below history f.seen from to orderly f.prefix

    over_base : IsSoundCopy copy history from wide
    over_base = record {
      base = base;
      defined = defined;
      blocks = λ fork block none.
          let f = origins fork in
          let l = f.listed in
          let less = none_in_part (resets fork block) history from wide from to (omega arith) (omega arith) none in
          origin_block fork block (unwrap_or f.found 0) none
          (l.reached block (none_since (resets fork block) history f.seen from to orderly f.prefix less) base (same_base history f.seen from to orderly f.prefix ∙ defined)) (f.blocks block);
      forks = λ fork none.
          let f = origins fork in
          let l = f.listed in
          let less = none_in_part (settles fork) history from wide from to (omega arith) (omega arith) none in
          f.there ∙ l.there (none_since (settles fork) history f.seen from to orderly f.prefix less) base (same_base history f.seen from to orderly f.prefix ∙ defined);
      deltas = deltas_follow history from wide running;
      starts = any_weaker (λ d. d.start == from) (λ d. is_redo d.act) history running.redo;
      ends = last_end;
      above = omega (arith, below_own);
    }

-- ---- the law

pub overlapping_sound : (copy prior : Store) (history : List Entry) (first start stop from to : ℕ) → IsRunning history from → AreTidy empty history → IsSoundCopy prior history start stop → first ≤ start → start ≤ from
    → ((fork : ForkId) → ForkOrigin copy prior history first from to fork) → IsSoundCopy copy history from (max stop to)
overlapping_sound copy prior history first start stop from to running tidy sound early late origins =
    middle (state_before history from) (λ t. apply_all t (since from history)) running.store (sym (two_parts from history running.orderly) ∙ running.defined) (λ base defined _.
    over_base copy prior history first start stop from to running tidy sound early late base defined origins)
