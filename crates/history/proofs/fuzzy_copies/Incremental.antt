-- An incremental copy over a sound one is sound.
use Rattle.std.proofs.Common.{◌≡◌, ℕ, ◌≤◌, Bool, true, false, cond, ◌||◌, List, [], ◌∷◌, Option, Some, None, unwrap_or, is_some, refl, sym, ap, subst, ◌∙◌, arith}
use Rattle.std.specs.Prelude.{◌==◌, nat_lt, nat_le}
use Rattle.std.specs.List.{list_any, filter}
use Rattle.std.specs.FinMap.{empty}
use Rattle.std.proofs.lemmas.Bool.{leb-true, ltb-true, le-leb, lt-ltb, le-ltb, and_parts, and_from, or_parts, or_right, or_from}
use Rattle.std.proofs.lemmas.List.Folds.{list_any-append}
use Rattle.lsn_core.specs.declared.ids.ForkId.{ForkId}
use Rattle.lsn_core.specs.Store.{Store}
use Rattle.lsn_core.specs.Blocks.{block_of}
use Rattle.history.specs.Entry.{Entry}
use Rattle.history.specs.Apply.{apply_all}
use Rattle.history.specs.Written.{is_redo}
use Rattle.history.specs.fuzzy_copies.Touches.{resets, settles}
use Rattle.history.specs.fuzzy_copies.Orderly.{IsOrderly}
use Rattle.history.specs.fuzzy_copies.Sound.{entries_before, state_before, window, is_in, IsSoundCopy}
use Rattle.history.specs.fuzzy_copies.Taken.{since}
use Rattle.history.specs.fuzzy_copies.Covers.{AreTidy}
use Rattle.history.specs.fuzzy_copies.Increment.{MayBeKept, BlockOrigin, Copied, Kept, Raised, Missing}
use Rattle.history.specs.fuzzy_copies.CoverLaws.{Makes, IncrementsAreSound}
use Rattle.history.proofs.fuzzy_copies.View.{middle}
use Rattle.history.proofs.fuzzy_copies.Replay.{applied_in_two}
use Rattle.history.proofs.fuzzy_copies.Taken.{in_parts, two_parts, any_weaker, same_base, none_since, same_page, none_kept, start_below, some_fork, deltas_follow}
use Rattle.history.proofs.fuzzy_copies.Kept.{entries_keep, tidy_front, tidy_behind}
use Rattle.history.proofs.fuzzy_copies.Covering.{two_ranges}
use Rattle.history.proofs.fuzzy_copies.Summaries.{unlisted_stand, below_limits}

tail_none : (t : Entry → Bool) (b : Bool) (e : Entry) (es : List Entry) → list_any t (cond b (e ∷ es) es) ≡ false → list_any t es ≡ false
tail_none t true e es h = (or_parts (t e) (list_any t es) h).1
tail_none t false e es h = h

-- fewer entries do less
any_sub : (t p q : Entry → Bool) (es : List Entry) → ((e : Entry) → p e ≡ true → q e ≡ true) → list_any t (filter q es) ≡ false → list_any t (filter p es) ≡ false
any_sub t p q [] h none = refl
any_sub t p q (e ∷ es) h none =
    elim (p e) as (λ b. p e ≡ b → list_any t (cond b (e ∷ filter p es) (filter p es)) ≡ false) [
      | true ↦ λ k.
          let both : (t e || list_any t (filter q es)) ≡ false = sym (ap (λ b. list_any t (cond b (e ∷ filter q es) (filter q es))) (h e k)) ∙ none in
          let r = or_parts (t e) (list_any t (filter q es)) both in
          or_from (t e) _ r.0 (any_sub t p q es h r.1)
      | false ↦ λ k. any_sub t p q es h (tail_none t (q e) e (filter q es) none)
    ] refl

-- the store at a place, and the entries from there up to another
record Between (history : List Entry) (start end : ℕ) (last : Store) : Type 0 where
  first : Store
  defined : state_before history start ≡ Some first
  makes : Makes first (window history start end) last

between : (history : List Entry) (start end : ℕ) (last : Store) → IsOrderly 0 history → AreTidy empty history → start ≤ end → state_before history end ≡ Some last → Between history start end last
between history start end last r tidy h defined =
    let ranges = two_ranges history start end r h in
    let front = entries_before history start in
    middle (apply_all empty front) (λ s. apply_all s (window history start end)) last (sym (ap (apply_all empty) ranges.early ∙ applied_in_two empty front (window history start end)) ∙ defined) (λ first before done.
    record {
      first = first;
      defined = before;
      makes = record {
        tidy = tidy_behind empty first front (window history start end)
            (subst (AreTidy empty) ranges.early (tidy_front empty (entries_before history end) (since end history) (subst (AreTidy empty) (in_parts end 0 history r) tidy))) before;
        made = done;
      };
    })

-- a block of the base that the earlier copy has as it was, and that was taken over from there
taken_over : (base prior copy : Option (List ℕ)) → is_some base ≡ true → prior ≡ base → ((page : List ℕ) → prior ≡ Some page → copy ≡ Some page) → copy ≡ base
taken_over (Some page) prior copy there e takes = takes page e
taken_over None prior copy there e takes = absurd cc

same_store : (s t : Store) (m : Option Store) → m ≡ Some s → m ≡ Some t → s ≡ t
same_store s t m e f = cc

-- what stands before the new copy: a tidy history, and a sound earlier copy
record Prior (prior : Store) (history : List Entry) (first start stop from : ℕ) (base : Store) : Type 0 where
  orderly : IsOrderly 0 history
  tidy : AreTidy empty history
  sound : IsSoundCopy prior history start stop
  early : first ≤ start
  late : stop ≤ from
  defined : state_before history from ≡ Some base

-- a block of the earlier store that wasn't touched or cut since
kept_block : (prior : Store) (history : List Entry) (first start stop from : ℕ) (base : Store) (fork : ForkId) (block : ℕ) → Prior prior history first start stop from base → MayBeKept history first from fork block
    → is_some (block_of base fork block) ≡ true → block_of prior fork block ≡ block_of base fork block
kept_block prior history first start stop from base fork block p may there =
    let sound = p.sound in
    let order = sound.above in
    let early = p.early in
    let late = p.late in
    let wide = between history first from base p.orderly p.tidy (omega arith) p.defined in
    let last = between history start from base p.orderly p.tidy (omega arith) p.defined in
    let none = unlisted_stand wide.first base (window history first from) fork block wide.makes may there in
    let none_from = any_sub (resets fork block) (is_in start from) (is_in first from) history (λ e k.
    let q = and_parts (nat_le start e.start) (nat_lt e.start from) k in
    and_from (nat_le first e.start) (nat_lt e.start from) (le-leb first e.start (let a = leb-true start e.start q.0 in omega arith)) q.1) none in
    let none_stop = any_sub (resets fork block) (is_in start stop) (is_in start from) history (λ e k.
    let q = and_parts (nat_le start e.start) (nat_lt e.start stop) k in
    and_from (nat_le start e.start) (nat_lt e.start from) q.0 (lt-ltb e.start from (let a = ltb-true e.start stop q.1 in omega arith))) none_from in
    let makes = last.makes in
    sound.blocks fork block none_stop
    ∙ ap (λ (s : Store). block_of s fork block) (same_store sound.base last.first (state_before history start) sound.defined last.defined)
    ∙ sym (entries_keep last.first base (window history start from) fork block makes.tidy makes.made none_from)

origin_block : (copy prior : Store) (history : List Entry) (first start stop from to : ℕ) (base : Store) (fork : ForkId) (block count : ℕ) → Prior prior history first start stop from base
    → list_any (resets fork block) (window history from to) ≡ false → nat_lt block count ≡ is_some (block_of base fork block)
    → BlockOrigin copy prior history first from to fork block count → block_of copy fork block ≡ block_of base fork block
origin_block copy prior history first start stop from to base fork block count p none reach (Copied page short is c) =
    is ∙ same_page page c.answer (block_of base fork block) (c.copied (none_since (resets fork block) history c.seen from to p.orderly c.prefix none) base (same_base history c.seen from to p.orderly c.prefix ∙ p.defined)) (sym reach ∙ lt-ltb block count short) c.written
origin_block copy prior history first start stop from to base fork block count p none reach (Kept short may takes) =
    let there : is_some (block_of base fork block) ≡ true = sym reach ∙ lt-ltb block count short in
    taken_over (block_of base fork block) (block_of prior fork block) (block_of copy fork block) there (kept_block prior history first start stop from base fork block p may there) takes
origin_block copy prior history first start stop from to base fork block count p none reach (Raised past low) =
    let sound = p.sound in
    let order = sound.above in
    let early = p.early in
    let late = p.late in
    let wide = between history first from base p.orderly p.tidy (omega arith) p.defined in
    let there = below_limits wide.first base (window history first from) fork block low.limit wide.makes low.is low.below in
    let gone : is_some (block_of base fork block) ≡ false = sym reach ∙ le-ltb block count past in
    absurd cc
origin_block copy prior history first start stop from to base fork block count p none reach (Missing past is) =
    is ∙ none_kept (block_of base fork block) (sym reach ∙ le-ltb block count past)

pub increments_sound : IncrementsAreSound
increments_sound copy prior history first start stop from to running tidy sound early late origins =
    let orderly = running.orderly in
    middle (state_before history from) (λ t. apply_all t (since from history)) running.store (sym (two_parts from history orderly) ∙ running.defined) (λ base defined _.
    let before : Prior prior history first start stop from base = record { orderly = orderly; tidy = tidy; sound = sound; early = early; late = late; defined = defined } in
    record {
      base = base;
      defined = defined;
      blocks = λ fork block none.
          let f = origins fork in
          let l = f.listed in
          origin_block copy prior history first start stop from to base fork block (unwrap_or f.found 0) before none
          (l.reached block (none_since (resets fork block) history f.seen from to orderly f.prefix none) base (same_base history f.seen from to orderly f.prefix ∙ defined)) (f.blocks block);
      forks = λ fork none.
          let f = origins fork in
          let l = f.listed in
          f.there ∙ l.there (none_since (settles fork) history f.seen from to orderly f.prefix none) base (same_base history f.seen from to orderly f.prefix ∙ defined);
      deltas = deltas_follow history from to running;
      starts = any_weaker (λ d. d.start == from) (λ d. is_redo d.act) history running.redo;
      ends = let f = origins some_fork in
          let p = f.prefix in
          ap (list_any (λ e. e.end == to)) p.all ∙ list_any-append (λ e. e.end == to) f.seen p.behind ∙ or_right (list_any (λ e. e.end == to) f.seen) _ p.ends;
      above = let f = origins some_fork in start_below history f.seen from to orderly f.prefix;
    })
