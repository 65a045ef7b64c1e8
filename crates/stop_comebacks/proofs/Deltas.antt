-- What a run writes as a delta follows an image or a cut of its block, from where replay starts on.
use Rattle.std.proofs.Common.{◌≡◌, ℕ, ◌<◌, ◌≤◌, inl, inr, Bool, true, false, cond, true≢false, not, ◌&&◌, ◌||◌, List, [], ◌∷◌, ◌++◌, map, Some, None, refl, sym, ap, subst, ◌∙◌, arith, eqb-true, eq-eqb}
use Rattle.std.specs.Prelude.{◌==◌, nat_le, nat_lt}
use Rattle.std.specs.List.{list_any}
use Rattle.std.specs.FinMap.{empty}
use Rattle.std.proofs.Math.Bool.{or-true}
use Rattle.std.proofs.lemmas.Bool.{and_parts, or_parts, or_left, or_right, ltb-true, lt-ltb}
use Rattle.lsn_core.specs.byte_words.Numbers.{◌>>=◌}
use Rattle.lsn_core.specs.declared.ids.ForkId.{ForkId}
use Rattle.lsn_core.specs.Blocks.{block_of}
use Rattle.lsn_core.specs.Tip.{Tip, tip_with}
use Rattle.history.specs.declared.op.Item.{Item}
use Rattle.history.specs.Entry.{Act, Create, Truncate, Change, Drop, Mark, Entry, is_of_run}
use Rattle.history.specs.Apply.{edited, apply_all}
use Rattle.history.specs.Written.{is_redo, tip_over, tip_past}
use Rattle.history.specs.fuzzy_copies.Touches.{is_at, act_touches, act_cuts, act_patches, resets}
use Rattle.history.specs.fuzzy_copies.Effects.{Effect, Clear, Stay, act_effects, effects_on, item_effect}
use Rattle.history.specs.fuzzy_copies.Orderly.{IsOrderly}
use Rattle.history.specs.fuzzy_copies.Sound.{block_lsn, entries_before, is_in, lsn_after, redo_point, state_before, window, IsWrittenAsDelta}
use Rattle.history.specs.fuzzy_copies.Taken.{since}
use Rattle.history.proofs.Stores.{by_test}
use Rattle.history.proofs.fuzzy_copies.Completed.{by_effect, or_second}
use Rattle.history.proofs.fuzzy_copies.OneBlock as one
use Rattle.history.proofs.fuzzy_copies.OneBlock.{EndsBy}
use Rattle.history.proofs.fuzzy_copies.Ranges.{IsBoundary, start_behind, boundary_start, all_end_by, and_false}
use Rattle.history.proofs.fuzzy_copies.Replay.{view, no_newer, none_newer}
use Rattle.history.proofs.fuzzy_copies.Taken.{and_true, any_weaker, rest_rising, rising_front, two_parts}
use Rattle.history.proofs.fuzzy_copies.View.{entries_view, middle}
use Rattle.stop_comebacks.specs.Deltas.{is_mark_at, IsRedoPlace}

-- ---- a page's LSN

untouched_items : (top : ℕ) (fork : ForkId) (block end : ℕ) (items : List Item) (xs : List Effect) → list_any (is_at fork block) items ≡ false → EndsBy top xs → EndsBy top (map (item_effect fork block end) items ++ xs)
untouched_items top fork block end [] xs none b = b
untouched_items top fork block end (item ∷ items) xs none b =
    let p = or_parts (is_at fork block item) (list_any (is_at fork block) items) none in
    let rest = untouched_items top fork block end items xs p.1 b in
    by_effect (EndsBy top) fork block end item (map (item_effect fork block end) items ++ xs) (λ at. absurd (true≢false (sym at ∙ p.0))) (λ _. rest) (λ _. rest)

untouched_act : (top : ℕ) (fork : ForkId) (block end : ℕ) (act : Act) (xs : List Effect) → (act_touches fork block act || act_cuts fork block act) ≡ false → EndsBy top xs → EndsBy top (act_effects fork block end act ++ xs)
untouched_act top fork block end (Create made) xs none b = b
untouched_act top fork block end (Truncate rel count) xs none b = subst (λ s. EndsBy top (cond s Clear Stay ∷ xs)) (sym none) b
untouched_act top fork block end (Change items) xs none b = untouched_items top fork block end items xs (or_parts (list_any (is_at fork block) items) false none).0 b
untouched_act top fork block end (Drop rels) xs none b = subst (λ s. EndsBy top (cond s Clear Stay ∷ xs)) (sym none) b
untouched_act top fork block end (Mark marking) xs none b = b

untouched : (top : ℕ) (fork : ForkId) (block : ℕ) (es : List Entry) → list_any (resets fork block) es ≡ false → EndsBy top (effects_on fork block es)
untouched top fork block [] none = tt
untouched top fork block (e ∷ es) none =
    let p = or_parts (resets fork block e) (list_any (resets fork block) es) none in
    untouched_act top fork block e.end e.act (effects_on fork block es) p.0 (untouched top fork block es p.1)

-- a block that no entry from a place on touches or cuts has an LSN up to it
lsn_up_to : (from : ℕ) (before : List Entry) (fork : ForkId) (block : ℕ) → IsOrderly 0 before → IsBoundary from before → list_any (resets fork block) (since from before) ≡ false → lsn_after before fork block ≤ from
lsn_up_to from before fork block r b none =
    elim (apply_all empty before) as (λ m. apply_all empty before ≡ m → block_lsn (m >>= λ store. block_of store fork block) ≤ from) [
      | None ↦ λ e. omega arith
      | Some s ↦ λ e. middle (state_before before from) (λ t. apply_all t (since from before)) s (sym (two_parts from before r) ∙ e) (λ t first rest.
          one.lsn_after from (effects_on fork block (since from before)) (block_of t fork block) (block_of s fork block)
          (no_newer from empty t (entries_before before from) (none_newer from) (all_end_by (λ e. nat_lt e.start from) from before (λ e k. ltb-true e.start from k) b) (view empty t (entries_before before from) first) fork block)
          (untouched from fork block (since from before) none) (entries_view edited t s (since from before) (view t s (since from before) rest) fork block))
    ] refl

-- ---- the latest redo point

redo_kept : (from last : ℕ) (tip : Tip) (es : List Entry) → IsOrderly last es → from ≤ last → from ≤ tip.redo → from ≤ (tip_over tip es).redo
redo_kept from last tip [] r h k = k
redo_kept from last tip (e ∷ es) r h k =
    let start = r.0 in
    let long = r.1 in
    redo_kept from e.end (tip_past tip e) es r.3 (omega (arith, start, long, h)) (by ((tip.count == 0) || is_redo e.act))
  where
    by : (b : Bool) → from ≤ cond b e.start tip.redo
    by true = let start = r.0 in omega (arith, start, h)
    by false = k

redo_found : (from last : ℕ) (tip : Tip) (es : List Entry) → IsOrderly last es → list_any (is_mark_at from) es ≡ true → from ≤ (tip_over tip es).redo
redo_found from last tip [] r h = absurd (true≢false (sym h))
redo_found from last tip (e ∷ es) r h =
    by_test (is_mark_at from e)
    (λ k.
    let p = and_parts (e.start == from) (is_redo e.act) k in
    let i : e.start ≡ from = eqb-true e.start from p.0 in
    let redo : (tip_past tip e).redo ≡ e.start = ap (λ b. cond ((tip.count == 0) || b) e.start tip.redo) p.1 ∙ ap (λ b. cond b e.start tip.redo) (or-true (tip.count == 0)) in
    let long = r.1 in
    redo_kept from e.end (tip_past tip e) es r.3 (omega (arith, i, long)) (omega (arith, redo, i)))
    (λ k. redo_found from e.end (tip_past tip e) es r.3 (or_second (is_mark_at from e) (list_any (is_mark_at from) es) h k))

redo_before : (from last : ℕ) (before : List Entry) (e : Entry) (later : List Entry) → IsOrderly last (before ++ (e ∷ later)) → from ≤ e.start → is_redo e.act ≡ false
    → list_any (is_mark_at from) (before ++ (e ∷ later)) ≡ true → list_any (is_mark_at from) before ≡ true
redo_before from last [] e later r h other any =
    let not_here : is_mark_at from e ≡ false = ap (λ b. (e.start == from) && b) other ∙ and_false (e.start == from) in
    let there = or_second (is_mark_at from e) (list_any (is_mark_at from) later) any not_here in
    let past = start_behind from e.end later r.3 (any_weaker (λ d. d.start == from) (λ d. is_redo d.act) later there) in
    let long = r.1 in
    absurd (omega (arith, long, past, h))
redo_before from last (x ∷ before) e later r h other any =
    by_test (is_mark_at from x)
    (λ k. or_left (is_mark_at from x) (list_any (is_mark_at from) before) k)
    (λ k. or_right (is_mark_at from x) (list_any (is_mark_at from) before) (redo_before from x.end before e later r.3 h other (or_second (is_mark_at from x) (list_any (is_mark_at from) (before ++ (e ∷ later))) any k)))

patch_no_redo : (fork : ForkId) (block : ℕ) (act : Act) → act_patches fork block act ≡ true → is_redo act ≡ false
patch_no_redo fork block (Create made) e = refl
patch_no_redo fork block (Truncate rel count) e = refl
patch_no_redo fork block (Change items) e = refl
patch_no_redo fork block (Drop rels) e = refl
patch_no_redo fork block (Mark marking) e = absurd (true≢false (sym e))

-- ---- an own delta

first_redo : (from : ℕ) (x : Entry) (xs : List Entry) → IsOrderly 0 (x ∷ xs) → x.start ≡ from → from ≤ redo_point (x ∷ xs)
first_redo from x xs r is =
    let long = r.1 in
    redo_kept from x.end (tip_past (tip_with 0 0 0 0) x) xs r.3 (omega (arith, is, long)) (omega (arith, is))

record Behind (from : ℕ) (before : List Entry) : Type 0 where
  low : from ≤ redo_point before
  boundary : IsBoundary from before

place_before : (from : ℕ) (before : List Entry) (e : Entry) (later : List Entry) (fork : ForkId) (block : ℕ) → IsOrderly 0 (before ++ (e ∷ later)) → IsRedoPlace from (before ++ (e ∷ later)) → from ≤ e.start → is_redo e.act ≡ false → redo_point before < lsn_after before fork block
    → Behind from before
place_before from [] e later fork block r place start other above = absurd (let none = none_newer 0 fork block in omega (arith, above, none))
place_before from (x ∷ xs) e later fork block r (inl is) start other above =
    let rising = rising_front 0 (x ∷ xs) (e ∷ later) r in
    record {
      low = first_redo from x xs rising is;
      boundary = boundary_start from 0 (x ∷ xs) rising (or_left (x.start == from) (list_any (λ d. d.start == from) xs) (eq-eqb x.start from is));
    }
place_before from (x ∷ xs) e later fork block r (inr any) start other above =
    let rising = rising_front 0 (x ∷ xs) (e ∷ later) r in
    let redo = redo_before from 0 (x ∷ xs) e later r start other any in
    record {
      low = redo_found from 0 (tip_with 0 0 0 0) (x ∷ xs) rising redo;
      boundary = boundary_start from 0 (x ∷ xs) rising (any_weaker (λ d. d.start == from) (λ d. is_redo d.act) (x ∷ xs) redo);
    }

pub own_delta : (from : ℕ) (before : List Entry) (e : Entry) (later : List Entry) (fork : ForkId) (block : ℕ) → IsOrderly 0 (before ++ (e ∷ later)) → IsRedoPlace from (before ++ (e ∷ later)) → from ≤ e.start → is_of_run e ≡ true → IsWrittenAsDelta before e fork block
    → list_any (resets fork block) (since from before) ≡ true
own_delta from before e later fork block r place start own delta =
    let above : redo_point before < lsn_after before fork block =
    ltb-true (redo_point before) (lsn_after before fork block) (sym (ap (λ b. not b || nat_lt (redo_point before) (lsn_after before fork block)) own) ∙ delta.1) in
    let b = place_before from before e later fork block r place start (patch_no_redo fork block e.act delta.0) above in
    by_test (list_any (resets fork block) (since from before)) (λ k. k)
    (λ none.
    let most = lsn_up_to from before fork block (rising_front 0 before (e ∷ later) r) b.boundary none in
    let low = b.low in
    absurd (omega (arith, above, most, low)))

-- before an entry that starts below a place all entries do
pub window_all : (from to last : ℕ) (before : List Entry) (e : Entry) (later : List Entry) → IsOrderly last (before ++ (e ∷ later)) → e.start < to → window before from to ≡ since from before
window_all from to last [] e later r less = refl
window_all from to last (x ∷ before) e later r less =
    let l = rest_rising x.end before (e ∷ later) r.3 in
    let long = r.1 in
    let between = l.later in
    let first = l.orderly.0 in
    let below : x.start < to = omega (arith, long, between, first, less) in
    let same : is_in from to x ≡ nat_le from x.start = ap (λ s. nat_le from x.start && s) (lt-ltb x.start to below) ∙ and_true (nat_le from x.start) in
    let rest = window_all from to x.end before e later r.3 less in
    ap (λ (b : Bool). cond b (x ∷ window before from to) (window before from to)) same ∙ ap (λ (l : List Entry). cond (nat_le from x.start) (x ∷ l) l) rest
