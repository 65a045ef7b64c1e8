-- A copy whose forks and blocks are each listed and copied at a moment of its own is sound.
use Rattle.std.proofs.lemmas.List.{append-nil}
use Rattle.std.proofs.lemmas.List.Elements.{filter-append}
use Rattle.std.proofs.lemmas.List.Folds.{list_any-append}
use Rattle.std.proofs.lemmas.Option.{slice_get-get_or, slice_get_past}
use Rattle.std.proofs.Common.{◌≡◌, ℕ, ◌<◌, ◌≤◌, Bool, true, false, cond, ◌&&◌, ◌||◌, List, [], ◌∷◌, ◌++◌, map, length, Option, Some, None, unwrap_or, option_map, is_some, refl, sym, ap, subst, ◌∙◌, arith}
use Rattle.std.proofs.Math.Bool.{or-true}
use Rattle.std.specs.Prelude.{◌==◌, nat_lt, nat_le, not, slice_get}
use Rattle.std.specs.List.{list_any, filter}
use Rattle.std.specs.FinMap.{empty, get}
use Rattle.std.proofs.lemmas.Bool.{eqb-true, leb-true, ltb-true, ltb-false, lt-ltb, le-ltb, and_parts, or_parts, or_left, or_right}
use Rattle.lsn_core.specs.byte_words.Numbers.{◌>>=◌}
use Rattle.lsn_core.specs.declared.ids.ForkKind.TheVariants.{Main}
use Rattle.lsn_core.specs.declared.ids.ForkId.{ForkId}
use Rattle.lsn_core.specs.Store.{Store, ForkPages}
use Rattle.lsn_core.specs.Blocks.{block_of, block_count}
use Rattle.lsn_core.specs.Tip.{Tip, tip_with}
use Rattle.pg_page.specs.Header.{zero_page}
use Rattle.history.specs.declared.op.Item.{Item}
use Rattle.history.specs.Entry.{Act, Create, Truncate, Change, Drop, Mark, Entry, is_of_run}
use Rattle.history.specs.Apply.{edited, apply_all}
use Rattle.history.specs.Written.{is_redo, tip_past, tip_over}
use Rattle.history.specs.fuzzy_copies.Touches.{is_at, resets, settles, act_touches, act_cuts, act_patches}
use Rattle.history.specs.fuzzy_copies.Effects.{Effect, Clear, Stay, item_effect, act_effects, effects_on}
use Rattle.history.specs.fuzzy_copies.Orderly.{IsOrderly, AreOwnFrom}
use Rattle.history.specs.fuzzy_copies.Sound.{entries_before, state_before, redo_point, block_lsn, lsn_after, IsWrittenAsDelta, is_logged_as_delta, window, is_in}
use Rattle.history.specs.fuzzy_copies.Taken.{since, IsSeen, IsRunning}
use Rattle.history.specs.fuzzy_copies.Laws.{TakenCopiesAreSound}
use Rattle.history.proofs.fuzzy_copies.View.{entries_view, middle}
use Rattle.history.proofs.fuzzy_copies.OneBlock.{EndsBy}
use Rattle.history.proofs.fuzzy_copies.OneBlock as one
use Rattle.history.proofs.fuzzy_copies.Completed.{by_effect, or_second}
use Rattle.history.proofs.fuzzy_copies.Ranges.{and_false, start_behind, end_behind, IsBoundary, boundary_start, cut_at, all_end_by, all_at}
use Rattle.history.proofs.fuzzy_copies.Replay.{applied_in_two, view, no_newer, none_newer}

-- the parts of a list
pub rising_front : (last : ℕ) (xs ys : List Entry) → IsOrderly last (xs ++ ys) → IsOrderly last xs
rising_front last [] ys r = tt
rising_front last (x ∷ xs) ys r = (r.0, r.1, r.2, rising_front x.end xs ys r.3)

pub record Later (last : ℕ) (es : List Entry) : Type 0 where
  pub at : ℕ
  pub later : last ≤ at
  pub orderly : IsOrderly at es

-- what stands behind rises from a later place
pub rest_rising : (last : ℕ) (xs ys : List Entry) → IsOrderly last (xs ++ ys) → Later last ys
rest_rising last [] ys r = record { at = last; later = omega arith; orderly = r }
rest_rising last (x ∷ xs) ys r = let k = rest_rising x.end xs ys r.3 in record { at = k.at; later = (let a = r.0 in let b = r.1 in let c = k.later in omega arith); orderly = k.orderly }

pub none_early : (x last : ℕ) (es : List Entry) → IsOrderly last es → x ≤ last → filter (λ e. nat_lt e.start x) es ≡ []
none_early x last [] r h = refl
none_early x last (e ∷ es) r h =
    subst (λ s. cond s (e ∷ filter (λ d. nat_lt d.start x) es) (filter (λ d. nat_lt d.start x) es) ≡ []) (sym (le-ltb e.start x (let a = r.0 in omega arith))) (none_early x e.end es r.3 (let a = r.0 in let b = r.1 in omega arith))

pub and_true : (t : Bool) → (t && true) ≡ t
and_true true = refl
and_true false = refl

-- entries that start before a place
early_window : (last from to : ℕ) (seen behind : List Entry) → IsOrderly last (seen ++ behind) → ((at : ℕ) → IsOrderly at behind → at ≤ to) → window seen from to ≡ since from seen
early_window last from to [] behind r h = refl
early_window last from to (e ∷ seen) behind r h =
    let k = rest_rising e.end seen behind r.3 in
    let below : e.start < to = (let a = r.1 in let b = k.later in let c = h k.at k.orderly in omega arith) in
    let same : (nat_le from e.start && nat_lt e.start to) ≡ nat_le from e.start = ap (λ s. nat_le from e.start && s) (lt-ltb e.start to below) ∙ and_true (nat_le from e.start) in
    let rest : window seen from to ≡ since from seen = early_window e.end from to seen behind r.3 h in cc

seen_below : (from to : ℕ) (seen behind : List Entry) → IsOrderly 0 (seen ++ behind) → list_any (λ e. e.end == to) behind ≡ true → window seen from to ≡ since from seen
seen_below from to seen behind r h = early_window 0 from to seen behind r (λ at orderly. let k = end_behind to at behind orderly h in omega arith)

before_below : (from to : ℕ) (before : List Entry) (e : Entry) (later : List Entry) → IsOrderly 0 (before ++ (e ∷ later)) → e.start < to → window before from to ≡ since from before
before_below from to before e later r h = early_window 0 from to before (e ∷ later) r (λ at orderly. let k = orderly.0 in omega arith)

behind_late : (last from : ℕ) (seen behind : List Entry) → IsOrderly last (seen ++ behind) → list_any (λ e. e.start == from) seen ≡ true → filter (λ e. nat_lt e.start from) behind ≡ []
behind_late last from [] behind r h = absurd cc
behind_late last from (e ∷ seen) behind r h =
    elim (e.start == from) as (λ b. (e.start == from) ≡ b → filter (λ d. nat_lt d.start from) behind ≡ []) [
      | true ↦ λ k. let i : e.start ≡ from = eqb-true e.start from k in let l = rest_rising e.end seen behind r.3 in none_early from l.at behind l.orderly (let a = r.1 in let b = l.later in omega arith)
      | false ↦ λ k. behind_late e.end from seen behind r.3 (or_second (e.start == from) (list_any (λ d. d.start == from) seen) h k)
    ] refl

pub same_base : (history seen : List Entry) (from to : ℕ) → IsOrderly 0 history → IsSeen seen history from to → state_before seen from ≡ state_before history from
same_base history seen from to r s =
    let early = λ (e : Entry). nat_lt e.start from in
    ap (apply_all empty) (sym (ap (filter early) s.all ∙ filter-append early seen s.behind ∙ ap (λ (l : List Entry). filter early seen ++ l) (behind_late 0 from seen s.behind (subst (IsOrderly 0) s.all r) s.holds) ∙ append-nil (filter early seen)))

-- what no entry of the window does, none that was seen since then does
pub none_since : (t : Entry → Bool) (history seen : List Entry) (from to : ℕ) → IsOrderly 0 history → IsSeen seen history from to → list_any t (window history from to) ≡ false → list_any t (since from seen) ≡ false
none_since t history seen from to r s none =
    let parts : (list_any t (window seen from to) || list_any t (window s.behind from to)) ≡ false =
    sym (ap (λ (l : List Entry). list_any t (window l from to)) s.all ∙ ap (list_any t) (filter-append (is_in from to) seen s.behind) ∙ list_any-append t (window seen from to) (window s.behind from to)) ∙ none in
    ap (list_any t) (sym (seen_below from to seen s.behind (subst (IsOrderly 0) s.all r) s.ends)) ∙ (or_parts (list_any t (window seen from to)) (list_any t (window s.behind from to)) parts).0

-- entries that don't touch a block leave its LSN
untouched_items : (top : ℕ) (fork : ForkId) (block end : ℕ) (items : List Item) (xs : List Effect) → list_any (is_at fork block) items ≡ false → EndsBy top xs → EndsBy top (map (item_effect fork block end) items ++ xs)
untouched_items top fork block end [] xs none b = b
untouched_items top fork block end (item ∷ items) xs none b =
    let p = or_parts (is_at fork block item) (list_any (is_at fork block) items) none in
    let rest = untouched_items top fork block end items xs p.1 b in
    by_effect (EndsBy top) fork block end item (map (item_effect fork block end) items ++ xs) (λ at. absurd cc) (λ _. rest) (λ _. rest)

untouched_act : (top : ℕ) (fork : ForkId) (block end : ℕ) (act : Act) (xs : List Effect) → (act_touches fork block act || act_cuts fork block act) ≡ false → EndsBy top xs → EndsBy top (act_effects fork block end act ++ xs)
untouched_act top fork block end (Create made) xs none b = b
untouched_act top fork block end (Truncate rel count) xs none b = subst (λ s. EndsBy top (cond s Clear Stay ∷ xs)) (sym none) b
untouched_act top fork block end (Change items) xs none b = untouched_items top fork block end items xs (or_parts (list_any (is_at fork block) items) false none).0 b
untouched_act top fork block end (Drop rels) xs none b = subst (λ s. EndsBy top (cond s Clear Stay ∷ xs)) (sym none) b
untouched_act top fork block end (Mark marking) xs none b = b

untouched : (top : ℕ) (fork : ForkId) (block : ℕ) (es : List Entry) → list_any (resets fork block) es ≡ false → EndsBy top (effects_on fork block es)
untouched top fork block [] none = tt
untouched top fork block (e ∷ es) none =
    let p = or_parts (resets fork block e) (list_any (resets fork block) es) none in untouched_act top fork block e.end e.act (effects_on fork block es) p.0 (untouched top fork block es p.1)

-- the latest redo point is not before a redo entry
redo_kept : (from last : ℕ) (tip : Tip) (es : List Entry) → IsOrderly last es → from ≤ last → from ≤ tip.redo → from ≤ (tip_over tip es).redo
redo_kept from last tip [] r h k = k
redo_kept from last tip (e ∷ es) r h k =
    let low : from ≤ e.end = (let a = r.0 in let b = r.1 in omega arith) in
    redo_kept from e.end (tip_past tip e) es r.3 low
    (elim ((tip.count == 0) || is_redo e.act) as (λ s. from ≤ cond s e.start tip.redo) [ true ↦ (let a = r.0 in omega arith) | false ↦ k ])

redo_found : (from last : ℕ) (tip : Tip) (es : List Entry) → IsOrderly last es → list_any (λ e. (e.start == from) && is_redo e.act) es ≡ true → from ≤ (tip_over tip es).redo
redo_found from last tip [] r h = absurd cc
redo_found from last tip (e ∷ es) r h =
    elim ((e.start == from) && is_redo e.act) as (λ b. ((e.start == from) && is_redo e.act) ≡ b → from ≤ (tip_over (tip_past tip e) es).redo) [
      | true ↦ λ k.
          let p = and_parts (e.start == from) (is_redo e.act) k in
          let i : e.start ≡ from = eqb-true e.start from p.0 in
          let redo : (tip_past tip e).redo ≡ e.start = ap (λ b. cond ((tip.count == 0) || b) e.start tip.redo) p.1 ∙ ap (λ b. cond b e.start tip.redo) (or-true (tip.count == 0)) in
          redo_kept from e.end (tip_past tip e) es r.3 (let b = r.1 in omega arith) (subst (λ n. from ≤ n) (sym redo) (omega arith))
      | false ↦ λ k. redo_found from e.end (tip_past tip e) es r.3 (or_second ((e.start == from) && is_redo e.act) (list_any (λ d. (d.start == from) && is_redo d.act) es) h k)
    ] refl

pub any_weaker : (p q : Entry → Bool) (es : List Entry) → list_any (λ e. p e && q e) es ≡ true → list_any p es ≡ true
any_weaker p q [] h = h
any_weaker p q (e ∷ es) h =
    elim (p e) as (λ b. ((b && q e) || list_any (λ d. p d && q d) es) ≡ true → (b || list_any p es) ≡ true) [ true ↦ λ k. refl | false ↦ λ k. any_weaker p q es k ] h

-- the redo entry stands before each later entry that is none
redo_before : (from last : ℕ) (before : List Entry) (e : Entry) (later : List Entry) → IsOrderly last (before ++ (e ∷ later)) → from ≤ e.start → is_redo e.act ≡ false
    → list_any (λ d. (d.start == from) && is_redo d.act) (before ++ (e ∷ later)) ≡ true → list_any (λ d. (d.start == from) && is_redo d.act) before ≡ true
redo_before from last [] e later r h other any =
    let not_here : ((e.start == from) && is_redo e.act) ≡ false = ap (λ b. (e.start == from) && b) other ∙ and_false (e.start == from) in
    let there = or_second ((e.start == from) && is_redo e.act) (list_any (λ d. (d.start == from) && is_redo d.act) later) any not_here in
    let past = start_behind from e.end later r.3 (any_weaker (λ d. d.start == from) (λ d. is_redo d.act) later there) in
    absurd (let b = r.1 in omega arith)
redo_before from last (x ∷ before) e later r h other any =
    elim ((x.start == from) && is_redo x.act) as (λ b. ((x.start == from) && is_redo x.act) ≡ b → (((x.start == from) && is_redo x.act) || list_any (λ d. (d.start == from) && is_redo d.act) before) ≡ true) [
      | true ↦ λ k. or_left ((x.start == from) && is_redo x.act) _ k
      | false ↦ λ k. or_right ((x.start == from) && is_redo x.act) _ (redo_before from x.end before e later r.3 h other (or_second ((x.start == from) && is_redo x.act) (list_any (λ d. (d.start == from) && is_redo d.act) (before ++ (e ∷ later))) any k))
    ] refl

patch_no_redo : (fork : ForkId) (block : ℕ) (act : Act) → act_patches fork block act ≡ true → is_redo act ≡ false
patch_no_redo fork block (Create made) e = refl
patch_no_redo fork block (Truncate rel count) e = refl
patch_no_redo fork block (Change items) e = refl
patch_no_redo fork block (Drop rels) e = refl
patch_no_redo fork block (Mark marking) e = absurd cc

pub same_filter : (p q : Entry → Bool) (es : List Entry) → ((e : Entry) → p e ≡ q e) → filter p es ≡ filter q es
same_filter p q es h = ap (λ (t : Entry → Bool). filter t es) (λ i e. h e i)

all_kept : (es : List Entry) → filter (λ e. true) es ≡ es
all_kept [] = refl
all_kept (e ∷ es) = ap (λ (l : List Entry). e ∷ l) (all_kept es)

pub in_parts : (x last : ℕ) (es : List Entry) → IsOrderly last es → es ≡ filter (λ e. nat_lt e.start x) es ++ since x es
in_parts x last es r =
    sym (all_kept es) ∙ cut_at x (λ e. true) last es r
    ∙ ap (λ (l : List Entry). l ++ filter (λ e. nat_le x e.start && true) es) (same_filter (λ e. nat_lt e.start x && true) (λ e. nat_lt e.start x) es (λ e. and_true (nat_lt e.start x)))
    ∙ ap (λ (l : List Entry). filter (λ e. nat_lt e.start x) es ++ l) (same_filter (λ e. nat_le x e.start && true) (λ e. nat_le x e.start) es (λ e. and_true (nat_le x e.start)))

pub two_parts : (x : ℕ) (es : List Entry) → IsOrderly 0 es → apply_all empty es ≡ (state_before es x >>= λ t. apply_all t (since x es))
two_parts x es r = ap (apply_all empty) (in_parts x 0 es r) ∙ applied_in_two empty (filter (λ e. nat_lt e.start x) es) (since x es)

-- a block that no entry since the redo point touches or cuts has an LSN up to it
lsn_up_to : (from : ℕ) (before : List Entry) (fork : ForkId) (block : ℕ) → IsOrderly 0 before → IsBoundary from before → list_any (resets fork block) (since from before) ≡ false → lsn_after before fork block ≤ from
lsn_up_to from before fork block r b none =
    elim (apply_all empty before) as (λ m. apply_all empty before ≡ m → block_lsn (m >>= λ store. block_of store fork block) ≤ from) [
      | None ↦ λ e. omega arith
      | Some s ↦ λ e. middle (state_before before from) (λ t. apply_all t (since from before)) s (sym (two_parts from before r) ∙ e) (λ t first rest.
          one.lsn_after from (effects_on fork block (since from before)) (block_of t fork block) (block_of s fork block)
          (no_newer from empty t (entries_before before from) (none_newer from) (all_end_by (λ e. nat_lt e.start from) from before (λ e k. ltb-true e.start from k) b) (view empty t (entries_before before from) first) fork block)
          (untouched from fork block (since from before) none) (entries_view edited t s (since from before) (view t s (since from before) rest) fork block))
    ] refl

above_redo : (before : List Entry) (e : Entry) (fork : ForkId) (block : ℕ) → is_of_run e ≡ true → is_logged_as_delta before e fork block ≡ true → redo_point before < lsn_after before fork block
above_redo before e fork block own delta = ltb-true (redo_point before) (lsn_after before fork block) (sym (ap (λ b. not b || nat_lt (redo_point before) (lsn_after before fork block)) own) ∙ delta)

pub listed_blocks : (store : Store) (fork : ForkId) (block : ℕ) → is_some (block_of store fork block) ≡ nat_lt block (unwrap_or (block_count store fork) 0)
listed_blocks store fork block =
    elim (get store fork) as (λ o. is_some (o >>= λ pages. slice_get pages block) ≡ nat_lt block (unwrap_or (option_map (λ (ps : ForkPages). length ps) o) 0)) [
      | None ↦ sym (le-ltb block 0 (omega arith))
      | Some pages ↦ elim (nat_lt block (length pages)) as (λ s. nat_lt block (length pages) ≡ s → is_some (slice_get pages block) ≡ s) [
        | true ↦ λ k. ap (λ (o : Option (List ℕ)). is_some o) (slice_get-get_or pages block [] (ltb-true block (length pages) k))
        | false ↦ λ k. ap (λ (o : Option (List ℕ)). is_some o) (slice_get_past pages block (ltb-false block (length pages) k))
      ] refl
    ]

pub listed_fork : (o : Option ForkPages) → is_some (option_map (λ (ps : ForkPages). length ps) o) ≡ is_some o
listed_fork None = refl
listed_fork (Some pages) = refl

-- a copied page, and a block that is there
pub same_page : (page : List ℕ) (answer kept : Option (List ℕ)) → answer ≡ kept → is_some kept ≡ true → page ≡ unwrap_or answer zero_page → Some page ≡ kept
same_page page answer (Some old) e there written = ap (λ (p : List ℕ). Some p) (written ∙ ap (λ (o : Option (List ℕ)). unwrap_or o zero_page) e)
same_page page answer None e there written = absurd cc

pub none_kept : (o : Option (List ℕ)) → is_some o ≡ false → None ≡ o
none_kept (Some page) e = absurd cc
none_kept None e = refl

rising_before : (before : List Entry) (e : Entry) (later history : List Entry) → history ≡ before ++ (e ∷ later) → IsOrderly 0 history → IsOrderly 0 before
rising_before before e later history is r = rising_front 0 before (e ∷ later) (subst (IsOrderly 0) is r)

-- what is written as a delta follows another change of its block
pub deltas_follow : (history : List Entry) (from to : ℕ) → IsRunning history from → (fork : ForkId) (block : ℕ) (before : List Entry) (e : Entry) (later : List Entry) → history ≡ before ++ (e ∷ later) → is_in from to e ≡ true
    → IsWrittenAsDelta before e fork block → list_any (resets fork block) (window before from to) ≡ true
deltas_follow history from to running fork block before e later is within delta =
    let orderly = running.orderly in
    let start : from ≤ e.start = leb-true from e.start (and_parts (nat_le from e.start) (nat_lt e.start to) within).0 in
    let redo = redo_before from 0 before e later (subst (IsOrderly 0) is orderly) start (patch_no_redo fork block e.act delta.0) (subst (λ l. list_any (λ d. (d.start == from) && is_redo d.act) l ≡ true) is running.redo) in
    let before_rising = rising_before before e later history is orderly in
    let high = above_redo before e fork block (all_at (λ (d : Entry). from ≤ d.start → is_of_run d ≡ true) before e later (subst (AreOwnFrom from) is running.own) start) delta.1 in
    let low = redo_found from 0 (tip_with 0 0 0 0) before before_rising redo in
    let boundary = boundary_start from 0 before before_rising (any_weaker (λ d. d.start == from) (λ d. is_redo d.act) before redo) in
    let same = before_below from to before e later (subst (IsOrderly 0) is orderly) (ltb-true e.start to (and_parts (nat_le from e.start) (nat_lt e.start to) within).1) in
    ap (list_any (resets fork block)) same
    ∙ elim (list_any (resets fork block) (since from before)) as (λ b. list_any (resets fork block) (since from before) ≡ b → b ≡ true) [
      | true ↦ λ k. refl
      | false ↦ λ k. absurd (let m = lsn_up_to from before fork block before_rising boundary k in omega arith)
    ] refl

-- a copier's start is below its end
seen_in_order : (from to last : ℕ) (seen behind : List Entry) → IsOrderly last (seen ++ behind) → list_any (λ e. e.start == from) seen ≡ true → list_any (λ e. e.end == to) behind ≡ true → from < to
seen_in_order from to last [] behind r holds ends = absurd cc
seen_in_order from to last (e ∷ seen) behind r holds ends =
    elim (e.start == from) as (λ b. (e.start == from) ≡ b → from < to) [
      | true ↦ λ k.
          let i : e.start ≡ from = eqb-true e.start from k in
          let l = rest_rising e.end seen behind r.3 in
          let h = end_behind to l.at behind l.orderly ends in
          let a = r.1 in let c = l.later in omega arith
      | false ↦ λ k. seen_in_order from to e.end seen behind r.3 (or_second (e.start == from) (list_any (λ d. d.start == from) seen) holds k) ends
    ] refl

pub start_below : (history seen : List Entry) (from to : ℕ) → IsOrderly 0 history → IsSeen seen history from to → from < to
start_below history seen from to r s = seen_in_order from to 0 seen s.behind (subst (IsOrderly 0) s.all r) s.holds s.ends

pub some_fork : ForkId
some_fork = record { rel = record { db = 1; rel = 1 }; kind = Main }

pub taken_sound : TakenCopiesAreSound
taken_sound copy history from to running taken =
    let orderly = running.orderly in
    middle (state_before history from) (λ t. apply_all t (since from history)) running.store (sym (two_parts from history orderly) ∙ running.defined) (λ base defined _.
    record {
      base = base;
      defined = defined;
      blocks = λ fork block none.
          let l = taken.forks fork in
          let there : is_some (block_of copy fork block) ≡ is_some (block_of base fork block) =
          listed_blocks copy fork block ∙ l.listed.reached block (none_since (resets fork block) history l.seen from to orderly l.prefix none) base (same_base history l.seen from to orderly l.prefix ∙ defined) in
          elim (block_of copy fork block) as (λ o. block_of copy fork block ≡ o → is_some o ≡ is_some (block_of base fork block) → o ≡ block_of base fork block) [
            | Some page ↦ λ e k.
                let c = taken.blocks fork block page e in
                same_page page c.answer (block_of base fork block) (c.copied (none_since (resets fork block) history c.seen from to orderly c.prefix none) base (same_base history c.seen from to orderly c.prefix ∙ defined)) (sym k) c.written
            | None ↦ λ e k. none_kept (block_of base fork block) (sym k)
          ] refl there;
      forks = λ fork none.
          let l = taken.forks fork in
          sym (listed_fork (get copy fork)) ∙ l.listed.there (none_since (settles fork) history l.seen from to orderly l.prefix none) base (same_base history l.seen from to orderly l.prefix ∙ defined);
      deltas = deltas_follow history from to running;
      starts = any_weaker (λ d. d.start == from) (λ d. is_redo d.act) history running.redo;
      ends = let p = (taken.forks some_fork).prefix in
          ap (list_any (λ e. e.end == to)) p.all ∙ list_any-append (λ e. e.end == to) (taken.forks some_fork).seen p.behind ∙ or_right (list_any (λ e. e.end == to) (taken.forks some_fork).seen) _ p.ends;
      above = start_below history (taken.forks some_fork).seen from to orderly (taken.forks some_fork).prefix;
    })
