-- What a summary leaves out is as it was, and summaries of adjoining ranges.
use Rattle.std.proofs.Common.{◌≡◌, ℕ, zero, suc, ◌≤◌, Bool, true, false, cond, not, ◌&&◌, ◌||◌, List, [], ◌∷◌, ◌++◌, map, Option, Some, None, unwrap_or, option_map, is_some, refl, sym, ap, subst, ◌∙◌, arith, true≢false}
use Rattle.std.specs.Prelude.{min, nat_lt, nat_le}
use Rattle.std.specs.List.{list_any, filter}
use Rattle.std.specs.FinMap.{get}
use Rattle.std.proofs.lemmas.Bool.{ltb-true, leb-true, leb-false, lt-ltb, le-leb, lt-leb, or_parts, or_from, false_from_ne_true}
use Rattle.std.proofs.lemmas.List.{map-append}
use Rattle.std.proofs.lemmas.List.Folds.{list_any-append}
use Rattle.lsn_core.specs.byte_words.Numbers.{◌>>=◌}
use Rattle.lsn_core.specs.declared.ids.ForkId.{ForkId}
use Rattle.lsn_core.specs.Store.{Store}
use Rattle.lsn_core.specs.Blocks.{block_of}
use Rattle.pg_page.specs.Header.{zero_page}
use Rattle.history.specs.declared.op.Item.{Item}
use Rattle.history.specs.Entry.{Act, Create, Truncate, Change, Drop, Mark, Entry}
use Rattle.history.specs.Apply.{edited, main_fork, is_same_fork, is_of_any, apply_act, apply, apply_all}
use Rattle.history.specs.Op.{IsTidy}
use Rattle.history.proofs.Stores.{fork_is}
use Rattle.history.specs.fuzzy_copies.Touches.{act_touches, act_cuts, act_settles, limit_of, touches, settles, resets}
use Rattle.history.specs.fuzzy_copies.Effects.{Effect, Stay, Reach, Alter, Clear, after, after_all, item_effect, act_effects, effects_on}
use Rattle.history.specs.fuzzy_copies.Orderly.{IsOrderly}
use Rattle.history.specs.fuzzy_copies.Sound.{is_in, window}
use Rattle.history.specs.fuzzy_copies.Covers.{AreTidy}
use Rattle.history.specs.fuzzy_copies.Summary.{BlockRefTable, table_of, least, is_at_most, limits, limit_in, is_listed}
use Rattle.history.specs.fuzzy_copies.CoverLaws.{SummariesMeet, UnlistedBlocksStand, LimitsTellSettled, BlocksBelowLimitsAreThere}
use Rattle.history.proofs.fuzzy_copies.View.{middle, act_view, entries_view}
use Rattle.history.proofs.fuzzy_copies.Completed.{or_second, by_effect}
use Rattle.history.proofs.fuzzy_copies.Ranges.{cut_at}
use Rattle.history.proofs.fuzzy_copies.Replay.{view}
use Rattle.history.proofs.fuzzy_copies.Taken.{same_filter}
use Rattle.history.proofs.fuzzy_copies.Kept.{block_there, entries_keep, none_made, touched_there}

-- a limit at or below a block is a creation or a cut there
limits_are : (fork : ForkId) (block : ℕ) (act : Act) → is_at_most block (limit_of fork act) ≡ (act_settles fork act || act_cuts fork block act)
limits_are fork block (Create made) = elim (is_same_fork fork made) as (λ s. is_at_most block (cond s (Some 0) None) ≡ (s || false)) [ true ↦ le-leb 0 block (omega arith) | false ↦ refl ]
limits_are fork block (Truncate rel count) = elim (is_same_fork fork (main_fork rel)) as (λ s. is_at_most block (cond s (Some count) None) ≡ (s && nat_le count block)) [ true ↦ refl | false ↦ refl ]
limits_are fork block (Change items) = refl
limits_are fork block (Drop rels) = elim (is_of_any fork rels) as (λ s. is_at_most block (cond s (Some 0) None) ≡ (s || s)) [ true ↦ le-leb 0 block (omega arith) | false ↦ refl ]
limits_are fork block (Mark marking) = refl

no_limits : (fork : ForkId) (block : ℕ) (es : List Entry) → list_any (settles fork) es ≡ false → list_any (resets fork block) es ≡ false → list_any (limits fork block) (map table_of es) ≡ false
no_limits fork block [] c r = refl
no_limits fork block (e ∷ es) c r =
    let p = or_parts (settles fork e) (list_any (settles fork) es) c in
    let q = or_parts (resets fork block e) (list_any (resets fork block) es) r in
    or_from (limits fork block (table_of e)) _ (limits_are fork block e.act ∙ or_from (act_settles fork e.act) (act_cuts fork block e.act) p.0 (or_parts (act_touches fork block e.act) (act_cuts fork block e.act) q.0).1) (no_limits fork block es p.1 q.1)

none_created : (fork : ForkId) (block : ℕ) (es : List Entry) → list_any (limits fork block) (map table_of es) ≡ false → list_any (settles fork) es ≡ false
none_created fork block [] none = refl
none_created fork block (e ∷ es) none =
    let p = or_parts (limits fork block (table_of e)) (list_any (limits fork block) (map table_of es)) none in
    or_from (settles fork e) _ (or_parts (act_settles fork e.act) (act_cuts fork block e.act) (sym (limits_are fork block e.act) ∙ p.0)).0 (none_created fork block es p.1)

-- a limit is at or below a block exactly where the least one is
min_at_most : (n m b : ℕ) → nat_le (min n m) b ≡ (nat_le n b || nat_le m b)
min_at_most n m b =
    elim (nat_le n b) as (λ s. nat_le n b ≡ s → nat_le (min n m) b ≡ (s || nat_le m b)) [
      | true ↦ λ k. let h = leb-true n b k in le-leb (min n m) b (omega arith)
      | false ↦ λ k. let h = leb-false n b k in
          elim (nat_le m b) as (λ s. nat_le m b ≡ s → nat_le (min n m) b ≡ s) [
            | true ↦ λ l. let i = leb-true m b l in le-leb (min n m) b (omega arith)
            | false ↦ λ l. let i = leb-false m b l in lt-leb (min n m) b (omega arith)
          ] refl
    ] refl

or_no : (a : Bool) → a ≡ (a || false)
or_no true = refl
or_no false = refl

least_at_most : (b : ℕ) (o p : Option ℕ) → is_at_most b (least o p) ≡ (is_at_most b o || is_at_most b p)
least_at_most b None p = refl
least_at_most b (Some n) None = or_no (nat_le n b)
least_at_most b (Some n) (Some m) = min_at_most n m b

pub any_limits : (fork : ForkId) (block : ℕ) (ts : List BlockRefTable) → list_any (limits fork block) ts ≡ is_at_most block (limit_in fork ts)
any_limits fork block [] = refl
any_limits fork block (m ∷ ts) = ap (λ t. limits fork block m || t) (any_limits fork block ts) ∙ sym (least_at_most block (m.limit fork) (limit_in fork ts))

least_some : (o p : Option ℕ) → is_some (least o p) ≡ (is_some o || is_some p)
least_some None p = refl
least_some (Some n) None = refl
least_some (Some n) (Some m) = refl

limited : (fork : ForkId) (es : List Entry) → list_any (λ e. is_some (limit_of fork e.act)) es ≡ is_some (limit_in fork (map table_of es))
limited fork [] = refl
limited fork (e ∷ es) = ap (λ t. is_some (limit_of fork e.act) || t) (limited fork es) ∙ sym (least_some (limit_of fork e.act) (limit_in fork (map table_of es)))

not_zero : (o : Option ℕ) → (o ≡ Some 0 → ⊥) → is_at_most 0 o ≡ false
not_zero None k = refl
not_zero (Some zero) k = absurd (k refl)
not_zero (Some (suc n)) k = lt-leb (suc n) 0 (omega arith)

pub limits_tell : LimitsTellSettled
limits_tell entries fork other = none_created fork 0 entries (any_limits fork 0 (map table_of entries) ∙ not_zero (limit_in fork (map table_of entries)) other)

unlisted : (t l : Bool) → (t && not l) ≡ false → l ≡ false → t ≡ false
unlisted true l e f = absurd (let g : not l ≡ false = e in let h = ap not f in cc)
unlisted false l e f = refl

-- a cut leaves no block behind it
cut_away : (end : ℕ) (store next : Store) (act : Act) (fork : ForkId) (block : ℕ) → apply_act end store act ≡ Some next → act_cuts fork block act ≡ true → block_of next fork block ≡ None
cut_away end store next (Create made) fork block e cut = absurd cc
cut_away end store next (Truncate rel count) fork block e cut =
    let gone : Some None ≡ Some (block_of next fork block) = sym (ap (λ s. after edited (cond s Clear Stay) (block_of store fork block) >>= λ n. Some n) cut) ∙ act_view edited end store next (Truncate rel count) e fork block in
    cc
cut_away end store next (Change items) fork block e cut = absurd cc
cut_away end store next (Drop rels) fork block e cut =
    let gone : Some None ≡ Some (block_of next fork block) = sym (ap (λ s. after edited (cond s Clear Stay) (block_of store fork block) >>= λ n. Some n) cut) ∙ act_view edited end store next (Drop rels) e fork block in
    cc
cut_away end store next (Mark marking) fork block e cut = absurd cc

-- a block that is there, and that no summary of the entries lists, was neither touched nor cut
stands : (store next : Store) (es : List Entry) (fork : ForkId) (block : ℕ) → AreTidy store es → apply_all store es ≡ Some next → is_listed fork block (map table_of es) ≡ false
    → is_some (block_of next fork block) ≡ true → list_any (resets fork block) es ≡ false
stands store next [] fork block tidy e out there = refl
stands store next (x ∷ es) fork block tidy e out there =
    middle (apply store x) (λ s. apply_all s es) next e (λ s first rest.
    let q = or_parts (touches fork block x && not (list_any (limits fork block) (map table_of es))) (is_listed fork block (map table_of es)) out in
    let later : list_any (resets fork block) es ≡ false = stands s next es fork block (tidy.1 s first) rest q.1 there in
    let untouched : act_touches fork block x.act ≡ false = false_from_ne_true (act_touches fork block x.act) (λ k.
    let none = none_made s next es fork block (tidy.1 s first) rest (touched_there x.end store s x.act fork block first k) later in
    let b = unlisted (touches fork block x) (list_any (limits fork block) (map table_of es)) q.0 (no_limits fork block es none later) in cc) in
    let uncut : act_cuts fork block x.act ≡ false = false_from_ne_true (act_cuts fork block x.act) (λ k.
    let gone : block_of next fork block ≡ None = entries_keep s next es fork block (tidy.1 s first) rest later ∙ cut_away x.end store s x.act fork block first k in
    let b : is_some (block_of next fork block) ≡ false = ap (λ (o : Option (List ℕ)). is_some o) gone in cc) in
    or_from (resets fork block x) _ (or_from (act_touches fork block x.act) (act_cuts fork block x.act) untouched uncut) later)

pub unlisted_stand : UnlistedBlocksStand
unlisted_stand store next entries fork block makes out there = stands store next entries fork block makes.tidy makes.made out there

-- no effect cuts the block off
abbrev NoClear : List Effect → Type 0
NoClear [] = Unit
NoClear (Stay ∷ xs) = NoClear xs
NoClear (Reach ∷ xs) = NoClear xs
NoClear (Alter end edit ∷ xs) = NoClear xs
NoClear (Clear ∷ xs) = ⊥

stays : (xs : List Effect) (o q : Option (List ℕ)) → NoClear xs → is_some o ≡ true → after_all edited xs o ≡ Some q → is_some q ≡ true
stays [] o q n there e = let same : o ≡ q = cc in sym (ap (λ (m : Option (List ℕ)). is_some m) same) ∙ there
stays (Stay ∷ xs) o q n there e = stays xs o q n there e
stays (Reach ∷ xs) o q n there e = stays xs (Some (unwrap_or o zero_page)) q n refl e
stays (Alter end edit ∷ xs) o q n there e =
    elim (edited end (unwrap_or o zero_page) edit) as (λ m. (option_map (λ (p : List ℕ). Some p) m >>= after_all edited xs) ≡ Some q → is_some q ≡ true) [
      | None ↦ λ f. absurd cc
      | Some page ↦ λ f. stays xs (Some page) q n refl f
    ] e
stays (Clear ∷ xs) o q n there e = absurd n

items_no_clear : (fork : ForkId) (block end : ℕ) (items : List Item) (xs : List Effect) → NoClear xs → NoClear (map (item_effect fork block end) items ++ xs)
items_no_clear fork block end [] xs n = n
items_no_clear fork block end (item ∷ items) xs n =
    let rest = items_no_clear fork block end items xs n in
    by_effect NoClear fork block end item (map (item_effect fork block end) items ++ xs) (λ _. rest) (λ _. rest) (λ _. rest)

act_no_clear : (fork : ForkId) (block end : ℕ) (act : Act) (xs : List Effect) → act_cuts fork block act ≡ false → NoClear xs → NoClear (act_effects fork block end act ++ xs)
act_no_clear fork block end (Create made) xs e n = n
act_no_clear fork block end (Truncate rel count) xs e n = subst (λ s. NoClear (cond s Clear Stay ∷ xs)) (sym e) n
act_no_clear fork block end (Change items) xs e n = items_no_clear fork block end items xs n
act_no_clear fork block end (Drop rels) xs e n = subst (λ s. NoClear (cond s Clear Stay ∷ xs)) (sym e) n
act_no_clear fork block end (Mark marking) xs e n = n

no_clear : (fork : ForkId) (block : ℕ) (es : List Entry) → list_any (limits fork block) (map table_of es) ≡ false → NoClear (effects_on fork block es)
no_clear fork block [] e = tt
no_clear fork block (x ∷ es) e =
    let p = or_parts (limits fork block (table_of x)) (list_any (limits fork block) (map table_of es)) e in
    act_no_clear fork block x.end x.act (effects_on fork block es) (or_parts (act_settles fork x.act) (act_cuts fork block x.act) (sym (limits_are fork block x.act) ∙ p.0)).1 (no_clear fork block es p.1)

abbrev emptied : Bool → Option ℕ
emptied s = cond s (Some 0) None

-- a tidy cut of the fork, to more than the block: the block was there
cut_past : (store : Store) (act : Act) (fork : ForkId) (block : ℕ) → IsTidy store act → is_some (limit_of fork act) ≡ true → is_at_most block (limit_of fork act) ≡ false → is_some (block_of store fork block) ≡ true
cut_past store (Create made) fork block tidy some far =
    let apart = (or_parts (is_same_fork fork made) false (sym (limits_are fork block (Create made)) ∙ far)).0 in
    absurd (true≢false (sym some ∙ ap (λ s. is_some (emptied s)) apart))
cut_past store (Truncate rel count) fork block tidy some far =
    elim (is_same_fork fork (main_fork rel)) as (λ s. is_same_fork fork (main_fork rel) ≡ s → is_some (cond s (Some count) None) ≡ true → is_at_most block (cond s (Some count) None) ≡ false → is_some (block_of store fork block) ≡ true) [
      | true ↦ λ same _ f.
          let short = leb-false count block f in
          let long = tidy.within in
          block_there store fork tidy.pages block (ap (get store) (fork_is fork (main_fork rel) same) ∙ tidy.there) (omega arith)
      | false ↦ λ _ k _. absurd (true≢false (sym k))
    ] refl some far
cut_past store (Change items) fork block tidy some far = absurd cc
cut_past store (Drop rels) fork block tidy some far =
    let apart = (or_parts (is_of_any fork rels) (is_of_any fork rels) (sym (limits_are fork block (Drop rels)) ∙ far)).0 in
    absurd (true≢false (sym some ∙ ap (λ s. is_some (emptied s)) apart))
cut_past store (Mark marking) fork block tidy some far = absurd cc

-- where entries have limits of a fork, but none at or below a block, the block is there afterwards
below_there : (store next : Store) (es : List Entry) (fork : ForkId) (block : ℕ) → AreTidy store es → apply_all store es ≡ Some next → list_any (limits fork block) (map table_of es) ≡ false → list_any (λ e. is_some (limit_of fork e.act)) es ≡ true
    → is_some (block_of next fork block) ≡ true
below_there store next [] fork block tidy e none some = absurd cc
below_there store next (x ∷ es) fork block tidy e none some =
    let p = or_parts (limits fork block (table_of x)) (list_any (limits fork block) (map table_of es)) none in
    elim (is_some (limit_of fork x.act)) as (λ b. is_some (limit_of fork x.act) ≡ b → is_some (block_of next fork block) ≡ true) [
      | true ↦ λ k. stays (effects_on fork block (x ∷ es)) (block_of store fork block) (block_of next fork block) (no_clear fork block (x ∷ es) none) (cut_past store x.act fork block tidy.0 k p.0)
          (entries_view edited store next (x ∷ es) (view store next (x ∷ es) e) fork block)
      | false ↦ λ k. middle (apply store x) (λ s. apply_all s es) next e (λ s first rest.
          below_there s next es fork block (tidy.1 s first) rest p.1 (or_second (is_some (limit_of fork x.act)) (list_any (λ d. is_some (limit_of fork d.act)) es) some k))
    ] refl

pub below_limits : BlocksBelowLimitsAreThere
below_limits store next entries fork block limit makes is below =
    below_there store next entries fork block makes.tidy makes.made (any_limits fork block (map table_of entries) ∙ ap (is_at_most block) is ∙ lt-leb limit block below)
    (limited fork entries ∙ ap (λ (o : Option ℕ). is_some o) is)

-- the summary of two lists: the first one's blocks but for those at or past the next one's limits, and
-- the next one's
either_list : (t l m r : Bool) → ((t && not (l || m)) || (r && not m)) ≡ (((t && not l) || r) && not m)
either_list true true m r = refl
either_list true false true true = refl
either_list true false true false = refl
either_list true false false r = refl
either_list false l m r = refl

or_regroup : (a b c : Bool) → (a || (b || c)) ≡ ((a || b) || c)
or_regroup true b c = refl
or_regroup false b c = refl

listed_both : (fork : ForkId) (block : ℕ) (ts us : List BlockRefTable) → is_listed fork block (ts ++ us) ≡ ((is_listed fork block ts && not (list_any (limits fork block) us)) || is_listed fork block us)
listed_both fork block [] us = refl
listed_both fork block (m ∷ ts) us =
    let t = m.listed fork block in
    let l = list_any (limits fork block) ts in
    let n = list_any (limits fork block) us in
    ap (λ a. (t && not a) || is_listed fork block (ts ++ us)) (list_any-append (limits fork block) ts us) ∙ ap (λ a. (t && not (l || n)) || a) (listed_both fork block ts us)
    ∙ or_regroup (t && not (l || n)) (is_listed fork block ts && not n) (is_listed fork block us) ∙ ap (λ a. a || is_listed fork block us) (either_list t l n (is_listed fork block ts))

least_regroup : (o p q : Option ℕ) → least o (least p q) ≡ least (least o p) q
least_regroup None p q = refl
least_regroup (Some a) None q = refl
least_regroup (Some a) (Some b) None = refl
least_regroup (Some a) (Some b) (Some c) = ap (λ (n : ℕ). Some n) (omega arith)

limit_both : (fork : ForkId) (ts us : List BlockRefTable) → limit_in fork (ts ++ us) ≡ least (limit_in fork ts) (limit_in fork us)
limit_both fork [] us = refl
limit_both fork (m ∷ ts) us = ap (least (m.limit fork)) (limit_both fork ts us) ∙ least_regroup (m.limit fork) (limit_in fork ts) (limit_in fork us)

first_part : (first between last s : ℕ) → between ≤ last → (nat_lt s between && (nat_le first s && nat_lt s last)) ≡ (nat_le first s && nat_lt s between)
first_part first between last s h =
    elim (nat_lt s between) as (λ c. nat_lt s between ≡ c → (c && (nat_le first s && nat_lt s last)) ≡ (nat_le first s && c)) [
      | true ↦ λ k. let i = ltb-true s between k in ap (λ b. nat_le first s && b) (lt-ltb s last (omega arith))
      | false ↦ λ k. and_no (nat_le first s)
    ] refl
  where
    and_no : (a : Bool) → false ≡ (a && false)
    and_no true = refl
    and_no false = refl

next_part : (first between last s : ℕ) → first ≤ between → (nat_le between s && (nat_le first s && nat_lt s last)) ≡ (nat_le between s && nat_lt s last)
next_part first between last s h =
    elim (nat_le between s) as (λ c. nat_le between s ≡ c → (c && (nat_le first s && nat_lt s last)) ≡ (c && nat_lt s last)) [
      | true ↦ λ k. let i = leb-true between s k in ap (λ b. b && nat_lt s last) (le-leb first s (omega arith))
      | false ↦ λ k. refl
    ] refl

two_windows : (history : List Entry) (first between last : ℕ) → IsOrderly 0 history → first ≤ between → between ≤ last → window history first last ≡ window history first between ++ window history between last
two_windows history first between last r h k =
    cut_at between (is_in first last) 0 history r
    ∙ ap (λ (l : List Entry). l ++ filter (λ e. nat_le between e.start && is_in first last e) history) (same_filter (λ e. nat_lt e.start between && is_in first last e) (is_in first between) history (λ e. first_part first between last e.start k))
    ∙ ap (λ (l : List Entry). window history first between ++ l) (same_filter (λ e. nat_le between e.start && is_in first last e) (is_in between last) history (λ e. next_part first between last e.start h))

pub meet : SummariesMeet
meet history first between last r h k =
    let xs = map table_of (window history first between) in
    let ys = map table_of (window history between last) in
    let both : map table_of (window history first last) ≡ xs ++ ys = ap (map table_of) (two_windows history first between last r h k) ∙ map-append table_of (window history first between) (window history between last) in
    record {
      limit = λ fork. ap (limit_in fork) both ∙ limit_both fork xs ys;
      listed = λ fork block. ap (is_listed fork block) both ∙ listed_both fork block xs ys ∙ ap (λ a. (is_listed fork block xs && not a) || is_listed fork block ys) (any_limits fork block ys);
    }
