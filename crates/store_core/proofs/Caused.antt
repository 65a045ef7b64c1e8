-- What is dirty or pending comes from the entries from a partition's point on; so its disk covers the history.
use Rattle.std.proofs.Common.{◌≡◌, ℕ, ◌≤◌, Bool, true, false, cond, ◌&&◌, ◌||◌, List, [], ◌∷◌, ◌++◌, Option, Some, inl, inr, is_some, refl, ap, sym, subst, ◌∙◌, true≢false, eqb-true}
use Rattle.std.specs.Prelude.{◌==◌, nat_le, slice_get}
use Rattle.std.specs.List.{All, AllByRecursion, list_any}
use Rattle.std.specs.FinMap.{empty, contains_key}
use Rattle.std.proofs.lemmas.Bool.{and_parts, or_parts, eq-eqb, or_left, or_right, le-leb}
use Rattle.std.proofs.lemmas.List.Elements.{All-nil, All-push, All-weaker, filter-append, recursion_from_All}
use Rattle.std.proofs.lemmas.List.Folds.{list_any-append}
use Rattle.lsn_core.specs.byte_words.Numbers.{◌>>=◌}
use Rattle.lsn_core.specs.Relation.{Relation}
use Rattle.lsn_core.specs.declared.ids.ForkId.{ForkId}
use Rattle.lsn_core.specs.declared.ids.BlockId.{BlockId}
use Rattle.lsn_core.specs.Store.{Store, ForkPages}
use Rattle.lsn_core.specs.Blocks.{without_fork}
use Rattle.history.specs.Entry.{Act, Create, Truncate, Change, Drop, Mark, Entry}
use Rattle.history.specs.Apply.{main_fork, init_fork, is_same_fork, is_fork_of, is_of_any, without_rel, apply_all}
use Rattle.history.proofs.Pushes.{all_first, all_rest}
use Rattle.history.proofs.Stores.{by_test, fork_is, fork_self}
use Rattle.history.specs.partitions.Parts.{is_of, is_rel_of, IsPart, ConcernsNoOther}
use Rattle.history.proofs.partitions.Puts.{own}
use Rattle.history.proofs.partitions.OwnActs.{own_fork, own_rel}
use Rattle.history.specs.fuzzy_copies.Touches.{act_touches, act_cuts, act_settles, touches, resets, settles}
use Rattle.history.specs.fuzzy_copies.Orderly.{IsOrderly}
use Rattle.history.specs.fuzzy_copies.Sound.{entries_before}
use Rattle.history.specs.fuzzy_copies.Taken.{since}
use Rattle.history.specs.fuzzy_copies.Covers.{AreTidy, AreTidyFrom, Covers}
use Rattle.history.proofs.fuzzy_copies.Covering.{lagging}
use Rattle.history.proofs.fuzzy_copies.Completed.{or_second}
use Rattle.history.proofs.fuzzy_copies.Kept.{tidy_behind}
use Rattle.history.proofs.fuzzy_copies.Taken.{in_parts}
use Rattle.store_core.specs.declared.step.Work.{Work}
use Rattle.store_core.specs.declared.step.Work.TheVariants.{Make, Cut, Remove}
use Rattle.store_core.specs.State.{Part}
use Rattle.store_core.specs.Parts.{dirty_after, with_removal, works_dropped, works_after}
use Rattle.store_core.specs.Facts.{is_dirty, work_settles, work_cuts, work_fork, is_to_settle, is_to_cut, LacksUnwritten, enters, is_entered, ComesFrom}
use Rattle.store_core.proofs.Behind.{unsettled}
use Rattle.store_core.proofs.Dirty.{dirty_before}

-- ---- what works cut off, and whether they settle a fork

both : (a b : Bool) → a ≡ true → b ≡ true → (a && b) ≡ true
both a b x y = ap (λ c. c && b) x ∙ y

-- an act that enters a work cuts off and settles what the work does
cut_entered : (fork : ForkId) (b : ℕ) (act : Act) (work : Work) → enters work act ≡ true → work_cuts fork b work ≡ true → act_cuts fork b act ≡ true
cut_entered fork b (Create made) (Make m) e c = absurd (true≢false (sym c))
cut_entered fork b (Create made) (Cut cut n) e c = absurd (true≢false (sym e))
cut_entered fork b (Create made) (Remove gone) e c = absurd (true≢false (sym e))
cut_entered fork b (Truncate rel count) (Make m) e c = absurd (true≢false (sym e))
cut_entered fork b (Truncate rel count) (Cut cut n) e c =
    let same = and_parts (is_same_fork cut (main_fork rel)) (n == count) e in
    let cuts = and_parts (is_same_fork fork cut) (nat_le n b) c in
    both (is_same_fork fork (main_fork rel)) (nat_le count b) (ap (is_same_fork fork) (sym (fork_is cut (main_fork rel) same.0)) ∙ cuts.0) (ap (λ (k : ℕ). nat_le k b) (sym (eqb-true n count same.1)) ∙ cuts.1)
cut_entered fork b (Truncate rel count) (Remove gone) e c = absurd (true≢false (sym e))
cut_entered fork b (Change items) (Make m) e c = absurd (true≢false (sym e))
cut_entered fork b (Change items) (Cut cut n) e c = absurd (true≢false (sym e))
cut_entered fork b (Change items) (Remove gone) e c = absurd (true≢false (sym e))
cut_entered fork b (Drop rels) (Make m) e c = absurd (true≢false (sym e))
cut_entered fork b (Drop rels) (Cut cut n) e c = absurd (true≢false (sym e))
cut_entered fork b (Drop rels) (Remove gone) e c = ap (λ (f : ForkId). is_of_any f rels) (fork_is fork gone c) ∙ e
cut_entered fork b (Mark marking) (Make m) e c = absurd (true≢false (sym e))
cut_entered fork b (Mark marking) (Cut cut n) e c = absurd (true≢false (sym e))
cut_entered fork b (Mark marking) (Remove gone) e c = absurd (true≢false (sym e))

settle_entered : (fork : ForkId) (act : Act) (work : Work) → enters work act ≡ true → work_settles fork work ≡ true → act_settles fork act ≡ true
settle_entered fork (Create made) (Make m) e c = ap (is_same_fork fork) (sym (fork_is m made e)) ∙ c
settle_entered fork (Create made) (Cut cut n) e c = absurd (true≢false (sym e))
settle_entered fork (Create made) (Remove gone) e c = absurd (true≢false (sym e))
settle_entered fork (Truncate rel count) (Make m) e c = absurd (true≢false (sym e))
settle_entered fork (Truncate rel count) (Cut cut n) e c = absurd (true≢false (sym c))
settle_entered fork (Truncate rel count) (Remove gone) e c = absurd (true≢false (sym e))
settle_entered fork (Change items) (Make m) e c = absurd (true≢false (sym e))
settle_entered fork (Change items) (Cut cut n) e c = absurd (true≢false (sym e))
settle_entered fork (Change items) (Remove gone) e c = absurd (true≢false (sym e))
settle_entered fork (Drop rels) (Make m) e c = absurd (true≢false (sym e))
settle_entered fork (Drop rels) (Cut cut n) e c = absurd (true≢false (sym e))
settle_entered fork (Drop rels) (Remove gone) e c = ap (λ (f : ForkId). is_of_any f rels) (fork_is fork gone c) ∙ e
settle_entered fork (Mark marking) (Make m) e c = absurd (true≢false (sym e))
settle_entered fork (Mark marking) (Cut cut n) e c = absurd (true≢false (sym e))
settle_entered fork (Mark marking) (Remove gone) e c = absurd (true≢false (sym e))

-- where an entry passes a test, one passes a weaker one
pub any_weaker : {X : Type 0} (t u : X → Bool) (xs : List X) → ((x : X) → t x ≡ true → u x ≡ true) → list_any t xs ≡ true → list_any u xs ≡ true
any_weaker t u [] f h = absurd (true≢false (sym h))
any_weaker t u (x ∷ xs) f h =
    by_test (t x) (λ now. or_left (u x) (list_any u xs) (f x now)) (λ not_now. or_right (u x) (list_any u xs) (any_weaker t u xs f (or_second (t x) (list_any t xs) h not_now)))

abbrev AreEntered : List Entry → List Work → Type 0
AreEntered es works = AllByRecursion (λ (w : Work). is_entered es w ≡ true) works

entered_cuts : (fork : ForkId) (b : ℕ) (es : List Entry) (works : List Work) → AreEntered es works → is_to_cut works fork b ≡ true → list_any (resets fork b) es ≡ true
entered_cuts fork b es [] entered cut = absurd (true≢false (sym cut))
entered_cuts fork b es (w ∷ works) entered cut =
    by_test (work_cuts fork b w)
    (λ now. any_weaker (λ (e : Entry). enters w e.act) (resets fork b) es (λ e h. or_right (act_touches fork b e.act) (act_cuts fork b e.act) (cut_entered fork b e.act w h now)) entered.0)
    (λ not_now. entered_cuts fork b es works entered.1 (or_second (work_cuts fork b w) (is_to_cut works fork b) cut not_now))

entered_settles : (fork : ForkId) (es : List Entry) (works : List Work) → AreEntered es works → is_to_settle works fork ≡ true → list_any (settles fork) es ≡ true
entered_settles fork es [] entered settled = absurd (true≢false (sym settled))
entered_settles fork es (w ∷ works) entered settled =
    by_test (work_settles fork w)
    (λ now. any_weaker (λ (e : Entry). enters w e.act) (settles fork) es (λ e h. settle_entered fork e.act w h now) entered.0)
    (λ not_now. entered_settles fork es works entered.1 (or_second (work_settles fork w) (is_to_settle works fork) settled not_now))

-- what entries leave alone is neither dirty nor pending
clean_of : (es : List Entry) (dirty : List BlockId) (works : List Work) (fork : ForkId) (b : ℕ) → ComesFrom es dirty works → list_any (resets fork b) es ≡ false → is_dirty dirty fork b ≡ false
clean_of es dirty works fork b c none =
    by_test (is_dirty dirty fork b)
    (λ now. absurd (true≢false (sym (any_weaker (touches fork b) (resets fork b) es (λ e h. or_left (act_touches fork b e.act) (act_cuts fork b e.act) h) (c.touched fork b now)) ∙ none)))
    (λ not_now. not_now)

uncut_of : (es : List Entry) (dirty : List BlockId) (works : List Work) (fork : ForkId) (b : ℕ) → ComesFrom es dirty works → list_any (resets fork b) es ≡ false → is_to_cut works fork b ≡ false
uncut_of es dirty works fork b c none =
    by_test (is_to_cut works fork b)
    (λ cut. absurd (true≢false (sym (entered_cuts fork b es works (recursion_from_All (λ (w : Work). is_entered es w ≡ true) works c.entered) cut) ∙ none)))
    (λ uncut. uncut)

unsettled_of : (es : List Entry) (dirty : List BlockId) (works : List Work) (fork : ForkId) → ComesFrom es dirty works → list_any (settles fork) es ≡ false → is_to_settle works fork ≡ false
unsettled_of es dirty works fork c none =
    by_test (is_to_settle works fork)
    (λ settled. absurd (true≢false (sym (entered_settles fork es works (recursion_from_All (λ (w : Work). is_entered es w ≡ true) works c.entered) settled) ∙ none)))
    (λ alone. alone)

-- ---- entries more

longer : (xs ys : List Entry) (works : List Work) → All (λ w. is_entered xs w ≡ true) works → All (λ w. is_entered (xs ++ ys) w ≡ true) works
longer xs ys works all =
    All-weaker (λ (w : Work). is_entered xs w ≡ true) (λ (w : Work). is_entered (xs ++ ys) w ≡ true)
    (λ w h. list_any-append (λ (e : Entry). enters w e.act) xs ys ∙ or_left (is_entered xs w) (is_entered ys w) h) works all

-- of others
pub caused_longer : (xs ys : List Entry) (dirty : List BlockId) (works : List Work) → ComesFrom xs dirty works → ComesFrom (xs ++ ys) dirty works
caused_longer xs ys dirty works c = record {
  touched = λ fork b now. list_any-append (touches fork b) xs ys ∙ or_left (list_any (touches fork b) xs) (list_any (touches fork b) ys) (c.touched fork b now);
  entered = longer xs ys works c.entered;
}

last_entered : (xs : List Entry) (e : Entry) (w : Work) → enters w e.act ≡ true → is_entered (xs ++ (e ∷ [])) w ≡ true
last_entered xs e w entered =
    list_any-append (λ (x : Entry). enters w x.act) xs (e ∷ []) ∙ or_right (is_entered xs w) (is_entered (e ∷ []) w) (ap (λ c. c || false) entered)

removed_works : (P : Work → Type 0) (frames : Store) (works : List Work) (gone : ForkId) → All P works → P (Remove gone) → All P (with_removal frames works gone)
removed_works P frames works gone all new = go (contains_key frames gone)
  where
    go : (c : Bool) → All P (cond c (works ++ (Remove gone ∷ [])) works)
    go true = All-push P works (Remove gone) all new
    go false = all

dropped_works : (P : Work → Type 0) (frames : Store) (works : List Work) (rels : List Relation) → All P works → ((gone : ForkId) → is_of_any gone rels ≡ true → P (Remove gone)) → All P (works_dropped frames works rels)
dropped_works P frames works [] all new = all
dropped_works P frames works (rel ∷ rels) all new =
    let main = main_fork rel in
    let init = init_fork rel in
    let less = without_fork frames main in
    let more = with_removal frames works main in
    let first = removed_works P frames works main all (new main (or_left (is_fork_of main rel) (is_of_any main rels) (or_left (is_same_fork main main) (is_same_fork main init) (fork_self main)))) in
    let second = removed_works P less more init first (new init (or_left (is_fork_of init rel) (is_of_any init rels) (or_right (is_same_fork init main) (is_same_fork init init) (fork_self init)))) in
    dropped_works P (without_rel frames rel) (with_removal less more init) rels second (λ gone of. new gone (or_right (is_fork_of gone rel) (is_of_any gone rels) of))

pub new_works : (P : Work → Type 0) (frames : Store) (works : List Work) (act : Act) → All P works → ((w : Work) → enters w act ≡ true → P w) → All P (works_after frames works act)
new_works P frames works (Create fork) all new = All-push P works (Make fork) all (new (Make fork) (fork_self fork))
new_works P frames works (Truncate rel count) all new =
    All-push P works (Cut (main_fork rel) count) all (new (Cut (main_fork rel) count) (both (is_same_fork (main_fork rel) (main_fork rel)) (count == count) (fork_self (main_fork rel)) (eq-eqb count count refl)))
new_works P frames works (Change items) all new = all
new_works P frames works (Drop rels) all new = dropped_works P frames works rels all (λ gone of. new (Remove gone) of)
new_works P frames works (Mark marking) all new = all

-- one of the partition's own
pub caused_on : (xs : List Entry) (e : Entry) (frames : Store) (dirty : List BlockId) (works : List Work) → ComesFrom xs dirty works → ComesFrom (xs ++ (e ∷ [])) (dirty_after dirty e.act) (works_after frames works e.act)
caused_on xs e frames dirty works c = record {
  touched = λ fork b now. list_any-append (touches fork b) xs (e ∷ []) ∙ elim (dirty_before dirty e.act fork b now) [
    | inl here ↦ or_right (list_any (touches fork b) xs) (list_any (touches fork b) (e ∷ [])) (ap (λ c. c || false) here)
    | inr before ↦ or_left (list_any (touches fork b) xs) (list_any (touches fork b) (e ∷ [])) (c.touched fork b before)
  ];
  entered = new_works (λ (w : Work). is_entered (xs ++ (e ∷ [])) w ≡ true) frames works e.act (longer xs (e ∷ []) works c.entered) (last_entered xs e);
}

-- what is written goes
pub caused_fewer : (es : List Entry) (dirty : List BlockId) (works : List Work) (at : BlockId) → ComesFrom es (at ∷ dirty) works → ComesFrom es dirty works
caused_fewer es dirty works at c = record {
  touched = λ fork b now. c.touched fork b (or_right _ (is_dirty dirty fork b) now);
  entered = c.entered;
}

pub caused_done : (es : List Entry) (dirty : List BlockId) (work : Work) (works : List Work) → ComesFrom es dirty (work ∷ works) → ComesFrom es dirty works
caused_done es dirty work works c = record { touched = c.touched; entered = all_rest (λ (w : Work). is_entered es w ≡ true) work works c.entered }

pub caused_none : (es : List Entry) → ComesFrom es [] []
caused_none es = record { touched = λ fork b now. absurd (true≢false (sym now)); entered = All-nil (λ (w : Work). is_entered es w ≡ true) }

-- ---- works of the partition's own forks

rels_own : (q : ℕ) (rels : List Relation) (gone : ForkId) → ((other : ℕ) → (other ≡ q → ⊥) → list_any (is_rel_of other) rels ≡ false) → is_of_any gone rels ≡ true → is_of q gone ≡ true
rels_own q [] gone none named = absurd (true≢false (sym named))
rels_own q (rel ∷ rels) gone none named =
    let apart = λ (other : ℕ) (k : other ≡ q → ⊥). or_parts (is_rel_of other rel) (list_any (is_rel_of other) rels) (none other k) in
    let mine = own_rel q rel (λ other k. (apart other k).0) in
    by_test (is_fork_of gone rel)
    (λ here. by_test (is_same_fork gone (main_fork rel))
    (λ main. ap (is_of q) (fork_is gone (main_fork rel) main) ∙ mine)
    (λ not_main. ap (is_of q) (fork_is gone (init_fork rel) (or_second (is_same_fork gone (main_fork rel)) (is_same_fork gone (init_fork rel)) here not_main)) ∙ mine))
    (λ not_here. rels_own q rels gone (λ other k. (apart other k).1) (or_second (is_fork_of gone rel) (is_of_any gone rels) named not_here))

-- an act of the partition alone enters works of its forks
pub entered_own : (q : ℕ) (act : Act) (work : Work) → ConcernsNoOther q act → enters work act ≡ true → is_of q (work_fork work) ≡ true
entered_own q (Create made) (Make m) none e = ap (is_of q) (fork_is m made e) ∙ own_fork q made none
entered_own q (Create made) (Cut cut n) none e = absurd (true≢false (sym e))
entered_own q (Create made) (Remove gone) none e = absurd (true≢false (sym e))
entered_own q (Truncate rel count) (Make m) none e = absurd (true≢false (sym e))
entered_own q (Truncate rel count) (Cut cut n) none e =
    ap (is_of q) (fork_is cut (main_fork rel) (and_parts (is_same_fork cut (main_fork rel)) (n == count) e).0) ∙ own_fork q (main_fork rel) none
entered_own q (Truncate rel count) (Remove gone) none e = absurd (true≢false (sym e))
entered_own q (Change items) (Make m) none e = absurd (true≢false (sym e))
entered_own q (Change items) (Cut cut n) none e = absurd (true≢false (sym e))
entered_own q (Change items) (Remove gone) none e = absurd (true≢false (sym e))
entered_own q (Drop rels) (Make m) none e = absurd (true≢false (sym e))
entered_own q (Drop rels) (Cut cut n) none e = absurd (true≢false (sym e))
entered_own q (Drop rels) (Remove gone) none e = rels_own q rels gone none e
entered_own q (Mark marking) (Make m) none e = absurd (true≢false (sym e))
entered_own q (Mark marking) (Cut cut n) none e = absurd (true≢false (sym e))
entered_own q (Mark marking) (Remove gone) none e = absurd (true≢false (sym e))

-- so they settle no fork of another one
pub settles_own : (q : ℕ) (works : List Work) (fork : ForkId) → All (λ work. is_of q (work_fork work) ≡ true) works → is_of q fork ≡ false → is_to_settle works fork ≡ false
settles_own q [] fork all other = refl
settles_own q (w ∷ works) fork all other =
    let P = λ (work : Work). is_of q (work_fork work) ≡ true in
    let apart = λ (named : ForkId) (mine : is_of q named ≡ true). by_test (is_same_fork fork named) (λ here. absurd (true≢false (sym (ap (is_of q) (fork_is fork named here) ∙ mine) ∙ other))) (λ away. away) in
    let here : work_settles fork w ≡ false = elim w as (λ x. is_of q (work_fork x) ≡ true → work_settles fork x ≡ false) [
      | Make made ↦ apart made
      | Cut cut count ↦ λ mine. refl
      | Remove gone ↦ apart gone
    ] (all_first P w works all) in
    ap (λ c. c || is_to_settle works fork) here ∙ settles_own q works fork (all_rest P w works all) other

-- the entries from a place on, with one more
pub since_push : (point : ℕ) (history : List Entry) (e : Entry) → point ≤ e.start → since point (history ++ (e ∷ [])) ≡ since point history ++ (e ∷ [])
since_push point history e late =
    filter-append (λ (x : Entry). nat_le point x.start) history (e ∷ []) ∙ ap (λ c. since point history ++ cond c (e ∷ []) []) (le-leb point e.start late)

-- ---- so the disk covers the history

pub tidy_from : (history : List Entry) (from : ℕ) → IsOrderly 0 history → AreTidy empty history → AreTidyFrom from history
tidy_from history from orderly tidy base made = tidy_behind empty base (entries_before history from) (since from history) (subst (AreTidy empty) (in_parts from 0 history orderly) tidy) made

pub covers_of : (q : ℕ) (history : List Entry) (store : Store) (part : Part) → IsOrderly 0 history → apply_all empty history ≡ Some store → AreTidy empty history → IsPart q store part.frames → LacksUnwritten part.disk part.frames part.dirty part.works
    → ComesFrom (since part.point history) part.dirty part.works → Covers (is_of q) part.disk history part.point
covers_of q history store part orderly made tidy is lacks caused =
    let es = since part.point history in
    lagging (is_of q) part.disk store history part.point (record { orderly = orderly; made = made; tidy = tidy_from history part.point orderly tidy })
    (record {
      blocks = λ fork b mine none. lacks.same fork b (clean_of es part.dirty part.works fork b caused none) (uncut_of es part.dirty part.works fork b caused none)
          ∙ ap (λ (o : Option ForkPages). o >>= λ pages. slice_get pages b) (own q store part.frames fork is mine);
      forks = λ fork mine none. sym (unsettled part.works fork (contains_key part.disk fork) (unsettled_of es part.dirty part.works fork caused none)) ∙ lacks.forks fork ∙ ap (λ (o : Option ForkPages). is_some o) (own q store part.frames fork is mine);
    })
