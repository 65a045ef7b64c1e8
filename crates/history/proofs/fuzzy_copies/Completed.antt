-- Replay over a copy gives what replay over the store gives, where the copy is completed by the entries.
use Rattle.std.proofs.Common.{◌≡◌, ℕ, ◌<◌, ◌≤◌, Bool, true, false, cond, not, ◌&&◌, ◌||◌, List, [], ◌∷◌, ◌++◌, map, Option, Some, None, refl, sym, ap, subst, ◌∙◌, arith}
use Rattle.std.specs.Prelude.{nat_le}
use Rattle.std.proofs.lemmas.Bool.{and_parts, or_parts, or_from, or_left, or_right, false_from_ne_true}
use Rattle.std.specs.List.{list_any}
use Rattle.std.specs.FinMap.{contains_key}
use Rattle.lsn_core.specs.declared.ids.ForkId.{ForkId}
use Rattle.lsn_core.specs.declared.ids.BlockId.{BlockId}
use Rattle.lsn_core.specs.Store.{Store}
use Rattle.lsn_core.specs.Blocks.{block_of}
use Rattle.history.specs.declared.op.Edit.{Edit}
use Rattle.history.specs.declared.op.Edit.TheVariants.{Put, Patch}
use Rattle.history.specs.declared.op.Item.{Item}
use Rattle.history.specs.Entry.{Act, Create, Truncate, Change, Drop, Mark, Entry}
use Rattle.history.specs.Apply.{Rule, edited, main_fork, is_same_fork, is_of_any}
use Rattle.history.specs.Redo.{redone}
use Rattle.history.specs.Whole.{is_named, is_patch}
use Rattle.history.specs.Laws.{AreFresh, IsFresh}
use Rattle.history.proofs.Stores.{block_is}
use Rattle.history.proofs.Names.{named_more, named_here}
use Rattle.history.specs.fuzzy_copies.Touches.{is_at, is_patch_at, act_touches, act_cuts, act_settles, act_patches, resets, settles, patches}
use Rattle.history.specs.fuzzy_copies.Effects.{Effect, Stay, Reach, Alter, Clear, after_all, is_past, item_effect, act_effects, effects_on, fork_after, fork_after_all}
use Rattle.history.specs.fuzzy_copies.Orderly.{IsOrderly}
use Rattle.history.specs.fuzzy_copies.Sound.{block_lsn}
use Rattle.history.specs.fuzzy_copies.Recovered.{entries_by}
use Rattle.history.proofs.fuzzy_copies.Pages.{same_stores}
use Rattle.history.proofs.fuzzy_copies.View.{entries_view, entries_fail, forks_view}
use Rattle.history.proofs.fuzzy_copies.OneBlock.{Rises, Completes, agreed, completed}

-- Two replays that do the same to each block, and make the same forks, are one.
both_done : (o p : Option (List ℕ)) (m n : Option (Option (List ℕ))) → m ≡ Some o → n ≡ Some p → m ≡ n → o ≡ p
both_done o p m n e f g = cc

one_fails : (o : Option (List ℕ)) (m n : Option (Option (List ℕ))) → m ≡ Some o → n ≡ None → m ≡ n → ⊥
one_fails o m n e f g = cc

-- by blocks and forks
pub same_by_blocks : (r q : Rule) (s t : Store) (es : List Entry)
    → ((fork : ForkId) (block : ℕ) → after_all r (effects_on fork block es) (block_of s fork block) ≡ after_all q (effects_on fork block es) (block_of t fork block))
    → ((fork : ForkId) → fork_after_all fork (contains_key s fork) es ≡ fork_after_all fork (contains_key t fork) es)
    → entries_by r s es ≡ entries_by q t es
same_by_blocks r q s t es blocks forks =
    elim (entries_by r s es) as (λ m. entries_by r s es ≡ m → m ≡ entries_by q t es) [
      | Some a ↦ λ left. elim (entries_by q t es) as (λ n. entries_by q t es ≡ n → Some a ≡ n) [
        | Some b ↦ λ right. ap (λ (x : Store). Some x) (same_stores a b
            (λ fork. forks_view r s a es left fork ∙ forks fork ∙ sym (forks_view q t b es right fork))
            (λ fork block. both_done (block_of a fork block) (block_of b fork block) _ _ (entries_view r s a es left fork block) (entries_view q t b es right fork block) (blocks fork block)))
        | None ↦ λ right. let f = entries_fail q t es right in absurd (one_fails (block_of a f.fork f.block) _ _ (entries_view r s a es left f.fork f.block) f.fails (blocks f.fork f.block))
      ] refl
      | None ↦ λ left. elim (entries_by q t es) as (λ n. entries_by q t es ≡ n → None ≡ n) [
        | Some b ↦ λ right. let f = entries_fail r s es left in absurd (one_fails (block_of b f.fork f.block) _ _ (entries_view q t b es right f.fork f.block) f.fails (sym (blocks f.fork f.block)))
        | None ↦ λ right. refl
      ] refl
    ] refl

-- edits rise in what entries do to a block
weaker : (a b : ℕ) (xs : List Effect) → a ≤ b → Rises b xs → Rises a xs
weaker a b [] h r = tt
weaker a b (Stay ∷ xs) h r = weaker a b xs h r
weaker a b (Reach ∷ xs) h r = weaker a b xs h r
weaker a b (Alter end (Put page) ∷ xs) h r = (let k = r.0 in omega arith, r.1)
weaker a b (Alter end (Patch frags) ∷ xs) h r = (let k = r.0 in omega arith, r.1)
weaker a b (Clear ∷ xs) h r = weaker a b xs h r

pub either_none : (a : Bool) → (a || false) ≡ true → a ≡ true
either_none true e = refl
either_none false e = e

pub and_second : (a b : Bool) → (a && b) ≡ false → a ≡ true → b ≡ false
and_second true b e f = e
and_second false b e f = absurd cc

pub or_second : (a b : Bool) → (a || b) ≡ true → a ≡ false → b ≡ true
or_second true b e f = absurd cc
or_second false b e f = e

-- an item by what it does to the block
pub by_effect : (P : List Effect → Type 0) (fork : ForkId) (block end : ℕ) (item : Item) (xs : List Effect)
    → (is_at fork block item ≡ true → P (Alter end item.edit ∷ xs)) → (is_at fork block item ≡ false → P (Reach ∷ xs)) → (is_at fork block item ≡ false → P (Stay ∷ xs)) → P (item_effect fork block end item ∷ xs)
by_effect P fork block end item xs turn reach stay =
    elim (is_at fork block item) as (λ s. is_at fork block item ≡ s → P (cond s (Alter end item.edit) (cond (is_past fork block item) Reach Stay) ∷ xs)) [
      | true ↦ λ e. turn e
      | false ↦ λ e. elim (is_past fork block item) as (λ s. P (cond s Reach Stay ∷ xs)) [ true ↦ reach e | false ↦ stay e ]
    ] refl

rises_put : (last end : ℕ) (edit : Edit) (xs : List Effect) → is_patch edit ≡ false → last ≤ end → Rises end xs → Rises last (Alter end edit ∷ xs)
rises_put last end (Put page) xs e h r = (h, r)
rises_put last end (Patch frags) xs e h r = absurd cc

rises_any : (last end : ℕ) (edit : Edit) (xs : List Effect) → last < end → Rises end xs → Rises last (Alter end edit ∷ xs)
rises_any last end (Put page) xs h r = (omega arith, r)
rises_any last end (Patch frags) xs h r = (h, r)

-- behind an item of the same entry at the block, where no patch comes
later_items : (end : ℕ) (fork : ForkId) (block : ℕ) (items : List Item) (xs : List Effect) → list_any (is_patch_at fork block) items ≡ false → Rises end xs → Rises end (map (item_effect fork block end) items ++ xs)
later_items end fork block [] xs e r = r
later_items end fork block (item ∷ items) xs e r =
    let p = or_parts (is_at fork block item && is_patch item.edit) (list_any (is_patch_at fork block) items) e in
    let rest : Rises end (map (item_effect fork block end) items ++ xs) = later_items end fork block items xs p.1 r in
    by_effect (Rises end) fork block end item (map (item_effect fork block end) items ++ xs) (λ at. rises_put end end item.edit _ (and_second (is_at fork block item) (is_patch item.edit) p.0 at) (omega arith) rest) (λ _. rest) (λ _. rest)

pub same_place : (fork : ForkId) (block : ℕ) (item : Item) → is_at fork block item ≡ true → ◌≡◌ {A = BlockId} (record { fork = fork; block = block }) item.at
same_place fork block item e = block_is (record { fork = fork; block = block }) item.at e

-- no patch of a block that was named comes again
no_later : (named : List BlockId) (fork : ForkId) (block : ℕ) (items : List Item) → AreFresh named items → is_named (record { fork = fork; block = block }) named ≡ true → list_any (is_patch_at fork block) items ≡ false
no_later named fork block [] fresh n = refl
no_later named fork block (item ∷ items) fresh n =
    let at : BlockId = record { fork = fork; block = block } in
    or_from (is_patch_at fork block item) (list_any (is_patch_at fork block) items)
    (false_from_ne_true (is_patch_at fork block item) (λ k.
    let p = and_parts (is_at fork block item) (is_patch item.edit) k in
    let again : is_named item.at named ≡ true = sym (ap (λ q. is_named q named) (same_place fork block item p.0)) ∙ n in
    let f = fresh.0 in let e = p.1 in cc))
    (no_later (named ++ (item.at ∷ [])) fork block items fresh.1 (named_more at item.at named ∙ or_left (is_named at named) _ n))

items_rise : (last end : ℕ) (named : List BlockId) (fork : ForkId) (block : ℕ) (items : List Item) (xs : List Effect) → last < end → AreFresh named items → Rises end xs → Rises last (map (item_effect fork block end) items ++ xs)
items_rise last end named fork block [] xs h fresh r = weaker last end xs (omega arith) r
items_rise last end named fork block (item ∷ items) xs h fresh r =
    let more : List BlockId = named ++ (item.at ∷ []) in
    let rest : Rises last (map (item_effect fork block end) items ++ xs) = items_rise last end more fork block items xs h fresh.1 r in
    by_effect (Rises last) fork block end item (map (item_effect fork block end) items ++ xs)
    (λ at. rises_any last end item.edit _ h (later_items end fork block items xs (no_later more fork block items fresh.1 (named_here (record { fork = fork; block = block }) item.at named at)) r))
    (λ _. rest) (λ _. rest)

act_rises : (last end : ℕ) (fork : ForkId) (block : ℕ) (act : Act) (xs : List Effect) → last < end → IsFresh act → Rises end xs → Rises last (act_effects fork block end act ++ xs)
act_rises last end fork block (Create made) xs h fresh r = weaker last end xs (omega arith) r
act_rises last end fork block (Truncate rel count) xs h fresh r =
    elim (is_same_fork fork (main_fork rel) && nat_le count block) as (λ s. Rises last (cond s Clear Stay ∷ xs)) [ true ↦ weaker last end xs (omega arith) r | false ↦ weaker last end xs (omega arith) r ]
act_rises last end fork block (Change items) xs h fresh r = items_rise last end [] fork block items xs h fresh r
act_rises last end fork block (Drop rels) xs h fresh r =
    elim (is_of_any fork rels) as (λ s. Rises last (cond s Clear Stay ∷ xs)) [ true ↦ weaker last end xs (omega arith) r | false ↦ weaker last end xs (omega arith) r ]
act_rises last end fork block (Mark marking) xs h fresh r = weaker last end xs (omega arith) r

pub rises : (last : ℕ) (es : List Entry) (fork : ForkId) (block : ℕ) → IsOrderly last es → Rises last (effects_on fork block es)
rises last [] fork block r = tt
rises last (e ∷ es) fork block r = act_rises last e.end fork block e.act (effects_on fork block es) (let h = r.0 in let k = r.1 in omega arith) r.2 (rises e.end es fork block r.3)

complete_put : (end : ℕ) (edit : Edit) (xs : List Effect) → is_patch edit ≡ false → Completes (Alter end edit ∷ xs)
complete_put end (Put page) xs e = tt
complete_put end (Patch frags) xs e = absurd cc

items_complete : (fork : ForkId) (block end : ℕ) (items : List Item) (xs : List Effect) → list_any (is_at fork block) items ≡ true → list_any (is_patch_at fork block) items ≡ false → Completes (map (item_effect fork block end) items ++ xs)
items_complete fork block end [] xs any none = absurd cc
items_complete fork block end (item ∷ items) xs any none =
    let p = or_parts (is_at fork block item && is_patch item.edit) (list_any (is_patch_at fork block) items) none in
    let rest : is_at fork block item ≡ false → Completes (map (item_effect fork block end) items ++ xs) = λ e. items_complete fork block end items xs (or_second (is_at fork block item) (list_any (is_at fork block) items) any e) p.1 in
    by_effect Completes fork block end item (map (item_effect fork block end) items ++ xs) (λ at. complete_put end item.edit _ (and_second (is_at fork block item) (is_patch item.edit) p.0 at)) rest rest

items_pass : (fork : ForkId) (block end : ℕ) (items : List Item) (xs : List Effect) → list_any (is_at fork block) items ≡ false → Completes xs → Completes (map (item_effect fork block end) items ++ xs)
items_pass fork block end [] xs none c = c
items_pass fork block end (item ∷ items) xs none c =
    let p = or_parts (is_at fork block item) (list_any (is_at fork block) items) none in
    let rest = items_pass fork block end items xs p.1 c in
    by_effect Completes fork block end item (map (item_effect fork block end) items ++ xs) (λ at. absurd cc) (λ _. rest) (λ _. rest)

act_completes : (fork : ForkId) (block end : ℕ) (act : Act) (xs : List Effect) → (act_touches fork block act || act_cuts fork block act) ≡ true → act_patches fork block act ≡ false → Completes (act_effects fork block end act ++ xs)
act_completes fork block end (Create made) xs any none = absurd cc
act_completes fork block end (Truncate rel count) xs any none = subst (λ s. Completes (cond s Clear Stay ∷ xs)) (sym any) tt
act_completes fork block end (Change items) xs any none = items_complete fork block end items xs (either_none (list_any (is_at fork block) items) any) none
act_completes fork block end (Drop rels) xs any none = subst (λ s. Completes (cond s Clear Stay ∷ xs)) (sym any) tt
act_completes fork block end (Mark marking) xs any none = absurd cc

act_passes : (fork : ForkId) (block end : ℕ) (act : Act) (xs : List Effect) → (act_touches fork block act || act_cuts fork block act) ≡ false → Completes xs → Completes (act_effects fork block end act ++ xs)
act_passes fork block end (Create made) xs none c = c
act_passes fork block end (Truncate rel count) xs none c = subst (λ s. Completes (cond s Clear Stay ∷ xs)) (sym none) c
act_passes fork block end (Change items) xs none c = items_pass fork block end items xs (or_parts (list_any (is_at fork block) items) false none).0 c
act_passes fork block end (Drop rels) xs none c = subst (λ s. Completes (cond s Clear Stay ∷ xs)) (sym none) c
act_passes fork block end (Mark marking) xs none c = c

-- what completes a copy completes each block that it resets
completes : (fork : ForkId) (block : ℕ) (es : List Entry) → list_any (resets fork block) es ≡ true
    → ((front : List Entry) (e : Entry) (back : List Entry) → es ≡ front ++ (e ∷ back) → patches fork block e ≡ true → list_any (resets fork block) front ≡ true)
    → Completes (effects_on fork block es)
completes fork block [] any deltas = absurd cc
completes fork block (e ∷ es) any deltas =
    elim (resets fork block e) as (λ b. resets fork block e ≡ b → Completes (act_effects fork block e.end e.act ++ effects_on fork block es)) [
      | true ↦ λ reset. act_completes fork block e.end e.act (effects_on fork block es) reset (false_from_ne_true (patches fork block e) (λ p. let k = deltas [] e es refl p in cc))
      | false ↦ λ none. act_passes fork block e.end e.act (effects_on fork block es) none
          (completes fork block es (or_second (resets fork block e) (list_any (resets fork block) es) any none)
          (λ front d back is p. or_second (resets fork block e) (list_any (resets fork block) front) (deltas (e ∷ front) d back (ap (λ (l : List Entry). e ∷ l) is) p) none))
    ] refl

-- a fork that is dropped isn't there
gone_now : (there dropped : Bool) → dropped ≡ true → (there && not dropped) ≡ false
gone_now true dropped e = ap not e
gone_now false dropped e = refl

-- a fork that an entry creates is there, and one that is there in both stores or in none stays so
fork_created : (fork : ForkId) (a b : Bool) (act : Act) → act_settles fork act ≡ true → fork_after fork a act ≡ fork_after fork b act
fork_created fork a b (Create made) e = or_right a _ e ∙ sym (or_right b _ e)
fork_created fork a b (Truncate rel count) e = absurd cc
fork_created fork a b (Change items) e = absurd cc
fork_created fork a b (Drop rels) e = gone_now a (is_of_any fork rels) e ∙ sym (gone_now b (is_of_any fork rels) e)
fork_created fork a b (Mark marking) e = absurd cc

pub forks_settled : (fork : ForkId) (a b : Bool) (es : List Entry) → (list_any (settles fork) es ≡ false → a ≡ b) → fork_after_all fork a es ≡ fork_after_all fork b es
forks_settled fork a b [] same = same refl
forks_settled fork a b (e ∷ es) same =
    forks_settled fork (fork_after fork a e.act) (fork_after fork b e.act) es (λ none.
    elim (settles fork e) as (λ c. settles fork e ≡ c → fork_after fork a e.act ≡ fork_after fork b e.act) [
      | true ↦ λ made. fork_created fork a b e.act made
      | false ↦ λ not. ap (λ t. fork_after fork t e.act) (same (or_from (settles fork e) _ not none))
    ] refl)

-- a copy that replay of these entries makes the same as a store after them
pub record IsCompleted (copy base : Store) (window : List Entry) : Type 0 where
  pub blocks : (fork : ForkId) (block : ℕ) → list_any (resets fork block) window ≡ false → block_of copy fork block ≡ block_of base fork block
  pub forks : (fork : ForkId) → list_any (settles fork) window ≡ false → contains_key copy fork ≡ contains_key base fork
  pub deltas : (fork : ForkId) (block : ℕ) (front : List Entry) (e : Entry) (back : List Entry) → window ≡ front ++ (e ∷ back) → patches fork block e ≡ true → list_any (resets fork block) front ≡ true

-- the law on a window of entries
pub window_law : (copy base : Store) (last : ℕ) (window : List Entry) → ((fork : ForkId) (block : ℕ) → block_lsn (block_of base fork block) ≤ last) → IsOrderly last window → IsCompleted copy base window → entries_by redone copy window ≡ entries_by edited base window
window_law copy base last window old orderly done =
    same_by_blocks redone edited copy base window
    (λ fork block. elim (list_any (resets fork block) window) as (λ b. list_any (resets fork block) window ≡ b → after_all redone (effects_on fork block window) (block_of copy fork block) ≡ after_all edited (effects_on fork block window) (block_of base fork block)) [
      | true ↦ λ some. completed last (effects_on fork block window) (block_of copy fork block) (block_of base fork block) (completes fork block window some (done.deltas fork block)) (rises last window fork block orderly)
      | false ↦ λ none. ap (after_all redone (effects_on fork block window)) (done.blocks fork block none) ∙ agreed last (effects_on fork block window) (block_of base fork block) (old fork block) (rises last window fork block orderly)
    ] refl)
    (λ fork. forks_settled fork (contains_key copy fork) (contains_key base fork) window (done.forks fork))
