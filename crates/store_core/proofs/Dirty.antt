-- The dirty blocks of a partition after an act.
use Rattle.std.proofs.Common.{◌≡◌, ℕ, Bool, true, false, cond, ◌&&◌, ◌||◌, List, [], ◌∷◌, inl, inr, refl, ap, sym, ◌∙◌, arith, true≢false}
use Rattle.std.specs.Prelude.{◌⊎◌, nat_le, not}
use Rattle.std.specs.List.{list_any, filter}
use Rattle.std.specs.Ordering.{nat_cmp, ordering_then}
use Rattle.std.specs.FinMap.{nat_cmp-IsAntisymmetric}
use Rattle.std.specs.declared.cmp.Ordering.{Ordering}
use Rattle.std.specs.declared.cmp.Ordering.TheVariants.{Less, Equal, Greater}
use Rattle.std.proofs.lemmas.Bool.{or_parts, le-leb}
use Rattle.lsn_core.specs.Relation.{Relation}
use Rattle.lsn_core.specs.declared.ids.ForkId.{ForkId}
use Rattle.lsn_core.specs.declared.ids.BlockId.{BlockId}
use Rattle.lsn_core.specs.Store.{fork_cmp}
use Rattle.lsn_core.proofs.ForkOrder.{fork_cmp-IsAntisymmetric}
use Rattle.history.specs.declared.op.Item.{Item}
use Rattle.history.specs.Entry.{Act, Create, Truncate, Change, Drop, Mark}
use Rattle.history.specs.Apply.{main_fork, init_fork, is_same_fork, is_same_block}
use Rattle.history.specs.Whole.{is_named}
use Rattle.history.proofs.Stores.{by_test, block_is}
use Rattle.history.specs.fuzzy_copies.Touches.{is_at, act_touches, act_cuts}
use Rattle.store_core.specs.Parts.{block_cmp, placed_by, with_dirty, items_dirty, dirty_after}
use Rattle.store_core.specs.Facts.{is_dirty}
use Rattle.store_core.specs.InMemory.{uncut}

-- blocks that tie are one
then_equal : (a b : Ordering) → ordering_then a b ≡ Equal → (a ≡ Equal) × (b ≡ Equal)
then_equal Less b e = absurd cc
then_equal Equal b e = (refl, e)
then_equal Greater b e = absurd cc

block_ties : (a b : BlockId) → block_cmp a b ≡ Equal → a ≡ b
block_ties a b e =
    let p = then_equal (fork_cmp a.fork b.fork) (nat_cmp a.block b.block) e in
    let fork = fork_cmp-IsAntisymmetric a.fork b.fork p.0 in
    let block = nat_cmp-IsAntisymmetric a.block b.block p.1 in
    λ i. record { fork = fork i; block = block i }

twice : (a b : Bool) → (a || b) ≡ (a || (a || b))
twice true b = refl
twice false b = refl

swapped : (a b c : Bool) → (b || (a || c)) ≡ (a || (b || c))
swapped true true c = refl
swapped true false c = refl
swapped false true c = refl
swapped false false c = refl

-- a block more
pub named_dirty : (q at : BlockId) (dirty : List BlockId) → is_named q (with_dirty at dirty) ≡ (is_same_block q at || is_named q dirty)
named_dirty q at [] = refl
named_dirty q at (first ∷ rest) =
    elim (block_cmp at first) as (λ o. block_cmp at first ≡ o → is_named q (placed_by o at first rest (with_dirty at rest)) ≡ (is_same_block q at || is_named q (first ∷ rest))) [
      | Less ↦ λ e. refl
      | Equal ↦ λ e.
          twice (is_same_block q first) (is_named q rest) ∙ ap (λ (b : BlockId). is_same_block q b || (is_same_block q first || is_named q rest)) (sym (block_ties at first e))
      | Greater ↦ λ e. ap (λ c. is_same_block q first || c) (named_dirty q at rest) ∙ swapped (is_same_block q at) (is_same_block q first) (is_named q rest)
    ] refl

joined : (a b c : Bool) → (b || (a || c)) ≡ ((a || b) || c)
joined true true c = refl
joined true false c = refl
joined false b c = refl

items_named : (dirty : List BlockId) (items : List Item) (fork : ForkId) (b : ℕ) → is_dirty (items_dirty dirty items) fork b ≡ (list_any (is_at fork b) items || is_dirty dirty fork b)
items_named dirty [] fork b = refl
items_named dirty (item ∷ items) fork b =
    items_named (with_dirty item.at dirty) items fork b ∙ ap (λ c. list_any (is_at fork b) items || c) (named_dirty (record { fork = fork; block = b }) item.at dirty)
    ∙ joined (is_at fork b item) (list_any (is_at fork b) items) (is_dirty dirty fork b)

-- some of the blocks
kept_named : (keep : BlockId → Bool) (q : BlockId) (dirty : List BlockId) → keep q ≡ true → is_named q (filter keep dirty) ≡ is_named q dirty
kept_named keep q [] k = refl
kept_named keep q (first ∷ rest) k =
    let few = filter keep rest in
    let more = kept_named keep q rest k in
    by_test (keep first)
    (λ kept. ap (λ c. is_named q (cond c (first ∷ few) few)) kept ∙ ap (λ c. is_same_block q first || c) more)
    (λ out.
    let apart : is_same_block q first ≡ false = by_test (is_same_block q first) (λ here. absurd (true≢false (sym k ∙ ap keep (block_is q first here) ∙ out))) (λ away. away) in
    ap (λ c. is_named q (cond c (first ∷ few) few)) out ∙ more ∙ sym (ap (λ c. c || is_named q rest) apart))

some_named : (keep : BlockId → Bool) (q : BlockId) (dirty : List BlockId) → is_named q (filter keep dirty) ≡ true → is_named q dirty ≡ true
some_named keep q [] n = n
some_named keep q (first ∷ rest) n =
    let few = filter keep rest in
    by_test (is_same_block q first)
    (λ here. ap (λ c. c || is_named q rest) here)
    (λ away.
    let left : is_named q few ≡ true = by_test (keep first)
    (λ kept. sym (ap (λ c. is_named q (cond c (first ∷ few) few)) kept ∙ ap (λ c. c || is_named q few) away) ∙ n)
    (λ out. sym (ap (λ c. is_named q (cond c (first ∷ few) few)) out) ∙ n) in
    ap (λ c. c || is_named q rest) away ∙ some_named keep q rest left)

kept_not : (t : Bool) → t ≡ false → not t ≡ true
kept_not t e = ap not e

-- a block that is clean after an act, and that the act doesn't cut off, was clean before and isn't touched
pub clean_before : (dirty : List BlockId) (act : Act) (fork : ForkId) (b : ℕ) → is_dirty (dirty_after dirty act) fork b ≡ false → act_cuts fork b act ≡ false → (act_touches fork b act ≡ false) × (is_dirty dirty fork b ≡ false)
clean_before dirty (Create made) fork b clean uncut = (refl, clean)
clean_before dirty (Truncate rel count) fork b clean uncut =
    (refl, sym (kept_named (λ at. not (act_cuts at.fork at.block (Truncate rel count))) (record { fork = fork; block = b }) dirty (kept_not (act_cuts fork b (Truncate rel count)) uncut)) ∙ clean)
clean_before dirty (Change items) fork b clean uncut = or_parts (list_any (is_at fork b) items) (is_dirty dirty fork b) (sym (items_named dirty items fork b) ∙ clean)
clean_before dirty (Drop rels) fork b clean uncut =
    (refl, sym (kept_named (λ at. not (act_cuts at.fork at.block (Drop rels))) (record { fork = fork; block = b }) dirty (kept_not (act_cuts fork b (Drop rels)) uncut)) ∙ clean)
clean_before dirty (Mark marking) fork b clean uncut = (refl, clean)

either : (a b : Bool) → (a || b) ≡ true → (a ≡ true) ⊎ (b ≡ true)
either true b e = inl refl
either false b e = inr e

-- a block that is dirty after it was so before or is touched
pub dirty_before : (dirty : List BlockId) (act : Act) (fork : ForkId) (b : ℕ) → is_dirty (dirty_after dirty act) fork b ≡ true → (act_touches fork b act ≡ true) ⊎ (is_dirty dirty fork b ≡ true)
dirty_before dirty (Create made) fork b e = inr e
dirty_before dirty (Truncate rel count) fork b e = inr (some_named (λ at. not (act_cuts at.fork at.block (Truncate rel count))) (record { fork = fork; block = b }) dirty e)
dirty_before dirty (Change items) fork b e = either (list_any (is_at fork b) items) (is_dirty dirty fork b) (sym (items_named dirty items fork b) ∙ e)
dirty_before dirty (Drop rels) fork b e = inr (some_named (λ at. not (act_cuts at.fork at.block (Drop rels))) (record { fork = fork; block = b }) dirty e)
dirty_before dirty (Mark marking) fork b e = inr e

kept_keeps : (keep : BlockId → Bool) (q : BlockId) (dirty : List BlockId) → is_named q (filter keep dirty) ≡ true → keep q ≡ true
kept_keeps keep q [] n = absurd (true≢false (sym n))
kept_keeps keep q (first ∷ rest) n =
    let few = filter keep rest in
    by_test (keep first)
    (λ kept. by_test (is_same_block q first)
    (λ here. ap keep (block_is q first here) ∙ kept)
    (λ away. kept_keeps keep q rest (sym (ap (λ c. is_named q (cond c (first ∷ few) few)) kept ∙ ap (λ c. c || is_named q few) away) ∙ n)))
    (λ out. kept_keeps keep q rest (sym (ap (λ c. is_named q (cond c (first ∷ few) few)) out) ∙ n))

not_true : (t : Bool) → not t ≡ true → t ≡ false
not_true true e = absurd (true≢false (sym e))
not_true false e = refl

-- what an act cuts off isn't dirty after it
pub uncut_dirty : (dirty : List BlockId) (act : Act) (fork : ForkId) (b : ℕ) → is_dirty (dirty_after dirty act) fork b ≡ true → act_cuts fork b act ≡ false
uncut_dirty dirty (Create made) fork b e = refl
uncut_dirty dirty (Truncate rel count) fork b e =
    not_true (act_cuts fork b (Truncate rel count)) (kept_keeps (λ at. not (act_cuts at.fork at.block (Truncate rel count))) (record { fork = fork; block = b }) dirty e)
uncut_dirty dirty (Change items) fork b e = refl
uncut_dirty dirty (Drop rels) fork b e = not_true (act_cuts fork b (Drop rels)) (kept_keeps (λ at. not (act_cuts at.fork at.block (Drop rels))) (record { fork = fork; block = b }) dirty e)
uncut_dirty dirty (Mark marking) fork b e = refl

-- ---- a dropped relation

-- what two tests keep in turn
kept_twice : (p q both : BlockId → Bool) (dirty : List BlockId) → ((at : BlockId) → (p at && q at) ≡ both at) → filter q (filter p dirty) ≡ filter both dirty
kept_twice p q both [] same = refl
kept_twice p q both (at ∷ dirty) same =
    let few = filter p dirty in
    let rest = filter both dirty in
    let more = kept_twice p q both dirty same in
    by_test (p at)
    (λ kept.
    ap (λ c. filter q (cond c (at ∷ few) few)) kept ∙ ap (λ (xs : List BlockId). cond (q at) (at ∷ xs) xs) more
    ∙ ap (λ c. cond c (at ∷ rest) rest) (sym (ap (λ c. c && q at) kept) ∙ same at))
    (λ out. ap (λ c. filter q (cond c (at ∷ few) few)) out ∙ more ∙ sym (ap (λ c. cond c (at ∷ rest) rest) (sym (same at) ∙ ap (λ c. c && q at) out)))

of_neither : (main init past : Bool) → past ≡ true → (not (main && past) && not (init && past)) ≡ not ((main || init) || false)
of_neither true init past e = ap (λ c. not c && not (init && c)) e
of_neither false true past e = ap not e
of_neither false false past e = refl

-- its forks are cut off one after the other
pub dropped_dirty : (rel : Relation) (dirty : List BlockId) → uncut (init_fork rel) 0 (uncut (main_fork rel) 0 dirty) ≡ dirty_after dirty (Drop (rel ∷ []))
dropped_dirty rel dirty =
    kept_twice (λ at. not (is_same_fork at.fork (main_fork rel) && nat_le 0 at.block)) (λ at. not (is_same_fork at.fork (init_fork rel) && nat_le 0 at.block))
    (λ at. not (act_cuts at.fork at.block (Drop (rel ∷ [])))) dirty
    (λ at. of_neither (is_same_fork at.fork (main_fork rel)) (is_same_fork at.fork (init_fork rel)) (nat_le 0 at.block) (le-leb 0 at.block (omega arith)))
