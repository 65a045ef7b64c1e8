-- Over pages of no later LSN the test of LSNs changes nothing.
use Rattle.std.proofs.Common.{◌≡◌, ℕ, ◌<◌, ◌≤◌, ◌^◌, Bool, true, false, cond, nat_lt, List, [], ◌∷◌, ◌++◌, map, get_or, take, zero, suc, Option, Some, None, option_map, unwrap_or, inl, inr, refl, ap, sym, subst, ◌∙◌, arith, true≢false, ⊎_elim, ◌⊎◌}
use Rattle.std.proofs.lemmas.Bool.Decides.{leb_tells}
use Rattle.std.specs.FinMap.{get, insert, contains_key}
use Rattle.lsn_core.specs.byte_words.Numbers.{◌>>=◌}
use Rattle.lsn_core.proofs.byte_words.Fields.{bind_some}
use Rattle.lsn_core.specs.declared.ids.BlockId.{BlockId}
use Rattle.lsn_core.specs.Relation.{Relation}
use Rattle.lsn_core.specs.declared.ids.ForkId.{ForkId}
use Rattle.lsn_core.specs.Store.{Store, ForkPages}
use Rattle.lsn_core.specs.Blocks.{page_put, with_cut_pages, with_cut, with_fork}
use Rattle.pg_page.specs.Header.{lsn_of, hole_zeroed, zero_page}
use Rattle.pg_page.specs.Frags.{Fragment, written_frags, patched, is_good}
use Rattle.pg_page.proofs.HeaderLaws.{lsn_of-with_lsn}
use Rattle.wal_record.specs.declared.record.Kind.{Kind}
use Rattle.wal_record.specs.declared.record.Kind.TheVariants as kind
use Rattle.wal_record.specs.declared.record.BlockRef.{BlockRef}
use Rattle.history.specs.declared.op.Edit.{Edit}
use Rattle.history.specs.declared.op.Edit.TheVariants.{Put, Patch}
use Rattle.history.specs.declared.op.Item.{Item}
use Rattle.history.specs.Entry.{Act, Create, Truncate, Change, Drop, Mark}
use Rattle.history.specs.Apply.{edited, is_same_block, is_same_fork, is_of_any, without_rels, page_at, main_fork, items_by, act_by, apply_item, apply_items, apply_act}
use Rattle.history.specs.Whole.{edit_of, item_of, is_named, is_repeat, said_behind, cuts_main, act_with, act_of}
use Rattle.history.specs.Redo.{redone, redo_all, AreBelow, TestsChangeNothing}
use Rattle.history.proofs.Stores.{fork_is, get_here, get_there, get_without_rels, by_test, block_is, page_apart, page_here, put_same, lsn_of-zero_page}
use Rattle.history.proofs.Names.{named_here, named_there, named_again}

-- an edited page has the entry's end as its LSN
patched_lsn : (frags : List Fragment) (end : ℕ) (old : List ℕ) → end < 2 ^ 64 → lsn_of (patched frags end old) ≡ end
unfolding patched
patched_lsn frags end old fits = lsn_of-with_lsn end (hole_zeroed (written_frags frags old)) fits

from_test : (t : Bool) (page out : List ℕ) → cond t (Some page) None ≡ Some out → page ≡ out
from_test true page out e = cc
from_test false page out e = absurd cc

edited_lsn : (end : ℕ) (old out : List ℕ) (edit : Edit) → end < 2 ^ 64 → edited end old edit ≡ Some out → lsn_of out ≡ end
edited_lsn end old out (Put page) fits e = ap (λ (o : Option (List ℕ)). lsn_of (unwrap_or o out)) (sym e) ∙ lsn_of-with_lsn end (hole_zeroed page) fits
edited_lsn end old out (Patch frags) fits e = ap lsn_of (sym (from_test (is_good (written_frags frags old)) (patched frags end old) out e)) ∙ patched_lsn frags end old fits

-- the store after an item that was applied
record Applied (end : ℕ) (store next : Store) (at : BlockId) : Type 0 where
  page : List ℕ
  made : page_put at page store ≡ next
  lsn : lsn_of page ≡ end

applied : (end : ℕ) (store next : Store) (item : Item) → end < 2 ^ 64 → apply_item end store item ≡ Some next → Applied end store next item.at
applied end store next item fits e = go (edited end (page_at store item.at) item.edit) refl e
  where
    go : (o : Option (List ℕ)) → edited end (page_at store item.at) item.edit ≡ o → option_map (λ page. page_put item.at page store) o ≡ Some next → Applied end store next item.at
    go None is e = absurd cc
    go (Some page) is e = record { page = page; made = ap (λ (o : Option Store). unwrap_or o next) e; lsn = edited_lsn end (page_at store item.at) page item.edit fits is }

lsn_here : (end : ℕ) (store next : Store) (at : BlockId) → Applied end store next at → lsn_of (page_at next at) ≡ end
lsn_here end store next at a = ap (λ (s : Store). lsn_of (page_at s at)) (sym a.made) ∙ ap lsn_of (page_here store at a.page) ∙ a.lsn

page_there : (end : ℕ) (store next : Store) (at q : BlockId) → Applied end store next at → is_same_block q at ≡ false → page_at next q ≡ page_at store q
page_there end store next at q a apart = ap (λ (s : Store). page_at s q) (sym a.made) ∙ page_apart store at q a.page apart

-- blocks that were named have the entry's end as their LSN, and others an earlier one
abbrev Stands : ℕ → List BlockId → Store → Type 0
Stands end named store = (q : BlockId) → (is_named q named ≡ true → end ≤ lsn_of (page_at store q)) × (is_named q named ≡ false → lsn_of (page_at store q) < end)

item_stands : (end : ℕ) (named : List BlockId) (store next : Store) (item : Item) → end < 2 ^ 64 → Stands end named store → apply_item end store item ≡ Some next → Stands end (named ++ (item.at ∷ [])) next
item_stands end named store next item fits stands e q =
    let a = applied end store next item fits e in
    by_test (is_same_block q item.at)
    (λ here.
    let lsn : lsn_of (page_at next q) ≡ end = ap (λ b. lsn_of (page_at next b)) (block_is q item.at here) ∙ lsn_here end store next item.at a in
    (λ n. omega (arith, lsn), λ n. absurd (true≢false (sym (named_here q item.at named here) ∙ n))))
    (λ apart.
    let same : lsn_of (page_at next q) ≡ lsn_of (page_at store q) = ap lsn_of (page_there end store next item.at q a apart) in
    let others : is_named q (named ++ (item.at ∷ [])) ≡ is_named q named = named_there q item.at named apart in
    (λ n. subst (λ k. end ≤ k) (sym same) ((stands q).0 (sym others ∙ n)), λ n. subst (λ k. k < end) (sym same) ((stands q).1 (sym others ∙ n))))

again_stands : (end : ℕ) (named : List BlockId) (store : Store) (at : BlockId) → is_named at named ≡ true → Stands end named store → Stands end (named ++ (at ∷ [])) store
again_stands end named store at n stands q =
    let same = named_again q at named n in
    (λ m. (stands q).0 (sym same ∙ m), λ m. (stands q).1 (sym same ∙ m))

bind_same : {A B : Type 0} (o : Option A) (f g : A → Option B) → ((x : A) → o ≡ Some x → f x ≡ g x) → (o >>= f) ≡ (o >>= g)
bind_same None f g h = refl
bind_same (Some x) f g h = h x refl

lt_tells : (a b : ℕ) {P : Type 0} → (a < b → nat_lt a b ≡ true → P) → (b ≤ a → nat_lt a b ≡ false → P) → P
lt_tells a b less more = ⊎_elim (λ x. less x.1 x.0) (λ x. more (omega (arith, x.1)) x.0) (leb_tells (suc a) b)

-- one reference and those behind it
one_again : (end : ℕ) (named : List BlockId) (store : Store) (at : BlockId) (edit : Edit) (raw told : List Item) → end < 2 ^ 64 → 0 < end → Stands end named store
    → ((next : Store) → Stands end (named ++ (at ∷ [])) next → items_by redone end next raw ≡ apply_items end next told)
    → items_by redone end store (record { at = at; edit = edit } ∷ raw) ≡ apply_items end store (cond (is_repeat named (record { at = at; edit = edit })) told (record { at = at; edit = edit } ∷ told))
one_again end named store at (Put page) raw told fits some stands rest =
    bind_same (apply_item end store (record { at = at; edit = Put page })) _ _ (λ next e. rest next (item_stands end named store next (record { at = at; edit = Put page }) fits stands e))
one_again end named store at (Patch frags) raw told fits some stands rest =
    let item : Item = record { at = at; edit = Patch frags } in
    let old = page_at store at in
    let put = λ (page : List ℕ). page_put at page store in
    by_test (is_named at named)
    (λ n.
    let later : end ≤ lsn_of old = (stands at).0 n in
    lt_tells (lsn_of old) end
    (λ less test. absurd (omega (arith, less, later)))
    (λ more test.
    ap (λ t. option_map put (cond t (edited end old (Patch frags)) (Some old)) >>= λ next. items_by redone end next raw) test
    ∙ ap (λ (s : Store). items_by redone end s raw) (put_same store at (omega (arith, later, some)))
    ∙ rest store (again_stands end named store at n stands)
    ∙ sym (ap (λ t. apply_items end store (cond t told (item ∷ told))) n)))
    (λ n.
    let earlier : lsn_of old < end = (stands at).1 n in
    lt_tells (lsn_of old) end
    (λ less test.
    ap (λ t. option_map put (cond t (edited end old (Patch frags)) (Some old)) >>= λ next. items_by redone end next raw) test
    ∙ bind_same (apply_item end store item) _ _ (λ next e. rest next (item_stands end named store next item fits stands e))
    ∙ sym (ap (λ t. apply_items end store (cond t told (item ∷ told))) n))
    (λ more test. absurd (omega (arith, more, earlier))))

blocks_again : (end : ℕ) (named : List BlockId) (store : Store) (blocks : List BlockRef) → end < 2 ^ 64 → 0 < end → Stands end named store → items_by redone end store (map item_of blocks) ≡ apply_items end store (said_behind named blocks)
blocks_again end named store [] fits some stands = refl
blocks_again end named store (block ∷ blocks) fits some stands =
    one_again end named store block.at (edit_of block.body) (map item_of blocks) (said_behind (named ++ (block.at ∷ [])) blocks) fits some stands
    (λ next st. blocks_again end (named ++ (block.at ∷ [])) next blocks fits some st)

-- after an act no page has an LSN past its end
item_below : (end : ℕ) (store next : Store) (item : Item) → end < 2 ^ 64 → AreBelow end store → apply_item end store item ≡ Some next → AreBelow end next
item_below end store next item fits below e q =
    let a = applied end store next item fits e in
    by_test (is_same_block q item.at)
    (λ here. let lsn : lsn_of (page_at next q) ≡ end = ap (λ b. lsn_of (page_at next b)) (block_is q item.at here) ∙ lsn_here end store next item.at a in omega (arith, lsn))
    (λ apart. subst (λ (p : List ℕ). lsn_of p ≤ end) (sym (page_there end store next item.at q a apart)) (below q))

items_below : (end : ℕ) (store next : Store) (items : List Item) → end < 2 ^ 64 → AreBelow end store → apply_items end store items ≡ Some next → AreBelow end next
items_below end store next [] fits below e = subst (AreBelow end) (ap (λ (o : Option Store). unwrap_or o store) e) below
items_below end store next (item ∷ items) fits below e =
    let found = bind_some (apply_item end store item) (λ s. apply_items end s items) next e in
    items_below end found.0 next items fits (item_below end store found.0 item fits below found.1) found.2

get_short : (n c : ℕ) (xs : ForkPages) (z : List ℕ) → (get_or (take n xs) c z ≡ get_or xs c z) ⊎ (get_or (take n xs) c z ≡ z)
get_short zero c xs z = inr refl
get_short (suc n) c [] z = inl refl
get_short (suc n) zero (x ∷ xs) z = inl refl
get_short (suc n) (suc c) (x ∷ xs) z = get_short n c xs z

low : (end : ℕ) → lsn_of zero_page ≤ end
low end = omega (arith, lsn_of-zero_page)

fork_below : (end : ℕ) (store : Store) (fork : ForkId) → AreBelow end store → AreBelow end (with_fork store fork)
fork_below end store fork below q = go (contains_key store fork)
  where
    go : (t : Bool) → lsn_of (page_at (cond t store (insert store fork [])) q) ≤ end
    go true = below q
    go false =
        by_test (is_same_fork q.fork fork)
        (λ here. subst (λ (p : List ℕ). lsn_of p ≤ end) (sym (ap (λ (o : Option ForkPages). get_or (unwrap_or o []) q.block zero_page) (get_here store fork q.fork [] here))) (low end))
        (λ away. subst (λ (p : List ℕ). lsn_of p ≤ end) (sym (ap (λ (o : Option ForkPages). get_or (unwrap_or o []) q.block zero_page) (get_there store fork q.fork [] away))) (below q))

cut_below : (end : ℕ) (store : Store) (fork : ForkId) (n : ℕ) → AreBelow end store → AreBelow end (with_cut store fork n)
cut_below end store fork n below q = go (get store fork) refl
  where
    go : (o : Option ForkPages) → get store fork ≡ o → lsn_of (page_at (with_cut_pages store fork n o) q) ≤ end
    go None is = below q
    go (Some pages) is =
        by_test (is_same_fork q.fork fork)
        (λ here.
        let at = ap (λ (o : Option ForkPages). get_or (unwrap_or o []) q.block zero_page) (get_here store fork q.fork (take n pages) here) in
        let old : get_or pages q.block zero_page ≡ page_at store q = ap (λ (o : Option ForkPages). get_or (unwrap_or o []) q.block zero_page) (sym (ap (get store) (fork_is q.fork fork here) ∙ is)) in
        ⊎_elim (λ s. subst (λ (p : List ℕ). lsn_of p ≤ end) (sym (at ∙ s ∙ old)) (below q)) (λ z. subst (λ (p : List ℕ). lsn_of p ≤ end) (sym (at ∙ z)) (low end)) (get_short n q.block pages zero_page))
        (λ away. subst (λ (p : List ℕ). lsn_of p ≤ end) (sym (ap (λ (o : Option ForkPages). get_or (unwrap_or o []) q.block zero_page) (get_there store fork q.fork (take n pages) away))) (below q))

rels_below : (end : ℕ) (store : Store) (rels : List Relation) → AreBelow end store → AreBelow end (without_rels store rels)
rels_below end store rels below q =
    subst (λ (p : List ℕ). lsn_of p ≤ end) (sym (ap (λ (o : Option ForkPages). get_or (unwrap_or o []) q.block zero_page) (get_without_rels store rels q.fork))) (go (is_of_any q.fork rels))
  where
    go : (t : Bool) → lsn_of (get_or (unwrap_or (cond t None (get store q.fork)) []) q.block zero_page) ≤ end
    go true = low end
    go false = below q

act_below : (end : ℕ) (store next : Store) (act : Act) → end < 2 ^ 64 → AreBelow end store → apply_act end store act ≡ Some next → AreBelow end next
act_below end store next (Create fork) fits below e = subst (AreBelow end) (ap (λ (o : Option Store). unwrap_or o store) e) (fork_below end store fork below)
act_below end store next (Truncate rel count) fits below e = subst (AreBelow end) (ap (λ (o : Option Store). unwrap_or o store) e) (cut_below end store (main_fork rel) count below)
act_below end store next (Change items) fits below e = items_below end store next items fits below e
act_below end store next (Drop rels) fits below e = subst (AreBelow end) (ap (λ (o : Option Store). unwrap_or o store) e) (rels_below end store rels below)
act_below end store next (Mark marking) fits below e = subst (AreBelow end) (ap (λ (o : Option Store). unwrap_or o store) e) below

same_cut : (end : ℕ) (store : Store) (t : Bool) (a b : Act) → act_by redone end store a ≡ apply_act end store a → act_by redone end store b ≡ apply_act end store b → act_by redone end store (cond t a b) ≡ apply_act end store (cond t a b)
same_cut end store true a b p q = p
same_cut end store false a b p q = q

kind_again : (place end : ℕ) (store : Store) (k : Kind) → end < 2 ^ 64 → place < end → AreBelow place store → act_by redone end store (act_with (map item_of) k) ≡ apply_act end store (act_of k)
kind_again place end store (kind.Shutdown at) fits l below = refl
kind_again place end store (kind.Online at) fits l below = refl
kind_again place end store (kind.RedoMark n) fits l below = refl
kind_again place end store kind.NoOp fits l below = refl
kind_again place end store (kind.BackupEnd at) fits l below = refl
kind_again place end store (kind.Images blocks) fits l below = blocks_again end [] store blocks fits (omega (arith, l)) (λ q. (λ n. absurd (true≢false (sym n)), λ n. let b = below q in omega (arith, b, l)))
kind_again place end store (kind.Generic blocks) fits l below = blocks_again end [] store blocks fits (omega (arith, l)) (λ q. (λ n. absurd (true≢false (sym n)), λ n. let b = below q in omega (arith, b, l)))
kind_again place end store (kind.Create fork) fits l below = refl
kind_again place end store (kind.Truncate rel count flags) fits l below = same_cut end store (cuts_main flags) _ _ refl refl
kind_again place end store (kind.Commit time []) fits l below = refl
kind_again place end store (kind.Commit time (rel ∷ rels)) fits l below = refl

pub tests_change_nothing : TestsChangeNothing
tests_change_nothing place store [] below rising = refl
tests_change_nothing place store (r ∷ rs) below rising =
    ap (λ (o : Option Store). o >>= λ next. redo_all next rs) (kind_again place r.end.0 store r.kind rising.1.0 rising.0 below)
    ∙ bind_same (apply_act r.end.0 store (act_of r.kind)) _ _ (λ next e.
    tests_change_nothing r.end.0 next rs (act_below r.end.0 store next (act_of r.kind) rising.1.0 (λ q. let b = below q in let l = rising.0 in omega (arith, b, l)) e) rising.1.1)
