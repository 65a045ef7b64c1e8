-- A map from fork to pages, seen as the store that it is.
use Rattle.std.proofs.Common.{◌≡◌, ℕ, Bool, true, false, cond, T, ◌&&◌, List, [], ◌∷◌, map, take, length, sum, Option, Some, None, option_map, unwrap_or, is_some, refl, sym, ap, subst, ◌∙◌}
use Rattle.std.proofs.lemmas.List.{length-map}
use Rattle.std.specs.Global.{Vec}
use Rattle.std.specs.declared.cmp.Ordering.{Ordering}
use Rattle.std.specs.declared.cmp.Ordering.TheVariants.{Less}
use Rattle.std.specs.Ordering.{is_eq, is_lt, eq_by_cmp}
use Rattle.std.specs.Cmp.{Equal-is, eq_by_cmp_equiv}
use Rattle.std.specs.List.{AllByRecursion}
use Rattle.std.specs.List.Sorted.{IsStrictlySortedBy}
use Rattle.std.specs.Map.{lookup, keys_of, values_of}
use Rattle.std.specs.BTreeMap.{BTreeMap, UpdatesBy, IsOrdered}
use Rattle.std.specs.BTreeMap as tree
use Rattle.std.specs.FinMap.{find, get, insert, remove, get-remove, contains_key, keys, len, len-entries, entries, from_sorted, is_sorted, get-from_entries, get-from_sorted, get-insert, entries-from_sorted, same_map}
use Rattle.std.specs.FinMap.Entries.{below_all}
use Rattle.lsn_core.specs.declared.ids.ForkId.{ForkId}
use Rattle.lsn_core.specs.Store.{Store, ForkPages, fork_cmp}
use Rattle.lsn_core.proofs.ForkOrder.{fork_cmp_total, fork_cmp-IsAntisymmetric, derived_cmp, derived_is}
use Rattle.std.specs.Prelude.{slice_set}
use Rattle.lsn_core.specs.declared.ids.BlockId.{BlockId}
use Rattle.lsn_core.specs.Blocks.{with_block, with_page, with_fork, with_cut_pages, with_cut}
use Rattle.history.specs.Undo.{with_set_found, with_set}
use Rattle.history.specs.Pages.{store_in, page_count}

abbrev Forks : Type 0
Forks = BTreeMap ForkId (Vec (List ℕ))

abbrev entry_of : ForkId × Vec (List ℕ) → ForkId × ForkPages
entry_of e = (e.0, e.1.items)

abbrev pages : Vec (List ℕ) → ForkPages
pages v = v.items

find-lookup : (q : ForkId) (es : List (ForkId × Vec (List ℕ))) → find fork_cmp q (map entry_of es) ≡ option_map pages (lookup (eq_by_cmp fork_cmp q) es)
find-lookup q [] = refl
find-lookup q (e ∷ es) =
    elim (is_eq (fork_cmp q e.0)) as (λ b. cond b (Some e.1.items) (find fork_cmp q (map entry_of es)) ≡ option_map pages (cond b (Some e.1) (lookup (eq_by_cmp fork_cmp q) es))) [ true ↦ refl | false ↦ find-lookup q es ]

get_in : (m : Forks) (q : ForkId) → get (store_in m) q ≡ option_map pages (tree.get fork_cmp m q)
get_in m q = get-from_entries fork_cmp_total (map entry_of m.entries) q ∙ find-lookup q m.entries

turned : (a b : ForkId) (x y : Option ForkPages) → cond (eq_by_cmp fork_cmp a b) x y ≡ cond (eq_by_cmp fork_cmp b a) x y
turned a b x y = ap (λ c. cond c x y) ((eq_by_cmp_equiv fork_cmp_total).symm a b)

mapped : (b : Bool) (x y : Option (Vec (List ℕ))) → option_map pages (cond b x y) ≡ cond b (option_map pages x) (option_map pages y)
mapped true x y = refl
mapped false x y = refl

-- what stands in the store after an insertion
store-insert : (m n : Forks) (fork : ForkId) (v : Vec (List ℕ)) → UpdatesBy fork_cmp (fork_cmp fork) m n (Some v) → store_in n ≡ insert (store_in m) fork v.items
store-insert m n fork v updates =
    same_map fork_cmp_total fork_cmp-IsAntisymmetric _ _ (λ q.
    get_in n q ∙ ap (option_map pages) (updates.0 q) ∙ mapped (eq_by_cmp fork_cmp fork q) (Some v) (tree.get fork_cmp m q)
    ∙ ap (λ x. cond (eq_by_cmp fork_cmp fork q) (Some v.items) x) (sym (get_in m q)) ∙ turned fork q (Some v.items) (get (store_in m) q)
    ∙ sym (get-insert fork_cmp_total (store_in m) fork v.items q))

-- inserted again, what stands there changes nothing
pub insert_same : (store : Store) (fork : ForkId) (found : ForkPages) → get store fork ≡ Some found → insert store fork found ≡ store
insert_same store fork found e =
    same_map fork_cmp_total fork_cmp-IsAntisymmetric _ _ (λ q.
    get-insert fork_cmp_total store fork found q
    ∙ elim (eq_by_cmp fork_cmp q fork) as (λ b. eq_by_cmp fork_cmp q fork ≡ b → cond b (Some found) (get store q) ≡ get store q) [
      | true ↦ λ tied. sym (ap (get store) (fork_cmp-IsAntisymmetric q fork ((Equal-is _).0 tied)) ∙ e)
      | false ↦ λ apart. refl
    ] refl)

both : (a b : Bool) → T a → T b → T (a && b)
both true b p q = q
both false b p q = p

below : (k : ForkId) (es : List (ForkId × Vec (List ℕ))) → AllByRecursion (λ y. fork_cmp k y ≡ Less) (keys_of es) → T (below_all fork_cmp k (map entry_of es))
below k [] h = tt
below k (e ∷ es) h = both _ _ (subst (λ r. T (is_lt r)) (sym h.0) tt) (below k es h.1)

sorted : (es : List (ForkId × Vec (List ℕ))) → IsStrictlySortedBy fork_cmp (keys_of es) → T (is_sorted fork_cmp (map entry_of es))
unfolding IsStrictlySortedBy
sorted [] h = tt
sorted (e ∷ es) h = both _ _ (below e.0 es h.0) (sorted es h.1)

entries_in : (m : Forks) → IsOrdered fork_cmp m → entries (store_in m) ≡ map entry_of m.entries
entries_in m h =
    let es = map entry_of m.entries in
    let order = sorted m.entries h in
    let same : store_in m ≡ from_sorted es = same_map fork_cmp_total fork_cmp-IsAntisymmetric _ _ (λ q. get-from_entries fork_cmp_total es q ∙ sym (get-from_sorted fork_cmp es q order)) in
    ap entries same ∙ entries-from_sorted fork_cmp es order

keys_in_entries : (es : List (ForkId × Vec (List ℕ))) → map (λ (e : ForkId × ForkPages). e.0) (map entry_of es) ≡ keys_of es
keys_in_entries [] = refl
keys_in_entries (e ∷ es) = ap (λ (ks : List ForkId). e.0 ∷ ks) (keys_in_entries es)

counts_in_entries : (es : List (ForkId × Vec (List ℕ))) → map (λ (e : ForkId × ForkPages). length e.1) (map entry_of es) ≡ map (λ (v : Vec (List ℕ)). length v.items) (values_of es)
counts_in_entries [] = refl
counts_in_entries (e ∷ es) = ap (λ (ns : List ℕ). length e.1.items ∷ ns) (counts_in_entries es)

-- What follows is in the words of the map's calls, which compare by the order that the key's type derives.

ordered : (m : Forks) → IsOrdered derived_cmp m → IsOrdered fork_cmp m
ordered m h = subst (λ (R : ForkId → ForkId → Ordering). IsOrdered R m) derived_is h

updated : (m n : Forks) (fork : ForkId) (w : Option (Vec (List ℕ))) → UpdatesBy derived_cmp (derived_cmp fork) m n w → UpdatesBy fork_cmp (fork_cmp fork) m n w
updated m n fork w u = subst (λ (R : ForkId → ForkId → Ordering). UpdatesBy R (R fork) m n w) derived_is u

pub keys_in : (m : Forks) → IsOrdered derived_cmp m → tree.keys m ≡ keys (store_in m)
keys_in m h = sym (ap (map (λ (e : ForkId × ForkPages). e.0)) (entries_in m (ordered m h)) ∙ keys_in_entries m.entries)

pub count_in : (m : Forks) → IsOrdered derived_cmp m → length m.entries ≡ len (store_in m)
count_in m h = sym (len-entries (store_in m) ∙ ap length (entries_in m (ordered m h)) ∙ length-map m.entries entry_of)

pub page_count_in : (m : Forks) → IsOrdered derived_cmp m → sum (map (λ (v : Vec (List ℕ)). length v.items) (tree.values m)) ≡ page_count (store_in m)
page_count_in m h = sym (ap (λ (es : List (ForkId × ForkPages)). sum (map (λ e. length e.1) es)) (entries_in m (ordered m h)) ∙ ap sum (counts_in_entries m.entries))

-- what stands at a fork
pub get_found : (m : Forks) (fork : ForkId) (o : Option (Vec (List ℕ))) → o ≡ tree.get derived_cmp m fork → get (store_in m) fork ≡ option_map pages o
get_found m fork o e = get_in m fork ∙ ap (option_map pages) (sym (e ∙ ap (λ (R : ForkId → ForkId → Ordering). tree.get R m fork) derived_is))

some_mapped : (o : Option (Vec (List ℕ))) → is_some (option_map pages o) ≡ is_some o
some_mapped (Some v) = refl
some_mapped None = refl

has_fork : (m : Forks) (fork : ForkId) (b : Bool) → b ≡ is_some (tree.get derived_cmp m fork) → contains_key (store_in m) fork ≡ b
has_fork m fork b e = ap is_some (get_found m fork (tree.get derived_cmp m fork) refl) ∙ some_mapped (tree.get derived_cmp m fork) ∙ sym e

pub with_fork_there : (m : Forks) (fork : ForkId) → true ≡ is_some (tree.get derived_cmp m fork) → store_in m ≡ with_fork (store_in m) fork
with_fork_there m fork e = sym (ap (λ b. cond b (store_in m) (insert (store_in m) fork [])) (has_fork m fork true e))

pub with_fork_new : (m n : Forks) (fork : ForkId) (v : Vec (List ℕ)) → false ≡ is_some (tree.get derived_cmp m fork) → UpdatesBy derived_cmp (derived_cmp fork) m n (Some v) → v.items ≡ [] → store_in n ≡ with_fork (store_in m) fork
with_fork_new m n fork v e updates none =
    store-insert m n fork v (updated m n fork (Some v) updates) ∙ ap (insert (store_in m) fork) none ∙ sym (ap (λ b. cond b (store_in m) (insert (store_in m) fork [])) (has_fork m fork false e))

-- a fork whose pages were changed at a block
pub written : (m n : Forks) (fork : ForkId) (block : ℕ) (page : List ℕ) (o : Option (Vec (List ℕ))) (w : Vec (List ℕ)) → o ≡ tree.get derived_cmp m fork → UpdatesBy derived_cmp (derived_cmp fork) m n (Some w)
    → w.items ≡ with_block (unwrap_or (option_map pages o) []) block page → store_in n ≡ with_page (store_in m) fork block page
written m n fork block page o w found updates e =
    store-insert m n fork w (updated m n fork (Some w) updates) ∙ ap (insert (store_in m) fork) (e ∙ sym (ap (λ (found : Option ForkPages). with_block (unwrap_or found []) block page) (get_found m fork o found)))

pub kept : (m n : Forks) (fork : ForkId) (found w : Vec (List ℕ)) → Some found ≡ tree.get derived_cmp m fork → UpdatesBy derived_cmp (derived_cmp fork) m n (Some w) → w.items ≡ found.items → store_in n ≡ store_in m
kept m n fork found w e updates same =
    store-insert m n fork w (updated m n fork (Some w) updates) ∙ insert_same (store_in m) fork w.items (get_found m fork (Some found) e ∙ ap (λ (ps : ForkPages). Some ps) (sym same))

-- a fork that was missing and was inserted
pub written_new : (m same n : Forks) (fork : ForkId) (block : ℕ) (page : List ℕ) (start w : Vec (List ℕ)) → same ≡ m → None ≡ tree.get derived_cmp m fork → UpdatesBy derived_cmp (derived_cmp fork) same n (Some w)
    → start.items ≡ [] → w.items ≡ with_block start.items block page → store_in n ≡ with_page (store_in m) fork block page
written_new m same n fork block page start w e found updates none put =
    written m n fork block page None w found (subst (λ m. UpdatesBy derived_cmp (derived_cmp fork) m n (Some w)) e updates) (put ∙ ap (λ (ps : ForkPages). with_block ps block page) none)

-- a fork that was cut, and a missing one that stays so
pub cut_there : (m n : Forks) (fork : ForkId) (count : ℕ) (found w : Vec (List ℕ)) → Some found ≡ tree.get derived_cmp m fork → UpdatesBy derived_cmp (derived_cmp fork) m n (Some w) → w.items ≡ take count found.items → store_in n ≡ with_cut (store_in m) fork count
cut_there m n fork count found w e updates cut =
    store-insert m n fork w (updated m n fork (Some w) updates)
    ∙ ap (insert (store_in m) fork) cut
    ∙ sym (ap (with_cut_pages (store_in m) fork count) (get_found m fork (Some found) e))

pub cut_missing : (m same : Forks) (fork : ForkId) (count : ℕ) → same ≡ m → None ≡ tree.get derived_cmp m fork → store_in same ≡ with_cut (store_in m) fork count
cut_missing m same fork count e none =
    ap store_in e ∙ sym (ap (with_cut_pages (store_in m) fork count) (get_found m fork None none))

-- a fork that was taken away
pub unmade : (m n : Forks) (fork : ForkId) → UpdatesBy derived_cmp (derived_cmp fork) m n None → store_in n ≡ remove (store_in m) fork
unmade m n fork u =
    let updates = updated m n fork None u in
    same_map fork_cmp_total fork_cmp-IsAntisymmetric _ _ (λ q.
    get_in n q ∙ ap (option_map pages) (updates.0 q) ∙ mapped (eq_by_cmp fork_cmp fork q) None (tree.get fork_cmp m q)
    ∙ ap (λ x. cond (eq_by_cmp fork_cmp fork q) None x) (sym (get_in m q)) ∙ turned fork q None (get (store_in m) q)
    ∙ sym (get-remove fork_cmp_total (store_in m) fork q))

-- a fork one of whose pages was set, and a missing one that stays so
pub set_there : (m n : Forks) (at : BlockId) (page : List ℕ) (found w : Vec (List ℕ)) → Some found ≡ tree.get derived_cmp m at.fork → UpdatesBy derived_cmp (derived_cmp at.fork) m n (Some w) → w.items ≡ slice_set found.items at.block page → store_in n ≡ with_set (store_in m) at page
set_there m n at page found w e updates put =
    store-insert m n at.fork w (updated m n at.fork (Some w) updates)
    ∙ ap (insert (store_in m) at.fork) put
    ∙ sym (ap (with_set_found (store_in m) at page) (get_found m at.fork (Some found) e))

pub set_missing : (m same : Forks) (at : BlockId) (page : List ℕ) → same ≡ m → None ≡ tree.get derived_cmp m at.fork → store_in same ≡ with_set (store_in m) at page
set_missing m same at page e none =
    ap store_in e ∙ sym (ap (with_set_found (store_in m) at page) (get_found m at.fork None none))
