-- The forks of a store by the names of the files that hold it, and the list of their lengths.
use Rattle.std.proofs.Common.{◌≡◌, ℕ, zero, suc, ◌<◌, Bool, true, false, cond, T, ◌&&◌, ◌||◌, List, [], ◌∷◌, map, length, get_or, Option, Some, None, is_some, option_map, refl, ap, sym, subst, ◌∙◌, arith}
use Rattle.std.proofs.lemmas.Simd.{map-map}
use Rattle.std.specs.List.{AllByRecursion, list_any}
use Rattle.std.specs.List.Sorted.{IsStrictlySortedBy}
use Rattle.std.specs.declared.cmp.Ordering.{Ordering}
use Rattle.std.specs.declared.cmp.Ordering.TheVariants.{Less}
use Rattle.std.specs.Ordering.{is_lt, eq_by_cmp}
use Rattle.std.specs.BTreeMap.{BTreeMap}
use Rattle.std.specs.BTreeMap as tree
use Rattle.std.specs.FinMap.{find, get, keys, entries, entries_sorted, is_sorted, contains_key, contains_key-keys, get-entries}
use Rattle.std.specs.FinMap.Entries.{below_all, same_entries}
use Rattle.lsn_core.specs.declared.ids.ForkId.{ForkId}
use Rattle.lsn_core.specs.Files.{Files}
use Rattle.lsn_core.specs.Names.{fork_path_bytes, IsNamed}
use Rattle.lsn_core.specs.Store.{Store, ForkPages, fork_cmp}
use Rattle.lsn_core.proofs.ForkOrder.{fork_cmp_total, fork_cmp-IsAntisymmetric}
use Rattle.lsn_core.proofs.StoreFiles.{same_name, names_tie}
use Rattle.rel_files.specs.Forks.{whole_pages, fork_lengths, Holds}
use Rattle.rel_files.proofs.SegmentFiles.{renamed, first_file_tells}

-- ---- the forks are those whose first files are named

record IsPlaced (test : List ℕ → Bool) (names : List (List ℕ)) : Type 0 where
  pub at : ℕ
  pub within : at < length names
  pub passes : test (get_or names at []) ≡ true

placed : (test : List ℕ → Bool) (names : List (List ℕ)) → list_any test names ≡ true → IsPlaced test names
placed test [] e = absurd cc
placed test (name ∷ names) e =
    elim (test name) as (λ b. test name ≡ b → IsPlaced test (name ∷ names)) [
      | true ↦ λ is. record { at = 0; within = omega arith; passes = is }
      | false ↦ λ not.
          let rest = placed test names (sym (ap (λ b. b || list_any test names) not) ∙ e) in
          record { at = suc rest.at; within = omega (arith, rest.within); passes = rest.passes }
    ] refl

any_placed : (test : List ℕ → Bool) (names : List (List ℕ)) (i : ℕ) → i < length names → test (get_or names i []) ≡ true → list_any test names ≡ true
any_placed test [] i l e = absurd (omega arith)
any_placed test (name ∷ names) zero l e = ap (λ b. b || list_any test names) e
any_placed test (name ∷ names) (suc i) l e = either (test name) (list_any test names) (any_placed test names i (omega arith) e)
  where
    either : (a b : Bool) → b ≡ true → (a || b) ≡ true
    either true b e = refl
    either false b e = e

-- a fork of the store, whose first file's name is one of these
pub record IsFirstNamed (files : Files) (fork : ForkId) : Type 0 where
  pub at : ℕ
  pub within : at < length (keys files)
  pub is : get_or (keys files) at [] ≡ fork_path_bytes fork 0 false

pub fork_is_named : (relseg : ℕ) (files : Files) (store : Store) (fork : ForkId) → 0 < relseg → Holds relseg files store → contains_key store fork ≡ true → IsFirstNamed files fork
fork_is_named relseg files store fork some holds there =
    let path = fork_path_bytes fork 0 false in
    let named = of_some (get store fork) there (holds.named fork) in
    let listed = placed (same_name path) (keys files) (sym (contains_key-keys files path) ∙ first_file_tells relseg files store fork some holds named ∙ there) in
    record { at = listed.at; within = listed.within; is = sym (names_tie path (get_or (keys files) listed.at []) listed.passes) }
  where
    of_some : (o : Option ForkPages) → is_some o ≡ true → ((pages : ForkPages) → o ≡ Some pages → IsNamed fork (length pages)) → IsNamed fork 0
    of_some None e named = absurd cc
    of_some (Some pages) e named = renamed fork (length pages) 0 (named pages refl) (omega arith)

-- ---- the lengths in a map

-- each fork of the store is in a map of lengths
pub all_known : (store : Store) (known : BTreeMap ForkId ℕ) → ((fork : ForkId) (blocks : ℕ) → tree.get fork_cmp known fork ≡ Some blocks → option_map (λ pages. length (whole_pages pages)) (get store fork) ≡ Some blocks)
    → ((fork : ForkId) → contains_key store fork ≡ true → is_some (tree.get fork_cmp known fork) ≡ true) → (fork : ForkId) → tree.get fork_cmp known fork ≡ option_map (λ pages. length (whole_pages pages)) (get store fork)
all_known store known right all fork = by (tree.get fork_cmp known fork) (get store fork) (right fork) (all fork)
  where
    by : (o : Option ℕ) (p : Option ForkPages) → ((blocks : ℕ) → o ≡ Some blocks → option_map (λ pages. length (whole_pages pages)) p ≡ Some blocks) → (is_some p ≡ true → is_some o ≡ true) → o ≡ option_map (λ pages. length (whole_pages pages)) p
    by (Some blocks) p is there = sym (is blocks refl)
    by None None is there = refl
    by None (Some pages) is there = let no : false ≡ true = there refl in absurd cc

abbrev Lengths : Type 0
Lengths = List (ForkId × ℕ)

abbrev Entries : Type 0
Entries = List (ForkId × ForkPages)

abbrev counted : ForkId × ForkPages → ForkId × ℕ
counted e = (e.0, length (whole_pages e.1))

find_counted : (q : ForkId) (es : Entries) → find fork_cmp q (map counted es) ≡ option_map (λ pages. length (whole_pages pages)) (find fork_cmp q es)
find_counted q [] = refl
find_counted q (e ∷ es) =
    elim (eq_by_cmp fork_cmp q e.0) as (λ b. cond b (Some (length (whole_pages e.1))) (find fork_cmp q (map counted es)) ≡ option_map (λ pages. length (whole_pages pages)) (cond b (Some e.1) (find fork_cmp q es))) [
      | true ↦ refl
      | false ↦ find_counted q es
    ]

both : (a b : Bool) → T a → T b → T (a && b)
both true b p q = q
both false b p q = absurd p

first : (a b : Bool) → T (a && b) → T a
first true b p = tt
first false b p = p

second : (a b : Bool) → T (a && b) → T b
second true b p = p
second false b p = absurd p

below_counted : (k : ForkId) (es : Entries) → T (below_all fork_cmp k es) → T (below_all fork_cmp k (map counted es))
below_counted k [] h = tt
below_counted k (e ∷ es) h = both (is_lt (fork_cmp k e.0)) _ (first _ _ h) (below_counted k es (second _ _ h))

sorted_counted : (es : Entries) → T (is_sorted fork_cmp es) → T (is_sorted fork_cmp (map counted es))
sorted_counted [] h = tt
sorted_counted (e ∷ es) h = both (below_all fork_cmp e.0 (map counted es)) _ (below_counted e.0 es (first _ _ h)) (sorted_counted es (second _ _ h))

below_keys : (k : ForkId) (es : Lengths) → AllByRecursion (λ q. fork_cmp k q ≡ Less) (map (λ e. e.0) es) → T (below_all fork_cmp k es)
below_keys k [] all = tt
below_keys k (e ∷ es) all = both (is_lt (fork_cmp k e.0)) _ (subst (λ (r : Ordering). T (is_lt r)) (sym all.0) tt) (below_keys k es all.1)

sorted_keys : (es : Lengths) → IsStrictlySortedBy fork_cmp (map (λ e. e.0) es) → T (is_sorted fork_cmp es)
unfolding IsStrictlySortedBy
sorted_keys [] h = tt
sorted_keys (e ∷ es) h = both (below_all fork_cmp e.0 es) _ (below_keys e.0 es h.0) (sorted_keys es h.1)

-- where a map has the length of each fork, its entries are the list of lengths
pub lengths_are : (store : Store) (known : BTreeMap ForkId ℕ) → tree.IsOrdered fork_cmp known → ((fork : ForkId) → tree.get fork_cmp known fork ≡ option_map (λ pages. length (whole_pages pages)) (get store fork))
    → map (λ e. record { fork = e.0; blocks = e.1 }) known.entries ≡ fork_lengths store
lengths_are store known ordered all =
    ap (map (λ (e : ForkId × ℕ). record { fork = e.0; blocks = e.1 }))
    (same_entries fork_cmp fork_cmp_total fork_cmp-IsAntisymmetric known.entries (map counted (entries store)) (sorted_keys known.entries ordered) (sorted_counted (entries store) (entries_sorted store)) (λ q.
    all q ∙ ap (option_map (λ (pages : ForkPages). length (whole_pages pages))) (get-entries store q) ∙ sym (find_counted q (entries store))))
    ∙ map-map (λ (e : ForkId × ℕ). record { fork = e.0; blocks = e.1 }) counted (entries store)
