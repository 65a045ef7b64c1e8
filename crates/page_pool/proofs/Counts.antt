-- How many pages a store has, by how long its forks are.
use Rattle.std.proofs.Common.{◌≡◌, ℕ, true, false, cond, T, ◌&&◌, List, [], ◌∷◌, map, length, Option, Some, option_map, refl, sym, ap, subst, ◌∙◌}
use Rattle.std.specs.Prelude.{sum}
use Rattle.std.specs.Ordering.{is_eq, is_lt}
use Rattle.std.specs.FinMap.{FinMap, find, get, entries, entries_sorted, from_sorted, is_sorted, get-entries, get-from_sorted, entries-from_sorted, same_map}
use Rattle.std.specs.FinMap.Entries.{below_all}
use Rattle.lsn_core.specs.declared.ids.ForkId.{ForkId}
use Rattle.lsn_core.specs.Store.{Store, ForkPages, fork_cmp}
use Rattle.lsn_core.specs.Blocks.{block_count}
use Rattle.lsn_core.proofs.ForkOrder.{fork_cmp_total, fork_cmp-IsAntisymmetric}
use Rattle.history.specs.Pages.{page_count}
use Rattle.command_judging.proofs.Judged.{AreAsLong}

abbrev lens : List (ForkId × ForkPages) → List (ForkId × ℕ)
lens es = map (λ e. (e.0, length e.1)) es

below_lens : (k : ForkId) (es : List (ForkId × ForkPages)) → below_all fork_cmp k (lens es) ≡ below_all fork_cmp k es
below_lens k [] = refl
below_lens k (e ∷ es) = ap (λ b. is_lt (fork_cmp k e.0) && b) (below_lens k es)

sorted_lens : (es : List (ForkId × ForkPages)) → is_sorted fork_cmp (lens es) ≡ is_sorted fork_cmp es
sorted_lens [] = refl
sorted_lens (e ∷ es) = ap (λ b. b && is_sorted fork_cmp (lens es)) (below_lens e.0 es) ∙ ap (λ b. below_all fork_cmp e.0 es && b) (sorted_lens es)

find_lens : (q : ForkId) (es : List (ForkId × ForkPages)) → find fork_cmp q (lens es) ≡ option_map length (find fork_cmp q es)
find_lens q [] = refl
find_lens q (e ∷ es) =
    elim (is_eq (fork_cmp q e.0)) as (λ b. cond b (Some (length e.1)) (find fork_cmp q (lens es)) ≡ option_map length (cond b (Some e.1) (find fork_cmp q es))) [
      | true ↦ refl
      | false ↦ find_lens q es
    ]

counts_in : Store → FinMap fork_cmp ℕ
counts_in store = from_sorted (lens (entries store))

in_order : (store : Store) → T (is_sorted fork_cmp (lens (entries store)))
in_order store = subst T (sym (sorted_lens (entries store))) (entries_sorted store)

counts_get : (store : Store) (q : ForkId) → get (counts_in store) q ≡ block_count store q
unfolding counts_in
counts_get store q = get-from_sorted fork_cmp (lens (entries store)) q (in_order store) ∙ find_lens q (entries store) ∙ ap (λ (o : Option ForkPages). option_map length o) (sym (get-entries store q))

sum_lens : (es : List (ForkId × ForkPages)) → sum (map (λ (e : ForkId × ℕ). e.1) (lens es)) ≡ sum (map (λ (e : ForkId × ForkPages). length e.1) es)
sum_lens es = ap sum (twice es)
  where
    twice : (es : List (ForkId × ForkPages)) → map (λ (e : ForkId × ℕ). e.1) (lens es) ≡ map (λ (e : ForkId × ForkPages). length e.1) es
    twice [] = refl
    twice (e ∷ es) = ap (λ (xs : List ℕ). length e.1 ∷ xs) (twice es)

count_by : (store : Store) → sum (map (λ (e : ForkId × ℕ). e.1) (entries (counts_in store))) ≡ page_count store
unfolding counts_in
count_by store = ap (λ (es : List (ForkId × ℕ)). sum (map (λ (e : ForkId × ℕ). e.1) es)) (entries-from_sorted fork_cmp (lens (entries store)) (in_order store)) ∙ sum_lens (entries store)

pub counted_alike : (a b : Store) → AreAsLong a b → page_count a ≡ page_count b
counted_alike a b alike =
    let same : counts_in a ≡ counts_in b = same_map fork_cmp_total fork_cmp-IsAntisymmetric (counts_in a) (counts_in b) (λ q. counts_get a q ∙ alike q ∙ sym (counts_get b q)) in
    sym (count_by a) ∙ ap (λ (m : FinMap fork_cmp ℕ). sum (map (λ (e : ForkId × ℕ). e.1) (entries m))) same ∙ count_by b
