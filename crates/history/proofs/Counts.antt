-- How many pages a store has once a fork has others.
use Rattle.std.proofs.Common.{◌≡◌, ℕ, ◌+◌, ◌&&◌, T, Bool, true, false, cond, List, [], ◌∷◌, map, length, sum, Option, Some, None, unwrap_or, is_some, take, refl, ap, sym, subst, ◌∙◌, arith}
use Rattle.std.specs.declared.cmp.Ordering.{Ordering}
use Rattle.std.specs.declared.cmp.Ordering.TheVariants.{Less, Equal, Greater}
use Rattle.std.specs.Ordering.{is_eq, is_lt, eq_by_cmp}
use Rattle.std.specs.Cmp.{Equal-is}
use Rattle.std.specs.Prelude.{slice_set}
use Rattle.std.proofs.lemmas.List.{length-set}
use Rattle.std.proofs.lemmas.List.Sums.{sum_by-cons}
use Rattle.std.specs.FinMap.{empty, len-empty, len-entries, find, put, get, insert, remove, get-insert, get-remove, same_map, entries, entries_sorted, is_sorted, entries-insert, get-entries}
use Rattle.std.specs.FinMap.Entries.{by_order, below_all}
use Rattle.lsn_core.specs.declared.ids.ForkId.{ForkId}
use Rattle.lsn_core.specs.Store.{Store, ForkPages, fork_cmp}
use Rattle.lsn_core.specs.Blocks.{pages_of, with_fork, with_cut_pages, with_cut}
use Rattle.lsn_core.proofs.ForkOrder.{fork_cmp_total, fork_cmp-IsAntisymmetric}
use Rattle.lsn_core.specs.declared.ids.BlockId.{BlockId}
use Rattle.history.specs.Inside.{IsRecounted}
use Rattle.history.specs.Pages.{page_count, IsTotal}
use Rattle.history.specs.Undo.{with_set_found, with_set}
use Rattle.history.proofs.Stores.{fork_self, get_here}

abbrev Entries : Type 0
Entries = List (ForkId × ForkPages)

abbrev size : ForkId × ForkPages → ℕ
size e = length e.1

-- the pages of all entries, from the first on
abbrev counted : Entries → ℕ
counted [] = 0
counted (e ∷ es) = size e + counted es

sum_counted : (es : Entries) → sum (map size es) ≡ counted es
sum_counted [] = refl
sum_counted (e ∷ es) = sum_by-cons (λ (n : ℕ). n) (size e) (map size es) ∙ ap (λ (n : ℕ). size e + n) (sum_counted es)

-- how many pages stand at a fork
abbrev held : ForkId → Entries → ℕ
held q es = length (unwrap_or (find fork_cmp q es) [])

first : (a b : Bool) → T (a && b) → T a
first true b p = tt
first false b p = p

second : (a b : Bool) → T (a && b) → T b
second true b p = p
second false b p = absurd p

less : (o : Ordering) → T (is_lt o) → o ≡ Less
less Less p = refl
less Equal p = absurd p
less Greater p = absurd p

-- a fork below all others has no entry
missing : (q x : ForkId) (es : Entries) → fork_cmp q x ≡ Less → T (below_all fork_cmp x es) → find fork_cmp q es ≡ None
missing q x [] p below = refl
missing q x (e ∷ es) p below =
    let here : fork_cmp q e.0 ≡ Less = fork_cmp_total.trans q x e.0 p (less (fork_cmp x e.0) (first _ _ below)) in
    ap (λ (r : Ordering). cond (is_eq r) (Some e.1) (find fork_cmp q es)) here ∙ missing q x es p (second _ _ below)

-- the new entry stands in front, in the place of the old one, or further on
in_front : (v c h : ℕ) → h ≡ 0 → (v + c) + h ≡ c + v
in_front v c h none = omega (arith, none)

in_place : (v c h : ℕ) → (v + c) + h ≡ (h + c) + v
in_place v c h = omega arith

further : (x p c h v : ℕ) → p + h ≡ c + v → (x + p) + h ≡ (x + c) + v
further x p c h v e = omega (arith, e)

counted-put : (q : ForkId) (v : ForkPages) (es : Entries) → T (is_sorted fork_cmp es) → counted (put fork_cmp q v es) + held q es ≡ counted es + length v
counted-put q v [] order = omega arith
counted-put q v (e ∷ es) order =
    elim (fork_cmp q e.0) as (λ (r : Ordering). fork_cmp q e.0 ≡ r → counted (by_order r ((q, v) ∷ e ∷ es) ((e.0, v) ∷ es) (e ∷ put fork_cmp q v es)) + length (unwrap_or (cond (is_eq r) (Some e.1) (find fork_cmp q es)) []) ≡ counted (e ∷ es) + length v) [
      | Less ↦ λ p. in_front (length v) (counted (e ∷ es)) (held q es) (ap (λ (o : Option ForkPages). length (unwrap_or o [])) (missing q e.0 es p (first _ _ order)))
      | Equal ↦ λ p. in_place (length v) (counted es) (length e.1)
      | Greater ↦ λ p. further (length e.1) (counted (put fork_cmp q v es)) (counted es) (held q es) (length v) (counted-put q v es (second _ _ order))
    ] refl

counted_in : (store : Store) → page_count store ≡ counted (entries store)
counted_in store = sum_counted (entries store)

-- a fork is given pages, in place of those that it had
pub page_count-insert : (store : Store) (fork : ForkId) (pages : ForkPages) → page_count (insert store fork pages) + length (pages_of store fork) ≡ page_count store + length pages
page_count-insert store fork pages =
    ap (λ (n : ℕ). n + length (pages_of store fork)) (counted_in (insert store fork pages) ∙ ap counted (entries-insert fork_cmp_total store fork pages))
    ∙ ap (λ (o : Option ForkPages). counted (put fork_cmp fork pages (entries store)) + length (unwrap_or o [])) (get-entries store fork)
    ∙ counted-put fork pages (entries store) (entries_sorted store)
    ∙ ap (λ (n : ℕ). n + length pages) (sym (counted_in store))

counted_none : (es : Entries) → length es ≡ 0 → counted es ≡ 0
counted_none [] e = refl
counted_none (x ∷ es) e = absurd (omega (arith, e))

pub page_count-empty : page_count empty ≡ 0
page_count-empty = counted_in empty ∙ counted_none (entries empty) (sym (len-entries {R = fork_cmp} empty) ∙ len-empty fork_cmp ForkPages)

-- ---- one fork alone has others

abbrev pub IsMoved : Store → Store → ForkId → Type 0
IsMoved s t fork = page_count t + length (pages_of s fork) ≡ page_count s + length (pages_of t fork)

pages_inserted : (s : Store) (fork : ForkId) (pages : ForkPages) → pages_of (insert s fork pages) fork ≡ pages
pages_inserted s fork pages = ap (λ (o : Option ForkPages). unwrap_or o []) (get_here s fork fork pages (fork_self fork))

pub moved_insert : (s : Store) (fork : ForkId) (pages : ForkPages) → IsMoved s (insert s fork pages) fork
moved_insert s fork pages = page_count-insert s fork pages ∙ ap (λ (ps : ForkPages). page_count s + length ps) (sym (pages_inserted s fork pages))

pub moved_cut : (s : Store) (fork : ForkId) (count : ℕ) → IsMoved s (with_cut s fork count) fork
moved_cut s fork count = go (get s fork)
  where
    go : (o : Option ForkPages) → IsMoved s (with_cut_pages s fork count o) fork
    go None = refl
    go (Some pages) = moved_insert s fork (take count pages)

-- a fork that is taken away
same : (a b : ForkId) → eq_by_cmp fork_cmp a b ≡ true → a ≡ b
same a b e = fork_cmp-IsAntisymmetric a b ((Equal-is _).0 e)

pub put_back : (s : Store) (fork : ForkId) (pages : ForkPages) → get s fork ≡ Some pages → insert (remove s fork) fork pages ≡ s
put_back s fork pages found =
    same_map fork_cmp_total fork_cmp-IsAntisymmetric (insert (remove s fork) fork pages) s (λ q.
    get-insert fork_cmp_total (remove s fork) fork pages q
    ∙ elim (eq_by_cmp fork_cmp q fork) as (λ b. eq_by_cmp fork_cmp q fork ≡ b → cond b (Some pages) (get (remove s fork) q) ≡ get s q) [
      | true ↦ λ k. sym (ap (get s) (same q fork k) ∙ found)
      | false ↦ λ k. get-remove fork_cmp_total s fork q ∙ ap (λ b. cond b None (get s q)) k
    ] refl)

pub none_removed : (s : Store) (fork : ForkId) → get s fork ≡ None → remove s fork ≡ s
none_removed s fork none =
    same_map fork_cmp_total fork_cmp-IsAntisymmetric (remove s fork) s (λ q.
    get-remove fork_cmp_total s fork q
    ∙ elim (eq_by_cmp fork_cmp q fork) as (λ b. eq_by_cmp fork_cmp q fork ≡ b → cond b None (get s q) ≡ get s q) [
      | true ↦ λ k. sym (ap (get s) (same q fork k) ∙ none)
      | false ↦ λ k. refl
    ] refl)

pub moved_remove : (s : Store) (fork : ForkId) → IsMoved s (remove s fork) fork
moved_remove s fork = go (get s fork) refl
  where
    go : (o : Option ForkPages) → get s fork ≡ o → IsMoved s (remove s fork) fork
    go None none = subst (λ (t : Store). IsMoved s t fork) (sym (none_removed s fork none)) refl
    go (Some pages) found =
        sym (subst (λ (t : Store). page_count t + length (pages_of (remove s fork) fork) ≡ page_count (remove s fork) + length (pages_of t fork)) (put_back s fork pages found) (moved_insert (remove s fork) fork pages))

-- a fork that is made empty, and a block whose page is set
pub page_count-with_fork : (s : Store) (fork : ForkId) → page_count (with_fork s fork) ≡ page_count s
page_count-with_fork s fork = go (get s fork) refl
  where
    go : (o : Option ForkPages) → get s fork ≡ o → page_count (cond (is_some o) s (insert s fork [])) ≡ page_count s
    go None none = omega (arith, page_count-insert s fork [], ap (λ (o : Option ForkPages). length (unwrap_or o [])) none)
    go (Some pages) found = refl

pub page_count-with_set : (s : Store) (at : BlockId) (page : List ℕ) → page_count (with_set s at page) ≡ page_count s
page_count-with_set s at page = go (get s at.fork) refl
  where
    go : (o : Option ForkPages) → get s at.fork ≡ o → page_count (with_set_found s at page o) ≡ page_count s
    go None none = refl
    go (Some pages) found = omega (arith, page_count-insert s at.fork (slice_set pages at.block page), length-set pages at.block page, ap (λ (o : Option ForkPages). length (unwrap_or o [])) found)

-- the number of all pages where it stays
pub total_stays : (total : Option ℕ) (s t : Store) → IsTotal total s → page_count t ≡ page_count s → IsTotal total t
total_stays None s t known same = tt
total_stays (Some n) s t known same = known ∙ sym same

-- and where it is counted again
recounted_some : (n before now : ℕ) (total : Option ℕ) (s t : Store) (fork : ForkId) → IsTotal total s → (old : ℕ) × ((total ≡ Some old) × (n + before ≡ old + now)) → before ≡ length (pages_of s fork) → now ≡ length (pages_of t fork) → IsMoved s t fork → n ≡ page_count t
recounted_some n before now total s t fork known is before_is now_is moved =
    let old : is.0 ≡ page_count s = subst (λ (o : Option ℕ). IsTotal o s) is.1.0 known in
    omega (arith, old, is.1.1, before_is, now_is, moved)

pub recounted : (total result : Option ℕ) (before now : ℕ) (s t : Store) (fork : ForkId) → IsTotal total s → IsRecounted total before now result → before ≡ length (pages_of s fork) → now ≡ length (pages_of t fork) → IsMoved s t fork → IsTotal result t
recounted total None before now s t fork known is before_is now_is moved = tt
recounted total (Some n) before now s t fork known is before_is now_is moved = recounted_some n before now total s t fork known is before_is now_is moved
