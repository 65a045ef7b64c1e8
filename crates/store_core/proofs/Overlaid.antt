-- Stores that are written fork by fork, of pages that are told block by block.
use Rattle.std.proofs.Common.{◌≡◌, ℕ, zero, suc, ◌+◌, ◌-◌, ◌<◌, ◌≤◌, Bool, true, false, cond, List, [], ◌∷◌, ◌++◌, ◌||◌, take, length, replicate, get_or, slice_set, Option, Some, refl, ap, sym, subst, ◌∙◌, arith}
use Rattle.std.specs.List.{list_any, filter, range_with_len}
use Rattle.std.specs.List.Sorted.{IsStrictlyIncreasing}
use Rattle.std.specs.FinMap.{get, insert}
use Rattle.std.proofs.lemmas.List.{append-nil, take_more, take_all}
use Rattle.std.proofs.lemmas.List.Elements.{filter-append}
use Rattle.std.proofs.lemmas.List.FromFn.{length-range_with_len, get_or-range_with_len, length-map-range_with_len, get_or-map-range_with_len}
use Rattle.std.proofs.lemmas.List.Kept.{IsStrictlyIncreasing-filter}
use Rattle.lsn_core.specs.declared.ids.ForkId.{ForkId}
use Rattle.lsn_core.specs.declared.ids.BlockId.{BlockId}
use Rattle.lsn_core.specs.Store.{Store, ForkPages}
use Rattle.lsn_core.specs.Blocks.{pages_of, with_block, page_put}
use Rattle.pg_page.specs.Header.{zero_page}
use Rattle.history.specs.Apply.{is_same_fork}
use Rattle.history.proofs.Stores.{by_test, fork_is}
use Rattle.history.specs.fuzzy_copies.Summary.{BlockRefTable}
use Rattle.history.proofs.fuzzy_copies.Pages.{got}
use Rattle.store_core.specs.Increments.{with_pages, listed_blocks, page_over, pages_over}
use Rattle.store_core.proofs.Copies.{either_way}
use Rattle.store_core.proofs.Stored.{pages_here, put_again, copied_next, last_set}

-- ---- forks in turn

pub pages_got : (pages : ForkId → ForkPages) (store : Store) (forks : List ForkId) (fork : ForkId) → get (with_pages pages store forks) fork ≡ cond (list_any (is_same_fork fork) forks) (Some (pages fork)) (get store fork)
pages_got pages store [] fork = refl
pages_got pages store (f ∷ fs) fork =
    let more = list_any (is_same_fork fork) fs in
    let mine = Some (pages fork) in
    pages_got pages (insert store f (pages f)) fs fork
    ∙ ap (λ (o : Option ForkPages). cond more mine o) (got store f (pages f) fork)
    ∙ by_test (is_same_fork fork f)
    (λ here.
    ap (λ c. cond more mine (cond c (Some (pages f)) (get store fork))) here
    ∙ ap (λ (g : ForkId). cond more mine (Some (pages g))) (sym (fork_is fork f here)) ∙ either_way more mine
    ∙ sym (ap (λ c. cond (c || more) mine (get store fork)) here))
    (λ away. ap (λ c. cond more mine (cond c (Some (pages f)) (get store fork))) away ∙ sym (ap (λ c. cond (c || more) mine (get store fork)) away))

pages_push : (pages : ForkId → ForkPages) (store : Store) (forks : List ForkId) (fork : ForkId) → with_pages pages store (forks ++ (fork ∷ [])) ≡ insert (with_pages pages store forks) fork (pages fork)
pages_push pages store [] fork = refl
pages_push pages store (f ∷ fs) fork = pages_push pages (insert store f (pages f)) fs fork

-- one fork more
pub pages_more : (pages : ForkId → ForkPages) (start copy now : Store) (forks : List ForkId) (n : ℕ) (fork : ForkId) → n < length forks → fork ≡ get_or forks n fork → copy ≡ with_pages pages start (take n forks) → now ≡ insert copy fork (pages fork)
    → now ≡ with_pages pages start (take (n + 1) forks)
pages_more pages start copy now forks n fork l is before put =
    put ∙ ap (λ (s : Store). insert s fork (pages fork)) before ∙ sym (pages_push pages start (take n forks) fork)
    ∙ ap (λ (fs : List ForkId). with_pages pages start fs) (ap (λ (f : ForkId). take n forks ++ (f ∷ [])) is ∙ sym (take_more forks n fork l))

-- and all of them
pub pages_all : (pages : ForkId → ForkPages) (start copy : Store) (forks names : List ForkId) (n : ℕ) → forks ≡ names → length forks ≤ n → copy ≡ with_pages pages start (take n forks) → copy ≡ with_pages pages start names
pages_all pages start copy forks names n is all before = before ∙ ap (λ (fs : List ForkId). with_pages pages start fs) (take_all n forks all ∙ is)

-- ---- the pages of a fork over an earlier copy, in turn

pub over_next : (sent : List BlockId) (from prior start copy now : Store) (fork : ForkId) (block n : ℕ) (page : List ℕ) → n ≡ block → copy ≡ insert start fork (take block (pages_over sent from prior fork)) → block < length (pages_of from fork)
    → page ≡ page_over sent from prior (record { fork = fork; block = n }) → now ≡ page_put (record { fork = fork; block = n }) page copy → now ≡ insert start fork (take (block + 1) (pages_over sent from prior fork))
over_next sent from prior start copy now fork block n page same before l page_is put =
    let f = λ (b : ℕ). page_over sent from prior (record { fork = fork; block = b }) in
    let size = length (pages_of from fork) in
    copied_next start copy now (pages_over sent from prior fork) fork block n page same before
    (omega (arith, l, length-map-range_with_len f 0 size))
    (page_is ∙ sym (get_or-map-range_with_len f 0 size n n zero_page (omega (arith, same, l)) (omega arith))) put

pub over_all : (sent : List BlockId) (from prior start copy : Store) (fork : ForkId) (count n : ℕ) → count ≡ length (pages_of from fork) → count ≤ n → copy ≡ insert start fork (take n (pages_over sent from prior fork)) → copy ≡ insert start fork (pages_over sent from prior fork)
over_all sent from prior start copy fork count n is all before =
    let f = λ (b : ℕ). page_over sent from prior (record { fork = fork; block = b }) in
    before ∙ ap (λ (ps : ForkPages). insert start fork ps) (take_all n (pages_over sent from prior fork) (omega (arith, is, all, length-map-range_with_len f 0 (length (pages_of from fork)))))

-- ---- pages with zeros behind them

set_behind : (ps zs : ForkPages) (j n : ℕ) (page : List ℕ) → n ≡ length ps + j → slice_set (ps ++ zs) n page ≡ ps ++ slice_set zs j page
set_behind [] zs j n page is = ap (λ (k : ℕ). slice_set zs k page) (let e : n ≡ j = omega (arith, is) in e)
set_behind (p ∷ ps) zs j zero page is = absurd (omega (arith, is))
set_behind (p ∷ ps) zs j (suc n) page is = ap (λ (qs : ForkPages). p ∷ qs) (set_behind ps zs j n page (omega (arith, is)))

zeros_behind : (ps : ForkPages) (n count : ℕ) → n + 1 ≡ count → length ps < count → with_block ps n zero_page ≡ ps ++ replicate (count - length ps) zero_page
zeros_behind ps n count is more =
    let k = n + 1 - length ps in
    set_behind ps (replicate k zero_page) (n - length ps) n zero_page (omega (arith, is, more))
    ∙ ap (λ (zs : ForkPages). ps ++ zs) (last_set (n - length ps) k (omega (arith, is, more)))
    ∙ ap (λ (m : ℕ). ps ++ replicate m zero_page) (let e : n + 1 - length ps ≡ count - length ps = omega (arith, is) in e)

pub raised_put : (start copy now : Store) (fork : ForkId) (pages : ForkPages) (n count : ℕ) (page : List ℕ) → copy ≡ insert start fork pages → n + 1 ≡ count → length pages < count → page ≡ zero_page
    → now ≡ page_put (record { fork = fork; block = n }) page copy → now ≡ insert start fork (pages ++ replicate (count - length pages) zero_page)
raised_put start copy now fork pages n count page is size more zeros put =
    put ∙ ap (λ (p : List ℕ). page_put (record { fork = fork; block = n }) p copy) zeros ∙ ap (λ (s : Store). page_put (record { fork = fork; block = n }) zero_page s) is
    ∙ ap (λ (ps : ForkPages). insert (insert start fork pages) fork (with_block ps n zero_page)) (pages_here start fork pages)
    ∙ put_again start fork pages (with_block pages n zero_page)
    ∙ ap (λ (ps : ForkPages). insert start fork ps) (zeros_behind pages n count size more)

-- ---- listed blocks

range_more : (a n : ℕ) → range_with_len a (n + 1) ≡ range_with_len a n ++ ((a + n) ∷ [])
range_more a zero = ap (λ (k : ℕ). range_with_len a k) (let e : zero + 1 ≡ suc zero = omega arith in e) ∙ ap (λ (k : ℕ). k ∷ []) (let e : a ≡ a + 0 = omega arith in e)
range_more a (suc n) =
    ap (λ (k : ℕ). range_with_len a k) (let e : suc n + 1 ≡ suc (n + 1) = omega arith in e)
    ∙ ap (λ (ks : List ℕ). a ∷ ks) (range_more (a + 1) n)
    ∙ ap (λ (k : ℕ). a ∷ (range_with_len (a + 1) n ++ (k ∷ []))) (let e : a + 1 + n ≡ a + suc n = omega arith in e)

blocks_more : (table : BlockRefTable) (fork : ForkId) (n : ℕ) → listed_blocks table fork (n + 1) ≡ listed_blocks table fork n ++ cond (table.listed fork n) (n ∷ []) []
blocks_more table fork n = ap (filter (table.listed fork)) (range_more 0 n ∙ ap (λ (k : ℕ). range_with_len 0 n ++ (k ∷ [])) (let e : 0 + n ≡ n = omega arith in e)) ∙ filter-append (table.listed fork) (range_with_len 0 n) (n ∷ [])

pub block_taken : (table : BlockRefTable) (fork : ForkId) (n : ℕ) (listed : Bool) (old new : List ℕ) → listed ≡ table.listed fork n → listed ≡ true → old ≡ listed_blocks table fork n → new ≡ old ++ (n ∷ []) → new ≡ listed_blocks table fork (n + 1)
block_taken table fork n listed old new is taken before pushed =
    pushed ∙ ap (λ (ks : List ℕ). ks ++ (n ∷ [])) before ∙ sym (blocks_more table fork n ∙ ap (λ t. listed_blocks table fork n ++ cond t (n ∷ []) []) (sym is ∙ taken))

pub block_left : (table : BlockRefTable) (fork : ForkId) (n : ℕ) (listed : Bool) (old : List ℕ) → listed ≡ table.listed fork n → listed ≡ false → old ≡ listed_blocks table fork n → old ≡ listed_blocks table fork (n + 1)
block_left table fork n listed old is left before =
    before ∙ sym (blocks_more table fork n ∙ ap (λ t. listed_blocks table fork n ++ cond t (n ∷ []) []) (sym is ∙ left) ∙ append-nil (listed_blocks table fork n))

range_rising : (n : ℕ) → IsStrictlyIncreasing (range_with_len 0 n)
range_rising n k lt =
    let long = length-range_with_len 0 n in
    let a = get_or-range_with_len 0 n k 0 (omega (arith, lt, long)) in
    let b = get_or-range_with_len 0 n (k + 1) 0 (omega (arith, lt, long)) in
    omega (arith, a, b)

pub listed_rising : (table : BlockRefTable) (fork : ForkId) (size : ℕ) (list : List ℕ) → list ≡ listed_blocks table fork size → IsStrictlyIncreasing list
listed_rising table fork size list is = subst IsStrictlyIncreasing (sym is) (IsStrictlyIncreasing-filter (table.listed fork) (range_with_len 0 size) (range_rising size))
