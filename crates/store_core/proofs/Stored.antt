-- Stores that are written fork by fork and page by page.
use Rattle.std.proofs.Common.{◌≡◌, ℕ, zero, suc, ◌+◌, ◌-◌, ◌<◌, ◌≤◌, Bool, true, false, cond, ◌&&◌, List, [], ◌∷◌, ◌++◌, map, take, length, replicate, get_or, slice_set, Option, Some, None, unwrap_or, is_some, refl, ap, sym, ◌∙◌, arith}
use Rattle.std.specs.List.{list_all, range_with_len}
use Rattle.std.specs.FinMap.{get, insert, remove, empty, keys, contains_key, same_map, get-empty}
use Rattle.std.proofs.lemmas.List.{take_more, take_all, length-take-le}
use Rattle.lsn_core.specs.declared.ids.ForkId.{ForkId}
use Rattle.lsn_core.specs.declared.ids.BlockId.{BlockId}
use Rattle.lsn_core.specs.Store.{Store, ForkPages, fork_cmp}
use Rattle.lsn_core.specs.Blocks.{pages_of, with_block, page_put, with_fork, without_fork}
use Rattle.lsn_core.proofs.ForkOrder.{fork_cmp_total, fork_cmp-IsAntisymmetric}
use Rattle.pg_page.specs.Header.{zero_page}
use Rattle.history.specs.Apply.{is_same_fork}
use Rattle.history.proofs.Stores.{by_test, fork_self, get_here, get_there}
use Rattle.history.proofs.fuzzy_copies.Pages.{got}
use Rattle.store_core.specs.Steps.{unread, with_forks}
use Rattle.store_core.proofs.Behind.{removed}
use Rattle.store_core.proofs.Copies.{forks_got, keys_named}

same_stores : (a b : Store) → ((fork : ForkId) → get a fork ≡ get b fork) → a ≡ b
same_stores a b same = same_map fork_cmp_total fork_cmp-IsAntisymmetric a b same

-- what is put last stands
pub put_again : (store : Store) (fork : ForkId) (a b : ForkPages) → insert (insert store fork a) fork b ≡ insert store fork b
put_again store fork a b = same_stores (insert (insert store fork a) fork b) (insert store fork b) (λ f.
    got (insert store fork a) fork b f ∙ by_test (is_same_fork f fork)
    (λ here. ap (λ c. cond c (Some b) (get (insert store fork a) f)) here ∙ sym (got store fork b f ∙ ap (λ c. cond c (Some b) (get store f)) here))
    (λ away. ap (λ c. cond c (Some b) (get (insert store fork a) f)) away ∙ get_there store fork f a away ∙ sym (got store fork b f ∙ ap (λ c. cond c (Some b) (get store f)) away)))

-- a fork that was removed and made
pub emptied : (store : Store) (fork : ForkId) → with_fork (without_fork store fork) fork ≡ insert store fork []
emptied store fork =
    let gone : contains_key (remove store fork) fork ≡ false = ap (λ (o : Option ForkPages). is_some o) (removed store fork fork ∙ ap (λ c. cond c None (get store fork)) (fork_self fork)) in
    ap (λ c. cond c (remove store fork) (insert (remove store fork) fork [])) gone
    ∙ same_stores (insert (remove store fork) fork []) (insert store fork []) (λ f.
    got (remove store fork) fork [] f ∙ by_test (is_same_fork f fork)
    (λ here. ap (λ c. cond c (Some []) (get (remove store fork) f)) here ∙ sym (got store fork [] f ∙ ap (λ c. cond c (Some []) (get store f)) here))
    (λ away.
    ap (λ c. cond c (Some []) (get (remove store fork) f)) away ∙ removed store fork f ∙ ap (λ c. cond c None (get store f)) away ∙ sym (got store fork [] f ∙ ap (λ c. cond c (Some []) (get store f)) away)))

pub pages_here : (store : Store) (fork : ForkId) (pages : ForkPages) → pages_of (insert store fork pages) fork ≡ pages
pages_here store fork pages = ap (λ (o : Option ForkPages). unwrap_or o []) (get_here store fork fork pages (fork_self fork))

-- a page put behind the first ones
with_block_next : (pages : ForkPages) (block : ℕ) (page : List ℕ) → block ≡ length pages → with_block pages block page ≡ pages ++ (page ∷ [])
with_block_next pages block page is = ap (λ (b : ℕ). with_block pages b page) is ∙ go pages
  where
    one : (n k : ℕ) → k ≡ 1 → replicate k zero_page ≡ zero_page ∷ []
    one n k e = ap (λ (m : ℕ). replicate m zero_page) e

    set_last : (ps : ForkPages) → slice_set (ps ++ (zero_page ∷ [])) (length ps) page ≡ ps ++ (page ∷ [])
    set_last [] = refl
    set_last (p ∷ ps) = ap (λ (qs : ForkPages). p ∷ qs) (set_last ps)

    go : (ps : ForkPages) → with_block ps (length ps) page ≡ ps ++ (page ∷ [])
    go ps = ap (λ (zs : ForkPages). slice_set (ps ++ zs) (length ps) page) (one (length ps) (length ps + 1 - length ps) (omega arith)) ∙ set_last ps

length_taken : (pages : ForkPages) (n : ℕ) → n ≤ length pages → length (take n pages) ≡ n
length_taken pages n l = length-take-le n pages l

-- one page more of a fork that is copied
pub copied_next : (start copy now : Store) (pages : ForkPages) (fork : ForkId) (block n : ℕ) (page : List ℕ) → n ≡ block → copy ≡ insert start fork (take block pages) → block < length pages → page ≡ get_or pages n zero_page → now ≡ page_put (record { fork = fork; block = n }) page copy
    → now ≡ insert start fork (take (block + 1) pages)
copied_next start copy now pages fork block n page same is l page_is put =
    let some = take block pages in
    put ∙ ap (λ (k : ℕ). page_put (record { fork = fork; block = k }) page copy) same ∙ ap (λ (s : Store). page_put (record { fork = fork; block = block }) page s) is
    ∙ ap (λ (ps : ForkPages). insert (insert start fork some) fork (with_block ps block page)) (pages_here start fork some)
    ∙ put_again start fork some (with_block some block page)
    ∙ ap (λ (ps : ForkPages). insert start fork ps) (with_block_next some block page (sym (length_taken pages block (omega (arith, l))))
    ∙ ap (λ (p : List ℕ). some ++ (p ∷ [])) (page_is ∙ ap (λ (k : ℕ). get_or pages k zero_page) same) ∙ sym (take_more pages block zero_page l))

-- a page of zeros put at the last place makes all before it
pub last_set : (n m : ℕ) → m ≡ suc n → slice_set (replicate m zero_page) n zero_page ≡ replicate m zero_page
last_set n m is = ap (λ (k : ℕ). slice_set (replicate k zero_page) n zero_page) is ∙ go n ∙ ap (λ (k : ℕ). replicate k zero_page) (sym is)
  where
    go : (n : ℕ) → slice_set (replicate (suc n) zero_page) n zero_page ≡ replicate (suc n) zero_page
    go zero = refl
    go (suc n) = ap (λ (qs : ForkPages). zero_page ∷ qs) (go n)

from_none : (block : ℕ) → with_block [] block zero_page ≡ replicate (block + 1) zero_page
from_none block = ap (λ (n : ℕ). slice_set (replicate n zero_page) block zero_page) (let k : block + 1 - 0 ≡ block + 1 = omega arith in k) ∙ last_set block (block + 1) (omega arith)

pub unread_put : (copy made now : Store) (pages : ForkPages) (fork : ForkId) (n : ℕ) (page : List ℕ) → made ≡ insert copy fork [] → n + 1 ≡ length pages → page ≡ zero_page → now ≡ page_put (record { fork = fork; block = n }) page made → now ≡ insert copy fork (unread pages)
unread_put copy made now pages fork n page is size zeros put =
    put ∙ ap (λ (p : List ℕ). page_put (record { fork = fork; block = n }) p made) zeros ∙ ap (λ (s : Store). page_put (record { fork = fork; block = n }) zero_page s) is
    ∙ ap (λ (ps : ForkPages). insert (insert copy fork []) fork (with_block ps n zero_page)) (pages_here copy fork [])
    ∙ put_again copy fork [] (with_block [] n zero_page)
    ∙ ap (λ (ps : ForkPages). insert copy fork ps) (from_none n ∙ ap (λ (k : ℕ). replicate k zero_page) size)

pub unread_none : (copy now : Store) (fork : ForkId) (pages : ForkPages) → length pages ≡ 0 → now ≡ insert copy fork [] → now ≡ insert copy fork (unread pages)
unread_none copy now fork pages none is = is ∙ ap (λ (n : ℕ). insert copy fork (replicate n zero_page)) (sym none)

-- ---- forks in turn

pub forks_push : (made : ForkPages → ForkPages) (disk copy : Store) (forks : List ForkId) (fork : ForkId) → with_forks made disk copy (forks ++ (fork ∷ [])) ≡ insert (with_forks made disk copy forks) fork (made (pages_of disk fork))
forks_push made disk copy [] fork = refl
forks_push made disk copy (f ∷ fs) fork = forks_push made disk (insert copy f (made (pages_of disk f))) fs fork

pub forks_more : (made : ForkPages → ForkPages) (disk start copy now : Store) (forks : List ForkId) (n : ℕ) (fork : ForkId) → n < length forks → fork ≡ get_or forks n fork → copy ≡ with_forks made disk start (take n forks) → now ≡ insert copy fork (made (pages_of disk fork))
    → now ≡ with_forks made disk start (take (n + 1) forks)
forks_more made disk start copy now forks n fork l is before put =
    put ∙ ap (λ (s : Store). insert s fork (made (pages_of disk fork))) before ∙ sym (forks_push made disk start (take n forks) fork)
    ∙ ap (λ (fs : List ForkId). with_forks made disk start fs) (ap (λ (f : ForkId). take n forks ++ (f ∷ [])) is ∙ sym (take_more forks n fork l))

-- all forks of a store, put into nothing
whole_fork : (o : Option ForkPages) (p : Option ForkPages) → p ≡ None → cond (is_some o) (Some (unwrap_or o [])) p ≡ o
whole_fork None p e = e
whole_fork (Some pages) p e = refl

pub all_copied : (store start : Store) → start ≡ empty → with_forks (λ pages. pages) store start (keys store) ≡ store
all_copied store start is = same_stores (with_forks (λ pages. pages) store start (keys store)) store (λ fork.
    forks_got (λ pages. pages) store start (keys store) fork ∙ ap (λ c. cond c (Some (pages_of store fork)) (get start fork)) (sym (keys_named store fork))
    ∙ whole_fork (get store fork) (get start fork) (ap (λ (s : Store). get s fork) is ∙ get-empty fork_cmp fork))

pub whole_copied : (store copy : Store) (forks : List ForkId) (n : ℕ) → forks ≡ keys store → length forks ≤ n → copy ≡ with_forks (λ pages. pages) store empty (take n forks) → copy ≡ store
whole_copied store copy forks n is all before =
    before ∙ ap (λ (fs : List ForkId). with_forks (λ pages. pages) store empty fs) (take_all n forks all ∙ is) ∙ all_copied store empty refl

-- ---- blocks in turn

range_step : (first count k : ℕ) → first < count → k ≡ count - first → range_with_len first k ≡ first ∷ range_with_len (first + 1) (count - (first + 1))
range_step first count zero l is = absurd (omega (arith, l, is))
range_step first count (suc k) l is = ap (λ (n : ℕ). first ∷ range_with_len (first + 1) n) (let e : k ≡ count - (first + 1) = omega (arith, l, is) in e)

pub blocks_more : (t : BlockId → Bool) (fork : ForkId) (first count n : ℕ) (all : Bool) → first < count → n ≡ first → t (record { fork = fork; block = n }) ≡ true
    → list_all t (map (λ block. record { fork = fork; block = block }) (range_with_len first (count - first))) ≡ all → list_all t (map (λ block. record { fork = fork; block = block }) (range_with_len (first + 1) (count - (first + 1)))) ≡ all
blocks_more t fork first count n all l same here before =
    let rest = list_all t (map (λ block. record { fork = fork; block = block }) (range_with_len (first + 1) (count - (first + 1)))) in
    sym (ap (λ c. c && rest) (ap (λ (k : ℕ). t (record { fork = fork; block = k })) (sym same) ∙ here))
    ∙ sym (ap (λ (ks : List ℕ). list_all t (map (λ block. record { fork = fork; block = block }) ks)) (range_step first count (count - first) l refl)) ∙ before
