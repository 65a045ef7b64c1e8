-- The page at a block of a store where another one was put.
use Rattle.std.proofs.Common.{◌≡◌, ℕ, zero, suc, ◌+◌, ◌-◌, ◌<◌, ◌≤◌, Bool, true, false, cond, List, [], ◌∷◌, ◌++◌, length, replicate, get_or, slice_set, Option, Some, None, unwrap_or, inl, inr, refl, ap, sym, ◌∙◌, arith, eqb-true, get_or-set_other, get_or-set_same, length-append, true≢false}
use Rattle.std.specs.Prelude.{◌==◌, ◌&&◌, ◌||◌, slice_get}
use Rattle.std.specs.Cmp.{Equal-is, eq_by_cmp_equiv}
use Rattle.std.specs.Ordering.{eq_by_cmp}
use Rattle.std.specs.FinMap.{get, insert, remove, get-insert, get-remove}
use Rattle.std.proofs.Math.ListN.{get_or-eq_default}
use Rattle.std.proofs.lemmas.List.{append-nil, set-get_or, length-replicate}
use Rattle.std.proofs.lemmas.Option.{get_or_from_slice_get, slice_get-get_or}
use Rattle.std.proofs.lemmas.Bool.{cases_lt, and_parts, eq-eqb}
use Rattle.lsn_core.specs.byte_words.Numbers.{◌>>=◌}
use Rattle.lsn_core.specs.Relation.{Relation}
use Rattle.lsn_core.specs.declared.ids.ForkId.{ForkId}
use Rattle.lsn_core.specs.declared.ids.BlockId.{BlockId}
use Rattle.lsn_core.specs.Store.{Store, ForkPages, fork_cmp}
use Rattle.lsn_core.specs.Blocks.{block_of, pages_of, with_block, page_put}
use Rattle.lsn_core.proofs.ForkOrder.{fork_cmp_total, fork_cmp-IsAntisymmetric}
use Rattle.pg_page.specs.Header.{lsn_of, zero_page}
use Rattle.history.specs.Apply.{main_fork, init_fork, is_same_fork, is_fork_of, is_of_any, without_rel, without_rels, is_same_block, page_at}
use Rattle.history.proofs.StoreMap.{insert_same}

-- forks are one where the test says so
pub fork_is : (q fork : ForkId) → is_same_fork q fork ≡ true → q ≡ fork
unfolding is_same_fork
fork_is q fork e = fork_cmp-IsAntisymmetric q fork ((Equal-is _).0 e)

pub fork_self : (fork : ForkId) → is_same_fork fork fork ≡ true
unfolding is_same_fork
fork_self fork = (eq_by_cmp_equiv fork_cmp_total).refl fork

pub get_here : (store : Store) (fork q : ForkId) (v : ForkPages) → is_same_fork q fork ≡ true → get (insert store fork v) q ≡ Some v
unfolding is_same_fork
get_here store fork q v e = get-insert fork_cmp_total store fork v q ∙ ap (λ c. cond c (Some v) (get store q)) e

pub get_there : (store : Store) (fork q : ForkId) (v : ForkPages) → is_same_fork q fork ≡ false → get (insert store fork v) q ≡ get store q
unfolding is_same_fork
get_there store fork q v e = get-insert fork_cmp_total store fork v q ∙ ap (λ c. cond c (Some v) (get store q)) e

-- relations that were taken away
pub gone_of_two : (a b : Bool) (o : Option ForkPages) → cond b None (cond a None o) ≡ cond (a || b) None o
gone_of_two true true o = refl
gone_of_two true false o = refl
gone_of_two false true o = refl
gone_of_two false false o = refl

pub get_without_rel : (store : Store) (rel : Relation) (q : ForkId) → get (without_rel store rel) q ≡ cond (is_fork_of q rel) None (get store q)
unfolding is_same_fork
get_without_rel store rel q =
    get-remove fork_cmp_total (remove store (main_fork rel)) (init_fork rel) q
    ∙ ap (λ o. cond (eq_by_cmp fork_cmp q (init_fork rel)) None o) (get-remove fork_cmp_total store (main_fork rel) q)
    ∙ gone_of_two (eq_by_cmp fork_cmp q (main_fork rel)) (eq_by_cmp fork_cmp q (init_fork rel)) (get store q)

pub get_without_rels : (store : Store) (rels : List Relation) (q : ForkId) → get (without_rels store rels) q ≡ cond (is_of_any q rels) None (get store q)
get_without_rels store [] q = refl
get_without_rels store (rel ∷ rels) q =
    get_without_rels (without_rel store rel) rels q
    ∙ ap (λ o. cond (is_of_any q rels) None o) (get_without_rel store rel q)
    ∙ gone_of_two (is_fork_of q rel) (is_of_any q rels) (get store q)

pub by_test : {P : Type 0} (t : Bool) → (t ≡ true → P) → (t ≡ false → P) → P
by_test true first other = first refl
by_test false first other = other refl

-- blocks are one where the test says so
pub block_is : (q at : BlockId) → is_same_block q at ≡ true → q ≡ at
block_is q at e =
    let parts = and_parts (is_same_fork q.fork at.fork) (q.block == at.block) e in
    let fork = fork_is q.fork at.fork parts.0 in
    let block = eqb-true q.block at.block parts.1 in
    λ i. record { fork = fork i; block = block i }

pub block_self : (at : BlockId) → is_same_block at at ≡ true
block_self at = rw (fork_self at.fork, eq-eqb at.block at.block refl) refl

get_zeros : (k c : ℕ) (z : List ℕ) → get_or (replicate k z) c z ≡ z
get_zeros zero c z = refl
get_zeros (suc k) zero z = refl
get_zeros (suc k) (suc c) z = get_zeros k c z

get_filled : (xs : ForkPages) (k c : ℕ) (z : List ℕ) → get_or (xs ++ replicate k z) c z ≡ get_or xs c z
get_filled [] k c z = get_zeros k c z
get_filled (x ∷ xs) k zero z = refl
get_filled (x ∷ xs) k (suc c) z = get_filled xs k c z

not_same : (c b : ℕ) → (c == b) ≡ false → c ≡ b → ⊥
not_same c b f e = true≢false (sym (eq-eqb c b e) ∙ f)

-- a page that is put at a block leaves the others, which are zero pages where they were missing
pub page_apart : (store : Store) (at q : BlockId) (page : List ℕ) → is_same_block q at ≡ false → page_at (page_put at page store) q ≡ page_at store q
page_apart store at q page apart =
    let v = with_block (pages_of store at.fork) at.block page in
    by_test (is_same_fork q.fork at.fork)
    (λ here.
    let other : (q.block == at.block) ≡ false = sym (ap (λ t. t && (q.block == at.block)) here) ∙ apart in
    ap (λ (o : Option ForkPages). get_or (unwrap_or o []) q.block zero_page) (get_here store at.fork q.fork v here)
    ∙ get_or-set_other (pages_of store at.fork ++ replicate (at.block + 1 - length (pages_of store at.fork)) zero_page) at.block q.block page zero_page (not_same q.block at.block other)
    ∙ get_filled (pages_of store at.fork) (at.block + 1 - length (pages_of store at.fork)) q.block zero_page
    ∙ ap (λ f. get_or (pages_of store f) q.block zero_page) (sym (fork_is q.fork at.fork here)))
    (λ away. ap (λ (o : Option ForkPages). get_or (unwrap_or o []) q.block zero_page) (get_there store at.fork q.fork v away))

-- the page that was put
pub page_here : (store : Store) (at : BlockId) (page : List ℕ) → page_at (page_put at page store) at ≡ page
page_here store at page =
    let ps = pages_of store at.fork in
    let k = at.block + 1 - length ps in
    ap (λ (o : Option ForkPages). get_or (unwrap_or o []) at.block zero_page) (get_here store at.fork at.fork (with_block ps at.block page) (fork_self at.fork))
    ∙ get_or-set_same (ps ++ replicate k zero_page) at.block page zero_page (omega (arith, length-append ps (replicate k zero_page), length-replicate k zero_page))

-- the page at a block, by what a look at the block finds
pub page_found : (store : Store) (at : BlockId) (page : List ℕ) → block_of store at.fork at.block ≡ Some page → page_at store at ≡ page
page_found store at page e = go (get store at.fork) e
  where
    go : (o : Option ForkPages) → (o >>= λ pages. slice_get pages at.block) ≡ Some page → get_or (unwrap_or o []) at.block zero_page ≡ page
    go None e = absurd cc
    go (Some pages) e = get_or_from_slice_get pages at.block page zero_page e

past_end : (pages : ForkPages) (block : ℕ) → slice_get pages block ≡ None → length pages ≤ block
past_end pages block e =
    elim (cases_lt block (length pages)) [
      | inl h ↦ absurd (let k = slice_get-get_or pages block [] h in cc)
      | inr h ↦ h
    ]

pub page_missing : (store : Store) (at : BlockId) → block_of store at.fork at.block ≡ None → page_at store at ≡ zero_page
page_missing store at e = go (get store at.fork) e
  where
    go : (o : Option ForkPages) → (o >>= λ pages. slice_get pages at.block) ≡ None → get_or (unwrap_or o []) at.block zero_page ≡ zero_page
    go None e = refl
    go (Some pages) e = get_or-eq_default pages zero_page (past_end pages at.block e)

-- zero pages have no LSN
no_bytes : (n i : ℕ) → get_or {A = ℕ} (replicate n 0) i 0 ≡ 0
no_bytes zero i = refl
no_bytes (suc n) zero = refl
no_bytes (suc n) (suc i) = no_bytes n i

zero_lsn : (n : ℕ) → lsn_of (replicate n 0) ≡ 0
zero_lsn n = rw (no_bytes n 0, no_bytes n 1, no_bytes n 2, no_bytes n 3, no_bytes n 4, no_bytes n 5, no_bytes n 6, no_bytes n 7) refl

pub lsn_of-zero_page : lsn_of zero_page ≡ 0
unfolding zero_page
lsn_of-zero_page = zero_lsn 8192

short_set : (pages : ForkPages) (n block : ℕ) (z : List ℕ) → n ≡ 0 → slice_set (pages ++ replicate n z) block (get_or pages block z) ≡ pages
short_set pages n block z none =
    ap (λ k. slice_set (pages ++ replicate k z) block (get_or pages block z)) none ∙ ap (λ (ps : ForkPages). slice_set ps block (get_or pages block z)) (append-nil pages) ∙ set-get_or pages block z

-- a page that has an LSN, put where it stands
pub put_same : (store : Store) (at : BlockId) → 0 < lsn_of (page_at store at) → page_put at (page_at store at) store ≡ store
put_same store at some = go (get store at.fork) refl
  where
    go : (o : Option ForkPages) → get store at.fork ≡ o → page_put at (page_at store at) store ≡ store
    go None e =
        let zero_there : page_at store at ≡ zero_page = ap (λ (o : Option ForkPages). get_or (unwrap_or o []) at.block zero_page) e in
        absurd (omega (arith, some, ap lsn_of zero_there, lsn_of-zero_page))
    go (Some pages) e =
        let there : pages_of store at.fork ≡ pages = ap (λ (o : Option ForkPages). unwrap_or o []) e in
        let page : page_at store at ≡ get_or pages at.block zero_page = ap (λ (ps : ForkPages). get_or ps at.block zero_page) there in
        elim (cases_lt at.block (length pages)) [
          | inl within ↦
              ap (λ (p : List ℕ). insert store at.fork (with_block (pages_of store at.fork) at.block p)) page
              ∙ ap (λ (ps : ForkPages). insert store at.fork (with_block ps at.block (get_or pages at.block zero_page))) there
              ∙ ap (insert store at.fork) (short_set pages (at.block + 1 - length pages) at.block zero_page (omega arith))
              ∙ insert_same store at.fork pages e
          | inr past ↦ absurd (omega (arith, some, ap lsn_of (page ∙ get_or-eq_default pages zero_page past), lsn_of-zero_page))
        ]
