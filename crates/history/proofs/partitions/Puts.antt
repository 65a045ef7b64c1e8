-- A fork changed in a store and in a part of it.
use Rattle.std.proofs.Common.{◌≡◌, ℕ, Bool, true, false, cond, ◌||◌, List, [], ◌∷◌, take, get_or, Option, Some, None, unwrap_or, is_some, refl, ap, sym, subst, ◌∙◌, arith, true≢false}
use Rattle.std.proofs.lemmas.Bool.{eq-eqb, or_from, false_from_ne_true}
use Rattle.std.specs.List.{filter}
use Rattle.lsn_core.specs.Relation.{Relation}
use Rattle.std.specs.FinMap.{get, insert, contains_key, same_map}
use Rattle.lsn_core.specs.byte_words.Pieces.{zero_page}
use Rattle.lsn_core.specs.declared.ids.ForkId.{ForkId}
use Rattle.lsn_core.specs.declared.ids.BlockId.{BlockId}
use Rattle.lsn_core.specs.Store.{Store, ForkPages}
use Rattle.lsn_core.specs.Blocks.{pages_of, with_block, page_put, with_fork, with_cut_pages, with_cut}
use Rattle.lsn_core.proofs.ForkOrder.{fork_cmp_total, fork_cmp-IsAntisymmetric}
use Rattle.history.specs.Apply.{main_fork, init_fork, is_same_fork, is_fork_of, is_of_any, without_rels, page_at}
use Rattle.history.proofs.Stores.{by_test, fork_is, get_here, get_there, get_without_rels}
use Rattle.history.specs.partitions.Parts.{partition_of, is_of, is_rel_of, IsPart}
use Rattle.history.specs.partitions.Laws.{StoresAreTheirParts, PartsAreUnique}

-- the part has a fork of its own as the store has it
pub own : (q : ℕ) (store part : Store) (fork : ForkId) → IsPart q store part → is_of q fork ≡ true → get part fork ≡ get store fork
own q store part fork is mine = is fork ∙ ap (λ c. cond c (get store fork) None) mine

-- pages put for a fork of the part, and for another one
pub put_own : (q : ℕ) (store part : Store) (fork : ForkId) (v : ForkPages) → IsPart q store part → is_of q fork ≡ true → IsPart q (insert store fork v) (insert part fork v)
put_own q store part fork v is mine f =
    by_test (is_same_fork f fork)
    (λ here. get_here part fork f v here ∙ sym (ap (λ c. cond c (get (insert store fork v) f) None) (ap (is_of q) (fork_is f fork here) ∙ mine) ∙ get_here store fork f v here))
    (λ away. get_there part fork f v away ∙ is f ∙ ap (λ x. cond (is_of q f) x None) (sym (get_there store fork f v away)))

pub put_other : (q : ℕ) (store part : Store) (fork : ForkId) (v : ForkPages) → IsPart q store part → is_of q fork ≡ false → IsPart q (insert store fork v) part
put_other q store part fork v is other f =
    by_test (is_same_fork f fork)
    (λ here.
    let none : is_of q f ≡ false = ap (is_of q) (fork_is f fork here) ∙ other in
    is f ∙ ap (λ c. cond c (get store f) None) none ∙ sym (ap (λ c. cond c (get (insert store fork v) f) None) none))
    (λ away. is f ∙ ap (λ x. cond (is_of q f) x None) (sym (get_there store fork f v away)))

-- a page put at a block of the part
pub pages_own : (q : ℕ) (store part : Store) (fork : ForkId) → IsPart q store part → is_of q fork ≡ true → pages_of part fork ≡ pages_of store fork
pages_own q store part fork is mine = ap (λ (o : Option ForkPages). unwrap_or o []) (own q store part fork is mine)

pub page_own : (q : ℕ) (store part : Store) (at : BlockId) (page : List ℕ) → IsPart q store part → is_of q at.fork ≡ true → IsPart q (page_put at page store) (page_put at page part)
page_own q store part at page is mine =
    subst (λ (s : Store). IsPart q (page_put at page store) s) (sym (ap (λ (ps : ForkPages). insert part at.fork (with_block ps at.block page)) (pages_own q store part at.fork is mine)))
    (put_own q store part at.fork (with_block (pages_of store at.fork) at.block page) is mine)

pub page_at_own : (q : ℕ) (store part : Store) (at : BlockId) → IsPart q store part → is_of q at.fork ≡ true → page_at part at ≡ page_at store at
page_at_own q store part at is mine = ap (λ (ps : ForkPages). get_or ps at.block zero_page) (pages_own q store part at.fork is mine)

-- a fork that is made
pub made_own : (q : ℕ) (store part : Store) (fork : ForkId) → IsPart q store part → is_of q fork ≡ true → IsPart q (with_fork store fork) (with_fork part fork)
made_own q store part fork is mine = go (contains_key store fork) (contains_key part fork) (ap is_some (own q store part fork is mine))
  where
    go : (c d : Bool) → d ≡ c → IsPart q (cond c store (insert store fork [])) (cond d part (insert part fork []))
    go true true e = is
    go false false e = put_own q store part fork [] is mine
    go true false e = absurd (true≢false (sym e))
    go false true e = absurd (true≢false e)

pub made_other : (q : ℕ) (store part : Store) (fork : ForkId) → IsPart q store part → is_of q fork ≡ false → IsPart q (with_fork store fork) part
made_other q store part fork is other = go (contains_key store fork)
  where
    go : (c : Bool) → IsPart q (cond c store (insert store fork [])) part
    go true = is
    go false = put_other q store part fork [] is other

-- a fork that is cut
pub cut_own : (q : ℕ) (store part : Store) (fork : ForkId) (n : ℕ) → IsPart q store part → is_of q fork ≡ true → IsPart q (with_cut store fork n) (with_cut part fork n)
cut_own q store part fork n is mine = subst (λ (x : Option ForkPages). IsPart q (with_cut store fork n) (with_cut_pages part fork n x)) (sym (own q store part fork is mine)) (go (get store fork))
  where
    go : (x : Option ForkPages) → IsPart q (with_cut_pages store fork n x) (with_cut_pages part fork n x)
    go None = is
    go (Some pages) = put_own q store part fork (take n pages) is mine

pub cut_other : (q : ℕ) (store part : Store) (fork : ForkId) (n : ℕ) → IsPart q store part → is_of q fork ≡ false → IsPart q (with_cut store fork n) part
cut_other q store part fork n is other = go (get store fork)
  where
    go : (x : Option ForkPages) → IsPart q (with_cut_pages store fork n x) part
    go None = is
    go (Some pages) = put_other q store part fork (take n pages) is other

-- relations that are dropped: of a partition's fork those of the partition tell all
not_of : (q : ℕ) (fork : ForkId) (rel : Relation) → is_of q fork ≡ true → is_rel_of q rel ≡ false → is_fork_of fork rel ≡ false
not_of q fork rel mine other =
    or_from (is_same_fork fork (main_fork rel)) (is_same_fork fork (init_fork rel))
    (false_from_ne_true (is_same_fork fork (main_fork rel)) (λ k. true≢false (sym mine ∙ ap (is_of q) (fork_is fork (main_fork rel) k) ∙ other)))
    (false_from_ne_true (is_same_fork fork (init_fork rel)) (λ k. true≢false (sym mine ∙ ap (is_of q) (fork_is fork (init_fork rel) k) ∙ other)))

own_tell : (q : ℕ) (fork : ForkId) (rels : List Relation) → is_of q fork ≡ true → is_of_any fork (filter (is_rel_of q) rels) ≡ is_of_any fork rels
own_tell q fork [] mine = refl
own_tell q fork (rel ∷ rels) mine =
    by_test (is_rel_of q rel)
    (λ own. ap (λ c. is_of_any fork (cond c (rel ∷ filter (is_rel_of q) rels) (filter (is_rel_of q) rels))) own ∙ ap (λ b. is_fork_of fork rel || b) (own_tell q fork rels mine))
    (λ other. ap (λ c. is_of_any fork (cond c (rel ∷ filter (is_rel_of q) rels) (filter (is_rel_of q) rels))) other ∙ own_tell q fork rels mine ∙ ap (λ b. b || is_of_any fork rels) (sym (not_of q fork rel mine other)))

none_left : (b : Bool) → ◌≡◌ {A = Option ForkPages} (cond b None None) None
none_left true = refl
none_left false = refl

pub rels_own : (q : ℕ) (store part : Store) (rels : List Relation) → IsPart q store part → IsPart q (without_rels store rels) (without_rels part (filter (is_rel_of q) rels))
rels_own q store part rels is fork =
    let few = filter (is_rel_of q) rels in
    get_without_rels part few fork
    ∙ ap (λ (o : Option ForkPages). cond (is_of_any fork few) None o) (is fork)
    ∙ by_test (is_of q fork)
    (λ mine.
    ap (λ c. cond (is_of_any fork few) None (cond c (get store fork) None)) mine
    ∙ ap (λ b. cond b None (get store fork)) (own_tell q fork rels mine)
    ∙ sym (get_without_rels store rels fork)
    ∙ sym (ap (λ c. cond c (get (without_rels store rels) fork) None) mine))
    (λ other.
    ap (λ c. cond (is_of_any fork few) None (cond c (get store fork) None)) other
    ∙ none_left (is_of_any fork few)
    ∙ sym (ap (λ c. cond c (get (without_rels store rels) fork) None) other))

-- a store, of its parts
pub made_of_parts : StoresAreTheirParts
made_of_parts store part parts fork =
    sym (parts (partition_of fork.rel) (omega arith) fork ∙ ap (λ c. cond c (get store fork) None) (eq-eqb (partition_of fork.rel) (partition_of fork.rel) refl))

pub one_part : PartsAreUnique
one_part q store a b x y = same_map fork_cmp_total fork_cmp-IsAntisymmetric a b (λ fork. x fork ∙ sym (y fork))
