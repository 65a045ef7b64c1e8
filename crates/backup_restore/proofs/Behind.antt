-- A page put behind the last one of a fork.
use Rattle.std.proofs.Common.{◌≡◌, ℕ, ◌+◌, ◌-◌, Bool, true, false, cond, List, [], ◌∷◌, ◌++◌, length, replicate, slice_set, Option, unwrap_or, refl, sym, ap, ◌∙◌, arith}
use Rattle.std.specs.FinMap.{get, insert, same_map}
use Rattle.std.proofs.Math.Seq.{set-append_seam}
use Rattle.lsn_core.specs.byte_words.Pieces.{zero_page}
use Rattle.lsn_core.specs.Blocks.{page_put, pages_of, with_block}
use Rattle.lsn_core.specs.Store.{Store, ForkPages}
use Rattle.lsn_core.specs.declared.ids.BlockId.{BlockId}
use Rattle.lsn_core.specs.declared.ids.ForkId.{ForkId}
use Rattle.lsn_core.proofs.ForkOrder.{fork_cmp_total, fork_cmp-IsAntisymmetric}
use Rattle.history.specs.Apply.{is_same_fork}
use Rattle.history.proofs.Stores.{get_here, get_there, fork_self, by_test}

-- a page put behind the last one
behind_last : (pages : ForkPages) (n : ℕ) (page : List ℕ) → n ≡ length pages → with_block pages n page ≡ pages ++ (page ∷ [])
behind_last pages n page is =
    let one : n + 1 - length pages ≡ 1 = omega (arith, is) in
    ap (λ (k : ℕ). slice_set (pages ++ replicate k zero_page) n page) one
    ∙ ap (λ (k : ℕ). slice_set (pages ++ (zero_page ∷ [])) k page) is
    ∙ set-append_seam pages zero_page [] page

again : {A : Type 0} (b : Bool) (x y z : A) → cond b x (cond b y z) ≡ cond b x z
again true x y z = refl
again false x y z = refl

insert_again : (s : Store) (fork : ForkId) (first second : ForkPages) → insert (insert s fork first) fork second ≡ insert s fork second
insert_again s fork first second = same_map fork_cmp_total fork_cmp-IsAntisymmetric (insert (insert s fork first) fork second) (insert s fork second) (λ q. go q)
  where
    go : (q : ForkId) → get (insert (insert s fork first) fork second) q ≡ get (insert s fork second) q
    go q = by_test (is_same_fork q fork)
        (λ same. get_here (insert s fork first) fork q second same ∙ sym (get_here s fork q second same))
        (λ other. get_there (insert s fork first) fork q second other ∙ get_there s fork q first other ∙ sym (get_there s fork q second other))

pub put_behind : (s : Store) (at : BlockId) (pages : ForkPages) (page : List ℕ) → at.block ≡ length pages → page_put at page (insert s at.fork pages) ≡ insert s at.fork (pages ++ (page ∷ []))
put_behind s at pages page is =
    let here : pages_of (insert s at.fork pages) at.fork ≡ pages = ap (λ (o : Option ForkPages). unwrap_or o []) (get_here s at.fork at.fork pages (fork_self at.fork)) in
    insert_again s at.fork pages (with_block (pages_of (insert s at.fork pages) at.fork) at.block page)
    ∙ ap (λ (l : ForkPages). insert s at.fork (with_block l at.block page)) here
    ∙ ap (insert s at.fork) (behind_last pages at.block page is)
