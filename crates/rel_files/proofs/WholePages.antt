-- Stores whose pages are all whole: what calls leave of them is whole, and has no short page to take away.
use Rattle.std.proofs.Common.{◌≡◌, ℕ, suc, ◌+◌, ◌-◌, Bool, true, false, List, [], ◌∷◌, ◌++◌, length, take, replicate, nat_lt, Option, Some, None, unwrap_or, refl, ap, sym, subst, ◌∙◌, arith}
use Rattle.std.proofs.lemmas.List.Elements.{All-append, All-replicate, All-take, All-set}
use Rattle.std.specs.Prelude.{if◌then◌else◌}
use Rattle.std.specs.List.{All}
use Rattle.std.specs.FinMap.{get, insert, contains_key}
use Rattle.lsn_core.specs.byte_words.Pieces.{zero_page}
use Rattle.lsn_core.specs.declared.ids.ForkId.{ForkId}
use Rattle.lsn_core.specs.declared.ids.BlockId.{BlockId}
use Rattle.lsn_core.specs.Store.{Store, ForkPages}
use Rattle.lsn_core.specs.Blocks.{pages_of, with_block, with_page, page_put, with_fork, with_cut, without_fork}
use Rattle.rel_files.specs.Forks.{whole_pages, HasWholePages, mended, page_over}
use Rattle.rel_files.proofs.Pages.{filter_more}
use Rattle.rel_files.proofs.ForkStores.{get_here, get_there, gone_here, gone_there, each_fork, some_is, mended_is, mended_missing}
use Rattle.rel_files.proofs.ZeroPages.{zero_size}
use Rattle.rel_files.proofs.ForkCuts.{same_again, cut_missing, cut_get, cut_others}

abbrev pub AreWhole : ForkPages → Type 0
AreWhole pages = All (λ page. length page ≡ 8192) pages

pub whole_all : (pages : ForkPages) → AreWhole pages → whole_pages pages ≡ pages
whole_all [] all = refl
whole_all (page ∷ pages) all = filter_more page pages (all 0 [] (omega arith)) ∙ ap (λ (ps : ForkPages). page ∷ ps) (whole_all pages (λ k d l. all (suc k) d (omega (arith, l))))

-- no short page is taken away
pub whole_mended : (store : Store) (fork : ForkId) → HasWholePages store → mended store fork ≡ store
whole_mended store fork whole = by (get store fork) refl
  where
    by : (o : Option ForkPages) → get store fork ≡ o → mended store fork ≡ store
    by None e = mended_missing store fork e
    by (Some pages) e = mended_is store fork pages e ∙ ap (insert store fork) (whole_all pages (whole fork pages e)) ∙ same_again store fork pages e

-- so a put over raw pages is a put
pub whole_over : (store : Store) (at : BlockId) (page : List ℕ) → HasWholePages store → page_over at page store ≡ page_put at page store
whole_over store at page whole =
    ap (λ (s : Store). if nat_lt at.block (length (whole_pages (pages_of store at.fork))) then page_put at page store else page_put at page s) (whole_mended store at.fork whole)
    ∙ either (nat_lt at.block (length (whole_pages (pages_of store at.fork)))) (page_put at page store)
  where
    either : (b : Bool) (s : Store) → (if b then s else s) ≡ s
    either true s = refl
    either false s = refl

whole_of : (o : Option ForkPages) → ((pages : ForkPages) → o ≡ Some pages → AreWhole pages) → AreWhole (unwrap_or o [])
whole_of None all = λ k d l. absurd (omega (arith, l))
whole_of (Some pages) all = all pages refl

-- a change of one fork leaves whole pages, where those of the fork are
changed_whole : (store new : Store) (fork : ForkId) (pages : ForkPages) → HasWholePages store → new ≡ insert store fork pages → AreWhole pages → HasWholePages new
changed_whole store new fork pages whole is all =
    subst HasWholePages (sym is) (each_fork (λ q ps. AreWhole ps) fork store (insert store fork pages) (get_there store fork pages) whole (λ ps e. subst AreWhole (some_is pages ps (get (insert store fork pages) fork) (get_here store fork pages) e) all))

pub put_whole : (store : Store) (fork : ForkId) (b : ℕ) (page : List ℕ) → HasWholePages store → length page ≡ 8192 → HasWholePages (with_page store fork b page)
put_whole store fork b page whole size =
    let pages = pages_of store fork in
    let zeros = replicate (b + 1 - length pages) zero_page in
    changed_whole store (with_page store fork b page) fork (with_block pages b page) whole refl
    (All-set (λ p. length p ≡ 8192) (pages ++ zeros) b page size
    (All-append (λ p. length p ≡ 8192) pages zeros (whole_of (get store fork) (whole fork)) (All-replicate (λ p. length p ≡ 8192) (b + 1 - length pages) zero_page zero_size)))

pub made_whole : (store : Store) (fork : ForkId) → HasWholePages store → HasWholePages (with_fork store fork)
made_whole store fork whole = by (contains_key store fork) refl
  where
    by : (b : Bool) → contains_key store fork ≡ b → HasWholePages (if b then store else insert store fork [])
    by true e = whole
    by false e = changed_whole store (insert store fork []) fork [] whole refl (λ k d l. absurd (omega (arith, l)))

pub cut_leaves_whole : (store : Store) (fork : ForkId) (n : ℕ) → HasWholePages store → HasWholePages (with_cut store fork n)
cut_leaves_whole store fork n whole =
    each_fork (λ q ps. AreWhole ps) fork store (with_cut store fork n) (cut_others store fork n) whole (here (get store fork) refl)
  where
    here : (o : Option ForkPages) → get store fork ≡ o → (ps : ForkPages) → get (with_cut store fork n) fork ≡ Some ps → AreWhole ps
    here None e ps is = let none : None ≡ Some ps = sym (ap (λ (s : Store). get s fork) (cut_missing store fork n e) ∙ e) ∙ is in absurd cc
    here (Some pages) e ps is =
        subst AreWhole (some_is (take n pages) ps (get (with_cut store fork n) fork) (cut_get store fork pages n e) is) (All-take (λ p. length p ≡ 8192) n pages (whole fork pages e))

pub gone_whole : (store : Store) (fork : ForkId) → HasWholePages store → HasWholePages (without_fork store fork)
gone_whole store fork whole =
    each_fork (λ q ps. AreWhole ps) fork store (without_fork store fork) (gone_there store fork) whole (λ ps is. let none : None ≡ Some ps = sym (gone_here store fork) ∙ is in absurd cc)
