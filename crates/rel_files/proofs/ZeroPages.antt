-- Zero pages put one after the other up to a block, and what puts in turn leave where one fails.
use Rattle.std.proofs.Common.{◌≡◌, ℕ, zero, suc, ◌+◌, ◌-◌, ◌<◌, ◌≤◌, Bool, List, [], ◌∷◌, ◌++◌, length, take, replicate, slice_set, Option, Some, None, unwrap_or, refl, ap, sym, subst, ◌∙◌, arith, append_assoc, length-append}
use Rattle.std.proofs.lemmas.Bool.{lt-ltb, le-ltb}
use Rattle.std.proofs.lemmas.List.{append-nil, length-replicate}
use Rattle.std.proofs.lemmas.Grind.{replicate_next}
use Rattle.std.specs.Prelude.{if◌then◌else◌}
use Rattle.std.specs.FinMap.{get}
use Rattle.lsn_core.specs.byte_words.Pieces.{zero_page}
use Rattle.lsn_core.specs.declared.ids.ForkId.{ForkId}
use Rattle.lsn_core.specs.Store.{Store, ForkPages}
use Rattle.lsn_core.specs.Blocks.{pages_of, with_block, with_page}
use Rattle.rel_files.specs.Forks.{AreHeld, whole_pages, mended, page_over, IsTornPut}
use Rattle.std.proofs.Math.Seq.{set-append_seam}
use Rattle.rel_files.proofs.Pages.{put, block_put, HeldBy, held_by, held_grown, count_whole, whole_are}
use Rattle.rel_files.proofs.ForkStores.{get_here, get_there, same_store, mended_get, mended_none, mended_others}
use Rattle.rel_files.proofs.TornPuts.{put_pages, whole_within, put_is_torn, none_is_torn}

-- ---- puts that failed, in turn

-- a put that failed at a block before another one, behind the whole pages, may be one of that
pub torn_before : (store new : Store) (fork : ForkId) (block b : ℕ) → length (whole_pages (pages_of store fork)) ≤ block → block ≤ b → IsTornPut (record { fork = fork; block = block }) store new → IsTornPut (record { fork = fork; block = b }) store new
torn_before store new fork block b least l torn = record {
  others = torn.others;
  there = torn.there;
  blocks = λ i less ne. torn.blocks i less (λ e. omega (arith, e, less, least));
  most = omega (arith, torn.most);
}

-- one after the other
pub torn_then : (store between new : Store) (fork : ForkId) (b : ℕ) → length (whole_pages (pages_of store fork)) ≤ length (whole_pages (pages_of between fork))
    → IsTornPut (record { fork = fork; block = b }) store between → IsTornPut (record { fork = fork; block = b }) between new → IsTornPut (record { fork = fork; block = b }) store new
torn_then store between new fork b more first second = record {
  others = λ q ne. second.others q ne ∙ first.others q ne;
  there = λ e. second.there (first.there e);
  blocks = λ i less ne. second.blocks i (omega (arith, less, more)) ne ∙ first.blocks i less ne;
  most = omega (arith, first.most, second.most);
}

-- ---- zero pages behind the pages of a fork

set_behind : {X : Type 0} (n : ℕ) (fill y : X) → slice_set (replicate (n + 1) fill) n y ≡ replicate n fill ++ (y ∷ [])
set_behind {X = X} n fill y =
    ap (λ (zs : List X). slice_set zs n y) (replicate_next n fill)
    ∙ ap (λ (k : ℕ). slice_set (replicate n fill ++ (fill ∷ [])) k y) (sym (length-replicate n fill))
    ∙ set-append_seam (replicate n fill) fill [] y

set_filled : {X : Type 0} (xs : List X) (b n : ℕ) (fill y : X) → b ≡ length xs + n → slice_set (xs ++ replicate (n + 1) fill) b y ≡ (xs ++ replicate n fill) ++ (y ∷ [])
set_filled {X = X} [] b n fill y e = let same : b ≡ n = omega (arith, e) in ap (λ (k : ℕ). slice_set (replicate (n + 1) fill) k y) same ∙ set_behind n fill y
set_filled (x ∷ xs) zero n fill y e = absurd (omega (arith, e))
set_filled {X = X} (x ∷ xs) (suc b) n fill y e = ap (λ (zs : List X). x ∷ zs) (set_filled xs b n fill y (omega (arith, e)))

-- a page behind the end: zero pages, and the page
pub block_behind : (pages : ForkPages) (b : ℕ) (page : List ℕ) → length pages ≤ b → with_block pages b page ≡ (pages ++ replicate (b - length pages) zero_page) ++ (page ∷ [])
block_behind pages b page l =
    let n = b - length pages in
    let more : b + 1 - length pages ≡ n + 1 = omega arith in
    ap (λ (k : ℕ). slice_set (pages ++ replicate k zero_page) b page) more ∙ set_filled pages b n zero_page page (omega arith)

-- a zero page first makes no difference
zero_first : (pages : ForkPages) (b : ℕ) (page : List ℕ) → length pages ≤ b → with_block (with_block pages b zero_page) (b + 1) page ≡ with_block pages (b + 1) page
zero_first pages b page l =
    let n = b - length pages in
    let filled = (pages ++ replicate n zero_page) ++ (zero_page ∷ []) in
    let size : length filled ≡ b + 1 = length-append (pages ++ replicate n zero_page) (zero_page ∷ []) ∙ omega (arith, length-append pages (replicate n zero_page), length-replicate {A = List ℕ} n zero_page) in
    let none : b + 1 - length filled ≡ 0 = omega (arith, size) in
    let next : b + 1 - length pages ≡ n + 1 = omega arith in
    ap (λ (ps : ForkPages). with_block ps (b + 1) page) (block_behind pages b zero_page l)
    ∙ block_behind filled (b + 1) page (omega (arith, size))
    ∙ ap (λ (k : ℕ). (filled ++ replicate k zero_page) ++ (page ∷ [])) none
    ∙ ap (λ (ps : ForkPages). ps ++ (page ∷ [])) (append-nil filled ∙ append_assoc pages (replicate n zero_page) (zero_page ∷ []) ∙ ap (λ (zs : ForkPages). pages ++ zs) (sym (replicate_next n zero_page)))
    ∙ ap (λ (k : ℕ). (pages ++ replicate k zero_page) ++ (page ∷ [])) (sym next)
    ∙ sym (block_behind pages (b + 1) page (omega arith))

page_twice : (store : Store) (fork : ForkId) (b : ℕ) (page : List ℕ) → length (pages_of store fork) ≤ b → with_page (with_page store fork b zero_page) fork (b + 1) page ≡ with_page store fork (b + 1) page
page_twice store fork b page l =
    let pages = pages_of store fork in
    let first = with_block pages b zero_page in
    let between = with_page store fork b zero_page in
    let is : pages_of between fork ≡ first = ap (λ (o : Option ForkPages). unwrap_or o []) (get_here store fork first) in
    same_store fork (with_page between fork (b + 1) page) (with_page store fork (b + 1) page)
    (get_here between fork (with_block (pages_of between fork) (b + 1) page)
    ∙ ap (λ (ps : ForkPages). Some ps) (ap (λ (ps : ForkPages). with_block ps (b + 1) page) is ∙ zero_first pages b page l)
    ∙ sym (get_here store fork (with_block pages (b + 1) page)))
    (λ q ne. get_there between fork (with_block (pages_of between fork) (b + 1) page) q ne ∙ get_there store fork first q ne ∙ sym (get_there store fork (with_block pages (b + 1) page) q ne))

-- ---- a put over a short page

pub mended_pages_are : (store : Store) (fork : ForkId) → pages_of (mended store fork) fork ≡ whole_pages (pages_of store fork)
mended_pages_are store fork = by (get store fork) refl
  where
    by : (o : Option ForkPages) → get store fork ≡ o → pages_of (mended store fork) fork ≡ whole_pages (pages_of store fork)
    by None e = ap (λ (o : Option ForkPages). unwrap_or o []) (mended_none store fork e) ∙ sym (ap (λ (o : Option ForkPages). whole_pages (unwrap_or o [])) e)
    by (Some pages) e = ap (λ (o : Option ForkPages). unwrap_or o []) (mended_get store fork pages e) ∙ sym (ap (λ (o : Option ForkPages). whole_pages (unwrap_or o [])) e)

over_short : (size w : ℕ) (pages : ForkPages) (page : List ℕ) → HeldBy size w pages → put pages w page ≡ take w pages ++ (page ∷ [])
over_short size zero [] page h = refl
over_short size zero (p ∷ []) page h = refl
over_short size zero (p ∷ (q ∷ pages)) page h = absurd h
over_short size (suc w) [] page h = absurd h
over_short size (suc w) (p ∷ pages) page h = ap (λ (ps : ForkPages). p ∷ ps) (over_short size w pages page h.1)

-- behind the whole pages it is that of the pages without the short one
pub put_over_short : (store : Store) (fork : ForkId) (page : List ℕ) → AreHeld (pages_of store fork)
    → with_page store fork (length (whole_pages (pages_of store fork))) page ≡ with_page (mended store fork) fork (length (whole_pages (pages_of store fork))) page
put_over_short store fork page held =
    let pages = pages_of store fork in
    let w = length (whole_pages pages) in
    let by = held_by pages held in
    let none : w - length (whole_pages pages) ≡ 0 = omega arith in
    let old : with_block pages w page ≡ whole_pages pages ++ (page ∷ []) =
    block_put pages w page (whole_within pages held) ∙ over_short 8192 w pages page by ∙ ap (λ (ps : ForkPages). ps ++ (page ∷ [])) (sym (whole_are w pages by)) in
    let new : with_block (whole_pages pages) w page ≡ whole_pages pages ++ (page ∷ []) =
    block_behind (whole_pages pages) w page (omega arith) ∙ ap (λ (k : ℕ). (whole_pages pages ++ replicate k zero_page) ++ (page ∷ [])) none ∙ ap (λ (ps : ForkPages). ps ++ (page ∷ [])) (append-nil (whole_pages pages)) in
    same_store fork (with_page store fork w page) (with_page (mended store fork) fork w page)
    (get_here store fork (with_block pages w page)
    ∙ ap (λ (ps : ForkPages). Some ps) (old ∙ sym (ap (λ (ps : ForkPages). with_block ps w page) (mended_pages_are store fork) ∙ new))
    ∙ sym (get_here (mended store fork) fork (with_block (pages_of (mended store fork) fork) w page)))
    (λ q ne. get_there store fork (with_block pages w page) q ne ∙ sym (get_there (mended store fork) fork (with_block (pages_of (mended store fork) fork) w page) q ne ∙ mended_others store fork q ne))

-- ---- zero pages were put up to before a block, on the way to another one

pub record IsFilledTo (store new : Store) (fork : ForkId) (block b : ℕ) : Type 0 where
  pub least : length (whole_pages (pages_of store fork)) ≤ block
  pub count : length (whole_pages (pages_of new fork)) ≡ block
  pub torn : IsTornPut (record { fork = fork; block = b }) store new
  pub put : (page : List ℕ) → with_page new fork block page ≡ with_page (mended store fork) fork block page

pub filled_start : (store : Store) (fork : ForkId) (block b : ℕ) → AreHeld (pages_of store fork) → block ≡ length (whole_pages (pages_of store fork)) → IsFilledTo store store fork block b
filled_start store fork block b held is = record {
  least = omega (arith, is);
  count = sym is;
  torn = none_is_torn store fork b;
  put = λ page. subst (λ (k : ℕ). with_page store fork k page ≡ with_page (mended store fork) fork k page) (sym is) (put_over_short store fork page held);
}

pub zero_size : length zero_page ≡ 8192
unfolding zero_page
zero_size = length-replicate {A = ℕ} 8192 0

pub filled_next : (store new : Store) (fork : ForkId) (block b : ℕ) → AreHeld (pages_of new fork) → IsFilledTo store new fork block b → block < b → IsFilledTo store (with_page new fork block zero_page) fork (block + 1) b
filled_next store new fork block b held filled l =
    let pages = pages_of new fork in
    let w = length (whole_pages pages) in
    let whole = whole_within pages held in
    let is = put_pages new fork block zero_page (omega (arith, whole, filled.count)) in
    let grown = count_whole (suc w) (put pages w zero_page) (held_grown 8192 w pages zero_page (held_by pages held) zero_size) in
    let at : length (whole_pages (put pages block zero_page)) ≡ block + 1 = ap (λ (k : ℕ). length (whole_pages (put pages k zero_page))) (sym filled.count) ∙ grown ∙ omega (arith, filled.count) in
    let none = ap length (mended_pages_are store fork) in
    record {
      least = omega (arith, filled.least);
      count = ap (λ (ps : ForkPages). length (whole_pages ps)) is ∙ at;
      torn = torn_then store new (with_page new fork block zero_page) fork b (omega (arith, filled.least, filled.count)) filled.torn
          (torn_before new (with_page new fork block zero_page) fork block b (omega (arith, filled.count)) (omega arith) (put_is_torn new fork block zero_page held (omega (arith, filled.count))));
      put = λ page.
          ap (λ (s : Store). with_page s fork (block + 1) page) (filled.put zero_page) ∙ page_twice (mended store fork) fork block page (omega (arith, none, filled.least));
    }

-- a put on the way that failed
pub filled_torn : (store new left : Store) (fork : ForkId) (block b : ℕ) → IsFilledTo store new fork block b → block ≤ b → IsTornPut (record { fork = fork; block = block }) new left → IsTornPut (record { fork = fork; block = b }) store left
filled_torn store new left fork block b filled l torn =
    torn_then store new left fork b (omega (arith, filled.least, filled.count)) filled.torn (torn_before new left fork block b (omega (arith, filled.count)) l torn)

-- ---- a put of a page over raw pages

pub over_within : (store : Store) (fork : ForkId) (b : ℕ) (page : List ℕ) → b < length (whole_pages (pages_of store fork)) → page_over (record { fork = fork; block = b }) page store ≡ with_page store fork b page
over_within store fork b page l = ap (λ (t : Bool). if t then with_page store fork b page else with_page (mended store fork) fork b page) (lt-ltb b (length (whole_pages (pages_of store fork))) l)

pub over_past : (store : Store) (fork : ForkId) (b : ℕ) (page : List ℕ) → length (whole_pages (pages_of store fork)) ≤ b → page_over (record { fork = fork; block = b }) page store ≡ with_page (mended store fork) fork b page
over_past store fork b page l = ap (λ (t : Bool). if t then with_page store fork b page else with_page (mended store fork) fork b page) (le-ltb b (length (whole_pages (pages_of store fork))) l)

-- where the zero pages reach the block, a put there is all that is left
pub filled_put : (store new : Store) (fork : ForkId) (b : ℕ) (page : List ℕ) → IsFilledTo store new fork b b → with_page new fork b page ≡ page_over (record { fork = fork; block = b }) page store
filled_put store new fork b page filled = filled.put page ∙ sym (over_past store fork b page filled.least)
