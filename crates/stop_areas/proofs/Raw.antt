-- The pages that stay are among those that files hold after a call too, whatever it answers.
use Rattle.std.proofs.Common.{◌≡◌, ◌≢◌, ℕ, zero, suc, ◌+◌, ◌-◌, ◌<◌, inl, inr, min, Bool, true, false, true≢false, List, [], ◌∷◌, ◌++◌, length, replicate, Option, Some, None, is_some, unwrap_or, refl, sym, ap, subst, ◌∙◌, arith}
use Rattle.std.specs.Prelude.{nat_lt, slice_get, slice_set, if◌then◌else◌}
use Rattle.std.specs.FinMap.{get, insert, contains_key}
use Rattle.lsn_core.specs.byte_words.Numbers.{◌>>=◌}
use Rattle.lsn_core.specs.byte_words.Pieces.{zero_page}
use Rattle.lsn_core.specs.declared.ids.ForkId.{ForkId}
use Rattle.lsn_core.specs.declared.ids.BlockId.{BlockId}
use Rattle.lsn_core.specs.Store.{Store, ForkPages}
use Rattle.lsn_core.specs.Blocks.{block_of, pages_of, with_block, page_put, with_fork, with_cut, without_fork}
use Rattle.rel_files.specs.Forks.{AreHeld, HasHeldPages, whole_pages, mended, page_over, AgreeOnOthers, IsTornPut, IsTornCut, IsTornRemoval}
use Rattle.rel_files.specs.Shown.{IsTornMake}
use Rattle.rel_files.proofs.Pages.{taken_get}
use Rattle.rel_files.proofs.ForkStores.{by_fork, get_here, get_there, gone_there, mended_get, mended_block, mended_others}
use Rattle.rel_files.proofs.ForkCuts.{cut_pages_are, cut_mended, cut_others}
use Rattle.rel_files.proofs.TornPuts.{block_in_pages, whole_within}
use Rattle.stop_areas.specs.Left.{Base, Stays, HasPagesThatStay}
use Rattle.stop_areas.specs.Keeps.{MayWrite, MayBeCut, MayBeRemoved}
use Rattle.stop_areas.proofs.Sizes.{in_fork}
use Rattle.stop_areas.proofs.Calls.{stays_inside}

-- ---- changes of one fork

same_block : (s t : Store) (fork : ForkId) (block : ℕ) → get t fork ≡ get s fork → block_of t fork block ≡ block_of s fork block
same_block s t fork block e = ap (λ (o : Option ForkPages). o >>= λ ps. slice_get ps block) e

-- one fork changed, and of it what stays didn't
pages_kept : (base : Base) (fork : ForkId) (s t : Store) → HasPagesThatStay base s → AgreeOnOthers fork s t → ((block : ℕ) (page : List ℕ) → Stays base fork block page → block_of t fork block ≡ block_of s fork block) → HasPagesThatStay base t
pages_kept base fork s t has others here q block page stays =
    let is = has q block page stays in
    let same : block_of t q block ≡ block_of s q block =
    by_fork q fork
    (λ e. subst (λ (f : ForkId). Stays base f block page → block_of t f block ≡ block_of s f block) (sym e) (here block page) stays)
    (λ ne. same_block s t q block (others q ne)) in
    (same ∙ is.0, is.1)

pages_same : (base : Base) (s t : Store) → HasPagesThatStay base s → t ≡ s → HasPagesThatStay base t
pages_same base s t has e = subst (HasPagesThatStay base) (sym e) has

-- the pages of a held fork, which may be missing
fork_pages : (s : Store) (fork : ForkId) → HasHeldPages s → AreHeld (pages_of s fork)
fork_pages s fork held = by (get s fork) refl
  where
    by : (o : Option ForkPages) → get s fork ≡ o → AreHeld (pages_of s fork)
    by None e = subst (λ (o : Option ForkPages). AreHeld (unwrap_or o [])) (sym e) tt
    by (Some pages) e = subst (λ (o : Option ForkPages). AreHeld (unwrap_or o [])) (sym e) (held fork pages e)

-- ---- puts

pub pages_torn_put : (base : Base) (at : BlockId) (s t : Store) → HasHeldPages s → HasPagesThatStay base s → MayWrite base at → IsTornPut at s t → HasPagesThatStay base t
pages_torn_put base at s t held has may torn =
    pages_kept base at.fork s t has torn.others (λ block page stays.
    torn.blocks block (stays_inside base s at.fork block page held has stays) (λ e. may.free page (subst (λ (b : ℕ). Stays base at.fork b page) e stays)))

-- an element of a list stays where another one is set, and where the list is longer
get_front : {X : Type 0} (xs ys : List X) (i : ℕ) → i < length xs → slice_get (xs ++ ys) i ≡ slice_get xs i
get_front [] ys i l = absurd (omega arith)
get_front (x ∷ xs) ys zero l = refl
get_front (x ∷ xs) ys (suc i) l = get_front xs ys i (omega (arith, l))

get_other : {X : Type 0} (xs : List X) (b i : ℕ) (y : X) → i ≢ b → slice_get (slice_set xs b y) i ≡ slice_get xs i
get_other [] b i y apart = refl
get_other (x ∷ xs) zero zero y apart = absurd (apart refl)
get_other (x ∷ xs) zero (suc i) y apart = refl
get_other (x ∷ xs) (suc b) zero y apart = refl
get_other (x ∷ xs) (suc b) (suc i) y apart = get_other xs b i y (λ e. apart (ap suc e))

put_block : (s : Store) (at : BlockId) (page : List ℕ) (block : ℕ) → block < length (pages_of s at.fork) → block ≢ at.block → block_of (page_put at page s) at.fork block ≡ block_of s at.fork block
put_block s at page block less apart =
    let pages = pages_of s at.fork in
    let zeros = replicate (at.block + 1 - length pages) zero_page in
    ap (λ (o : Option ForkPages). o >>= λ ps. slice_get ps block) (get_here s at.fork (with_block pages at.block page))
    ∙ get_other (pages ++ zeros) at.block block page apart
    ∙ get_front pages zeros block less
    ∙ sym (block_in_pages s at.fork block)

-- the same of the whole pages alone
mended_put : (s : Store) (at : BlockId) (page : List ℕ) (block : ℕ) (o : Option ForkPages) → get s at.fork ≡ o → HasHeldPages s → block < length (whole_pages (unwrap_or o [])) → block ≢ at.block → block_of (page_put at page (mended s at.fork)) at.fork block ≡ block_of s at.fork block
mended_put s at page block None e held less apart = absurd (omega (arith, less))
mended_put s at page block (Some pages) e held less apart =
    let long : length (pages_of (mended s at.fork) at.fork) ≡ length (whole_pages pages) = ap (λ (o : Option ForkPages). length (unwrap_or o [])) (mended_get s at.fork pages e) in
    put_block (mended s at.fork) at page block (omega (arith, long, less)) apart
    ∙ mended_block s at.fork pages block (held at.fork pages e) e less

-- a page put at a block, over a short one or not
block_over : (at : BlockId) (page : List ℕ) (s : Store) (block : ℕ) → HasHeldPages s → block < length (whole_pages (pages_of s at.fork)) → block ≢ at.block → block_of (page_over at page s) at.fork block ≡ block_of s at.fork block
block_over at page s block held less apart = by (nat_lt at.block (length (whole_pages (pages_of s at.fork))))
  where
    by : (b : Bool) → block_of (if b then page_put at page s else page_put at page (mended s at.fork)) at.fork block ≡ block_of s at.fork block
    by true = let more = whole_within (pages_of s at.fork) (fork_pages s at.fork held) in put_block s at page block (omega (arith, more, less)) apart
    by false = mended_put s at page block (get s at.fork) refl held less apart

others_over : (at : BlockId) (page : List ℕ) (s : Store) → AgreeOnOthers at.fork s (page_over at page s)
others_over at page s q ne = by (nat_lt at.block (length (whole_pages (pages_of s at.fork))))
  where
    by : (b : Bool) → get (if b then page_put at page s else page_put at page (mended s at.fork)) q ≡ get s q
    by true = get_there s at.fork (with_block (pages_of s at.fork) at.block page) q ne
    by false = get_there (mended s at.fork) at.fork (with_block (pages_of (mended s at.fork) at.fork) at.block page) q ne ∙ mended_others s at.fork q ne

pub pages_put : (base : Base) (at : BlockId) (page : List ℕ) (s : Store) → HasHeldPages s → HasPagesThatStay base s → MayWrite base at → HasPagesThatStay base (page_over at page s)
pages_put base at page s held has may =
    pages_kept base at.fork s (page_over at page s) has (others_over at page s) (λ block old stays.
    block_over at page s block held (stays_inside base s at.fork block old held has stays) (λ e. may.free old (subst (λ (b : ℕ). Stays base at.fork b old) e stays)))

-- ---- the making of a fork

pub pages_make : (base : Base) (fork : ForkId) (s : Store) → HasPagesThatStay base s → HasPagesThatStay base (with_fork s fork)
pages_make base fork s has = by (contains_key s fork) refl
  where
    by : (b : Bool) → contains_key s fork ≡ b → HasPagesThatStay base (if b then s else insert s fork [])
    by true e = has
    by false e =
        pages_kept base fork s (insert s fork []) has (get_there s fork []) (λ block page stays.
        in_fork (get s fork) block page (has fork block page stays).0 (λ pages there at.
        absurd (true≢false (sym (ap (λ (o : Option ForkPages). is_some o) there) ∙ e))))

pub pages_torn_make : (base : Base) (fork : ForkId) (s t : Store) → HasPagesThatStay base s → IsTornMake fork s t → HasPagesThatStay base t
pages_torn_make base fork s t has (inl same) = pages_same base s t has same
pages_torn_make base fork s t has (inr made) = subst (HasPagesThatStay base) (sym made) (pages_make base fork s has)

-- ---- cuts

-- the first pages, so many, behind all that stay
pages_left : (base : Base) (fork : ForkId) (left : ℕ) (s : Store) → HasPagesThatStay base s → MayBeCut base fork left → HasPagesThatStay base (with_cut s fork left)
pages_left base fork left s has may =
    pages_kept base fork s (with_cut s fork left) has (cut_others s fork left) (λ block page stays.
    block_in_pages (with_cut s fork left) fork block
    ∙ ap (λ (ps : ForkPages). slice_get ps block) (cut_pages_are s fork left)
    ∙ taken_get left block (pages_of s fork) (may block page stays)
    ∙ sym (block_in_pages s fork block))

pub pages_torn_cut : (base : Base) (fork : ForkId) (to : ℕ) (s t : Store) → HasHeldPages s → HasPagesThatStay base s → MayBeCut base fork to → IsTornCut fork to s t → HasPagesThatStay base t
pages_torn_cut base fork to s t held has may torn =
    let least = torn.least in
    subst (HasPagesThatStay base) (sym torn.cut)
    (pages_left base fork torn.left s has (λ block page stays.
    let a = stays_inside base s fork block page held has stays in
    let b = may block page stays in
    omega (arith, a, b, least)))

pub pages_cut : (base : Base) (fork : ForkId) (to : ℕ) (s : Store) → HasHeldPages s → HasPagesThatStay base s → MayBeCut base fork to → HasPagesThatStay base (with_cut (mended s fork) fork to)
pages_cut base fork to s held has may =
    let left = min to (length (whole_pages (pages_of s fork))) in
    subst (HasPagesThatStay base) (sym (cut_mended s fork to left (fork_pages s fork held) refl))
    (pages_left base fork left s has (λ block page stays.
    let a = stays_inside base s fork block page held has stays in
    let b = may block page stays in
    omega (arith, a, b)))

-- ---- removals

pub pages_removal : (base : Base) (fork : ForkId) (s : Store) → HasPagesThatStay base s → MayBeRemoved base fork → HasPagesThatStay base (without_fork s fork)
pages_removal base fork s has may = pages_kept base fork s (without_fork s fork) has (gone_there s fork) (λ block page stays. absurd (may.free block page stays))

pub pages_torn_removal : (base : Base) (fork : ForkId) (s t : Store) → HasPagesThatStay base s → MayBeRemoved base fork → IsTornRemoval fork s t → HasPagesThatStay base t
pages_torn_removal base fork s t has may (inl torn) =
    subst (HasPagesThatStay base) (sym torn.cut)
    (pages_kept base fork s (with_cut s fork torn.left) has (cut_others s fork torn.left) (λ block page stays. absurd (may.free block page stays)))
pages_torn_removal base fork s t has may (inr gone) = subst (HasPagesThatStay base) (sym gone) (pages_removal base fork s has may)
