-- Cuts and removals of a fork that may be missing, or may have no such file; and cuts in turn.
use Rattle.std.proofs.Common.{◌≡◌, ℕ, zero, suc, ◌+◌, ◌-◌, ◌*◌, ◌/◌, ◌%◌, ◌<◌, ◌≤◌, min, false, List, [], length, take, Option, Some, None, is_some, unwrap_or, refl, ap, sym, subst, ◌∙◌, arith, inl, inr, ◌⊎◌, ⊎_elim, length-take}
use Rattle.std.proofs.lemmas.Bool.Decides.{leb_tells, eqb_tells}
use Rattle.std.proofs.lemmas.List.{take_all}
use Rattle.std.proofs.lemmas.Nat.{div-add-mod'}
use Rattle.std.proofs.Math.Nat.{mod-lt}
use Rattle.std.specs.FinMap.{get, insert, contains_key}
use Rattle.lsn_core.specs.declared.ids.ForkId.{ForkId}
use Rattle.lsn_core.specs.Files.{Files}
use Rattle.lsn_core.specs.Names.{fork_path_bytes, IsNamed}
use Rattle.lsn_core.specs.Store.{Store, ForkPages, segment_count, segment_in}
use Rattle.lsn_core.specs.Blocks.{pages_of, with_cut_pages, with_cut, without_fork}
use Rattle.vault.specs.Area.{after_cut, after_remove}
use Rattle.rel_files.specs.Forks.{AreHeld, whole_pages, mended, Holds, AgreeOnOthers}
use Rattle.rel_files.proofs.Pages.{held_by, held_least, held_most, held_take, count_whole, whole_are}
use Rattle.rel_files.proofs.Segments.{has_segment, segment_there, segment_is, segment_none, take_less}
use Rattle.rel_files.proofs.SegmentFiles.{fork_held, fork_has_no_file}
use Rattle.rel_files.proofs.ForkStores.{get_here, get_there, gone_here, gone_there, same_store, mended_is, mended_missing, mended_get}
use Rattle.rel_files.proofs.SegmentChanges.{same_files, removed_here, removed_there}
use Rattle.rel_files.proofs.ForkFiles.{cut_is, last_file_removed, boundary_cut, first_file_removed}

-- ---- stores that are cut

pub cut_missing : (store : Store) (fork : ForkId) (n : ℕ) → get store fork ≡ None → with_cut store fork n ≡ store
cut_missing store fork n none = ap (with_cut_pages store fork n) none

pub same_again : (store : Store) (fork : ForkId) (pages : ForkPages) → get store fork ≡ Some pages → insert store fork pages ≡ store
same_again store fork pages there = same_store fork (insert store fork pages) store (get_here store fork pages ∙ sym there) (get_there store fork pages)

-- a cut that takes nothing
pub uncut : (store : Store) (fork : ForkId) (n : ℕ) → length (pages_of store fork) ≤ n → with_cut store fork n ≡ store
uncut store fork n l = by (get store fork) refl
  where
    by : (o : Option ForkPages) → get store fork ≡ o → with_cut store fork n ≡ store
    by None e = cut_missing store fork n e
    by (Some pages) e =
        let size : length pages ≤ n = subst (λ (o : Option ForkPages). length (unwrap_or o []) ≤ n) e l in
        cut_is store fork pages n e ∙ ap (insert store fork) (take_all n pages size) ∙ same_again store fork pages e

-- the pages that a cut leaves
pub cut_pages_are : (store : Store) (fork : ForkId) (n : ℕ) → pages_of (with_cut store fork n) fork ≡ take n (pages_of store fork)
cut_pages_are store fork n = by (get store fork) refl
  where
    by : (o : Option ForkPages) → get store fork ≡ o → pages_of (with_cut store fork n) fork ≡ take n (pages_of store fork)
    by None e =
        let none : pages_of store fork ≡ [] = ap (λ (o : Option ForkPages). unwrap_or o []) e in
        ap (λ (s : Store). pages_of s fork) (cut_missing store fork n e) ∙ none ∙ sym (ap (take n) none ∙ take_all n [] (omega arith))
    by (Some pages) e =
        ap (λ (s : Store). pages_of s fork) (cut_is store fork pages n e) ∙ ap (λ (o : Option ForkPages). unwrap_or o []) (get_here store fork (take n pages)) ∙ sym (ap (λ (o : Option ForkPages). take n (unwrap_or o [])) e)

pub cut_get : (store : Store) (fork : ForkId) (pages : ForkPages) (n : ℕ) → get store fork ≡ Some pages → get (with_cut store fork n) fork ≡ Some (take n pages)
cut_get store fork pages n there = ap (λ (s : Store). get s fork) (cut_is store fork pages n there) ∙ get_here store fork (take n pages)

-- a fork stays
pub cut_there : (store : Store) (fork : ForkId) (n : ℕ) → contains_key (with_cut store fork n) fork ≡ contains_key store fork
cut_there store fork n = by (get store fork) refl
  where
    by : (o : Option ForkPages) → get store fork ≡ o → contains_key (with_cut store fork n) fork ≡ contains_key store fork
    by None e = ap (λ (s : Store). contains_key s fork) (cut_missing store fork n e)
    by (Some pages) e = ap (λ (o : Option ForkPages). is_some o) (cut_get store fork pages n e) ∙ sym (ap (λ (o : Option ForkPages). is_some o) e)

-- how many whole pages a cut leaves
pub cut_whole : (pages : ForkPages) (n : ℕ) → AreHeld pages → length (whole_pages (take n pages)) ≡ min n (length (whole_pages pages))
cut_whole pages n held =
    let w = length (whole_pages pages) in
    let by = held_by pages held in
    ⊎_elim (λ x. count_whole n (take n pages) (held_take 8192 n w pages by x.1) ∙ omega (arith, x.1))
    (λ x. let most = held_most 8192 w pages by in ap (λ (ps : ForkPages). length (whole_pages ps)) (take_all n pages (omega (arith, most, x.1))) ∙ omega (arith, x.1))
    (leb_tells n w)

-- a cut, and another one of as much or more
pub cut_twice : (store : Store) (fork : ForkId) (a b : ℕ) → b ≤ a → with_cut (with_cut store fork a) fork b ≡ with_cut store fork b
cut_twice store fork a b l = by (get store fork) refl
  where
    by : (o : Option ForkPages) → get store fork ≡ o → with_cut (with_cut store fork a) fork b ≡ with_cut store fork b
    by None e = ap (λ (s : Store). with_cut s fork b) (cut_missing store fork a e)
    by (Some pages) e =
        let first = cut_get store fork pages a e in
        same_store fork (with_cut (with_cut store fork a) fork b) (with_cut store fork b)
        (cut_get (with_cut store fork a) fork (take a pages) b first ∙ ap (λ (ps : ForkPages). Some ps) (take_less b a pages l) ∙ sym (cut_get store fork pages b e))
        (λ q ne.
        ap (λ (s : Store). get s q) (cut_is (with_cut store fork a) fork (take a pages) b first) ∙ get_there (with_cut store fork a) fork (take b (take a pages)) q ne
        ∙ ap (λ (s : Store). get s q) (cut_is store fork pages a e) ∙ get_there store fork (take a pages) q ne
        ∙ sym (ap (λ (s : Store). get s q) (cut_is store fork pages b e) ∙ get_there store fork (take b pages) q ne))

take_min_of : {X : Type 0} (n m : ℕ) (xs : List X) → take n (take m xs) ≡ take (min n m) xs
take_min_of {X = X} n m xs =
    ⊎_elim (λ x. let less : min n m ≡ n = omega (arith, x.1) in take_less n m xs x.1 ∙ sym (ap (λ (k : ℕ). take {A = X} k xs) less))
    (λ x. let less : min n m ≡ m = omega (arith, x.1) in take_all n (take m xs) (omega (arith, length-take m xs, x.1)) ∙ sym (ap (λ (k : ℕ). take {A = X} k xs) less))
    (leb_tells n m)

-- a cut of the whole pages alone
pub cut_mended : (store : Store) (fork : ForkId) (to left : ℕ) → AreHeld (pages_of store fork) → left ≡ min to (length (whole_pages (pages_of store fork))) → with_cut (mended store fork) fork to ≡ with_cut store fork left
cut_mended store fork to left held is = by (get store fork) refl
  where
    by : (o : Option ForkPages) → get store fork ≡ o → with_cut (mended store fork) fork to ≡ with_cut store fork left
    by None e = ap (λ (s : Store). with_cut s fork to) (mended_missing store fork e) ∙ cut_missing store fork to e ∙ sym (cut_missing store fork left e)
    by (Some pages) e =
        let w = length (whole_pages pages) in
        let same : pages_of store fork ≡ pages = ap (λ (o : Option ForkPages). unwrap_or o []) e in
        let part : whole_pages pages ≡ take w pages = whole_are w pages (held_by pages (subst AreHeld same held)) in
        let at : left ≡ min to w = is ∙ ap (λ (ps : ForkPages). min to (length (whole_pages ps))) same in
        let first = mended_get store fork pages e in
        same_store fork (with_cut (mended store fork) fork to) (with_cut store fork left)
        (cut_get (mended store fork) fork (whole_pages pages) to first
        ∙ ap (λ (ps : ForkPages). Some ps) (ap (take to) part ∙ take_min_of to w pages ∙ sym (ap (λ (n : ℕ). take n pages) at))
        ∙ sym (cut_get store fork pages left e))
        (λ q ne.
        ap (λ (s : Store). get s q) (cut_is (mended store fork) fork (whole_pages pages) to first) ∙ get_there (mended store fork) fork (take to (whole_pages pages)) q ne
        ∙ ap (λ (s : Store). get s q) (mended_is store fork pages e) ∙ get_there store fork (whole_pages pages) q ne
        ∙ sym (ap (λ (s : Store). get s q) (cut_is store fork pages left e) ∙ get_there store fork (take left pages) q ne))

-- the other forks stay
pub cut_others : (store : Store) (fork : ForkId) (n : ℕ) → AgreeOnOthers fork store (with_cut store fork n)
cut_others store fork n = by (get store fork) refl
  where
    by : (o : Option ForkPages) → get store fork ≡ o → AgreeOnOthers fork store (with_cut store fork n)
    by None e q ne = ap (λ (s : Store). get s q) (cut_missing store fork n e)
    by (Some pages) e q ne = ap (λ (s : Store). get s q) (cut_is store fork pages n e) ∙ get_there store fork (take n pages) q ne

-- a fork that was cut first is gone as well
pub gone_after_cut : (store : Store) (fork : ForkId) (n : ℕ) → without_fork (with_cut store fork n) fork ≡ without_fork store fork
gone_after_cut store fork n =
    same_store fork (without_fork (with_cut store fork n) fork) (without_fork store fork) (gone_here (with_cut store fork n) fork ∙ sym (gone_here store fork))
    (λ q ne. gone_there (with_cut store fork n) fork q ne ∙ cut_others store fork n q ne ∙ sym (gone_there store fork q ne))

-- ---- files of a fork that is there or not

pub count_is : (relseg blocks k : ℕ) → 0 < relseg → (k ≡ 0) ⊎ (k * relseg < blocks) → blocks ≤ (k + 1) * relseg → segment_count relseg blocks ≡ k + 1
count_is relseg blocks k some there most =
    let has = segment_there relseg blocks k some there in
    let no_more : k + 1 < segment_count relseg blocks → ⊥ = λ l. ⊎_elim (λ x. omega (arith, x)) (λ x. omega (arith, x, most)) (has_segment relseg blocks (k + 1) some l) in
    omega (arith, has, no_more)

removed_none : (files : Files) (name : List ℕ) → get files name ≡ None → after_remove name files ≡ files
removed_none files name none = same_files name files (after_remove name files) (removed_there files name) (removed_here files name ∙ sym none)

-- the last file that a fork may have, not its first one, is removed
pub at_most_removed : (relseg : ℕ) (files : Files) (store : Store) (fork : ForkId) (k : ℕ) → 0 < relseg → Holds relseg files store → IsNamed fork k → length (pages_of store fork) ≤ (k + 1) * relseg → 1 ≤ k
    → Holds relseg (after_remove (fork_path_bytes fork k false) files) (with_cut store fork (k * relseg))
at_most_removed relseg files store fork k some holds named most later = by (get store fork) refl
  where
    n : ℕ
    n = k * relseg

    path : List ℕ
    path = fork_path_bytes fork k false

    stays : get files path ≡ None → length (pages_of store fork) ≤ n → Holds relseg (after_remove path files) (with_cut store fork n)
    stays none l = subst (λ (s : Store). Holds relseg (after_remove path files) s) (sym (uncut store fork n l)) (subst (λ (f : Files). Holds relseg f store) (sym (removed_none files path none)) holds)

    by : (o : Option ForkPages) → get store fork ≡ o → Holds relseg (after_remove path files) (with_cut store fork n)
    by None e = stays (fork_has_no_file relseg files store fork k holds e named) (subst (λ (o : Option ForkPages). length (unwrap_or o []) ≤ n) (sym e) (omega arith))
    by (Some pages) e =
        let size : length pages ≤ (k + 1) * relseg = subst (λ (o : Option ForkPages). length (unwrap_or o []) ≤ (k + 1) * relseg) e most in
        ⊎_elim (λ x. last_file_removed relseg files store fork pages k some holds e (count_is relseg (length pages) k some (inr x.1) size) later)
        (λ x.
        let short : length pages ≤ n = omega (arith, x.1) in
        stays (holds.segments fork k named ∙ ap (segment_in relseg k) e ∙ segment_is relseg k pages some ∙ segment_none relseg k pages (λ z. omega (arith, z, later)) short)
        (subst (λ (o : Option ForkPages). length (unwrap_or o []) ≤ n) (sym e) short))
        (leb_tells (suc n) (length pages))

-- the only file that a fork may have is removed
pub at_most_first_removed : (relseg : ℕ) (files : Files) (store : Store) (fork : ForkId) → 0 < relseg → Holds relseg files store → IsNamed fork 0 → length (pages_of store fork) ≤ relseg
    → Holds relseg (after_remove (fork_path_bytes fork 0 false) files) (without_fork store fork)
at_most_first_removed relseg files store fork some holds named most = by (get store fork) refl
  where
    path : List ℕ
    path = fork_path_bytes fork 0 false

    by : (o : Option ForkPages) → get store fork ≡ o → Holds relseg (after_remove path files) (without_fork store fork)
    by None e =
        subst (λ (s : Store). Holds relseg (after_remove path files) s) (sym (same_store fork (without_fork store fork) store (gone_here store fork ∙ sym e) (gone_there store fork)))
        (subst (λ (f : Files). Holds relseg f store) (sym (removed_none files path (fork_has_no_file relseg files store fork 0 holds e named))) holds)
    by (Some pages) e =
        let size : length pages ≤ relseg = subst (λ (o : Option ForkPages). length (unwrap_or o []) ≤ relseg) e most in
        first_file_removed relseg files store fork pages some holds e (count_is relseg (length pages) 0 some (inl refl) (omega (arith, size)))

-- the last file is cut so that so many whole pages are left
pub last_cut : (relseg : ℕ) (files : Files) (store : Store) (fork : ForkId) (pages : ForkPages) (left : ℕ) → 0 < relseg → Holds relseg files store → get store fork ≡ Some pages
    → length pages ≤ ((left - 1) / relseg + 1) * relseg → left ≤ length (whole_pages pages)
    → Holds relseg (after_cut (fork_path_bytes fork ((left - 1) / relseg) false) ((left - (left - 1) / relseg * relseg) * 8192) files) (with_cut store fork left)
last_cut relseg files store fork pages left some holds there most within =
    let k = (left - 1) / relseg in
    let c = left - k * relseg in
    let parts = div-add-mod' (left - 1) relseg in
    let rest = mod-lt (left - 1) some in
    let least = held_least 8192 (length (whole_pages pages)) pages (fork_held relseg files store fork pages holds there) in
    let all : k * relseg + c ≡ left = omega (arith, parts, rest) in
    let in_file : (k ≡ 0) ⊎ (k * relseg < length pages) = ⊎_elim (λ z. inl (none k parts z.1)) (λ z. inr (omega (arith, parts, rest, least, within, z.1))) (eqb_tells left 0) in
    let keeps : (1 ≤ c) ⊎ (k ≡ 0) = ⊎_elim (λ z. inr (none k parts z.1)) (λ z. inl (omega (arith, parts, rest, z.1))) (eqb_tells left 0) in
    subst (λ (n : ℕ). Holds relseg (after_cut (fork_path_bytes fork k false) (c * 8192) files) (with_cut store fork n)) all
    (boundary_cut relseg files store fork pages k c some holds there (count_is relseg (length pages) k some in_file most) (omega (arith, parts, rest)) (omega (arith, all, within)) keeps)
  where
    none : (k : ℕ) → k * relseg + (left - 1) % relseg ≡ left - 1 → left ≡ 0 → k ≡ 0
    none zero parts z = refl
    none (suc k) parts z = absurd (omega (arith, parts, z, some))
