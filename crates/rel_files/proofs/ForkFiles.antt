-- A fork that is made, cut or removed, file by file.
use Rattle.std.proofs.Common.{◌≡◌, ℕ, ◌+◌, ◌*◌, ◌<◌, ◌≤◌, false, List, [], ◌∷◌, length, take, Option, Some, None, IfSome, is_some, unwrap_or, refl, ap, sym, subst, ◌∙◌, arith, inl, inr, ◌⊎◌, ⊎_elim, length-take}
use Rattle.std.proofs.lemmas.List.{take_all}
use Rattle.std.proofs.Math.Seq.{drop-nil}
use Rattle.std.specs.Prelude.{if◌then◌else◌}
use Rattle.std.specs.FinMap.{get, insert}
use Rattle.lsn_core.specs.declared.ids.ForkId.{ForkId}
use Rattle.lsn_core.specs.Files.{Files}
use Rattle.lsn_core.specs.Names.{fork_path_bytes, IsNamed}
use Rattle.lsn_core.specs.Store.{Store, ForkPages, segment_count, segment_content, segment_in}
use Rattle.lsn_core.specs.Blocks.{with_fork, with_cut_pages, with_cut, without_fork}
use Rattle.vault.specs.Area.{bytes_of, after_write, cut_to, after_cut, after_remove, IsTornFile, IsTorn}
use Rattle.rel_files.specs.Forks.{AreHeld, whole_pages, Holds}
use Rattle.rel_files.proofs.Pages.{are_held, held_least, held_most, held_take, flat, front_bytes}
use Rattle.rel_files.proofs.Segments.{below, has_segment, segments_hold, segment, segment_is, segment_some, segment_none, in_segment, held_in, other_cut, this_cut, front_same}
use Rattle.rel_files.proofs.SegmentFiles.{renamed, count_fits, file_is_there, fork_held, fork_has_no_file}
use Rattle.rel_files.proofs.ForkStores.{get_here, get_there, gone_here, gone_there, some_is}
use Rattle.rel_files.proofs.SegmentChanges.{AgreeButOn, written_here, written_there, removed_here, removed_there, same_files, changed}

-- ---- a fork that is made

with_new : (store : Store) (fork : ForkId) → get store fork ≡ None → with_fork store fork ≡ insert store fork []
with_new store fork none = ap (λ (o : Option ForkPages). if is_some o then store else insert store fork []) none

empty_first : (relseg : ℕ) → 0 < relseg → segment_in relseg 0 (Some []) ≡ Some []
empty_first relseg some =
    segment_is relseg 0 [] some ∙ segment_some relseg 0 [] (inl refl)
    ∙ ap (λ (ps : ForkPages). Some (flat (take relseg ps))) (drop-nil (0 * relseg)) ∙ ap (λ (ps : ForkPages). Some (flat ps)) (take_all relseg [] (omega arith))

-- its first file is made, with no bytes
pub fork_is_made : (relseg : ℕ) (files : Files) (store : Store) (fork : ForkId) → 0 < relseg → Holds relseg files store → IsNamed fork 0 → get store fork ≡ None
    → Holds relseg (after_write (fork_path_bytes fork 0 false) 0 [] files) (with_fork store fork)
fork_is_made relseg files store fork some holds named none =
    let path = fork_path_bytes fork 0 false in
    let old = bytes_of files path in
    let nothing : old ≡ [] = ap (λ (o : Option (List ℕ)). unwrap_or o []) (fork_has_no_file relseg files store fork 0 holds none named) in
    subst (λ (s : Store). Holds relseg (insert files path old) s) (sym (with_new store fork none))
    (changed relseg files (insert files path old) store (insert store fork []) fork 0 (Some []) holds named (written_there files path old) (get_there store fork []) (get_here store fork [])
    (written_here files path old ∙ ap (λ (x : List ℕ). Some x) nothing ∙ sym (empty_first relseg some))
    (λ j ne. segment_is relseg j [] some ∙ segment_none relseg j [] ne (omega arith) ∙ sym (ap (segment_in relseg j) none))
    (λ ps e. subst (λ (x : ForkPages). IsNamed fork (length x)) (some_is [] ps (Some []) refl e) named)
    (λ ps e. subst AreHeld (some_is [] ps (Some []) refl e) tt))

no_bytes : (bytes : List ℕ) → length bytes ≤ 0 → bytes ≡ []
no_bytes [] l = refl
no_bytes (b ∷ bytes) l = absurd (omega arith)

-- where that failed, the fork is there or not
pub torn_make : (relseg : ℕ) (files new : Files) (store : Store) (fork : ForkId) → 0 < relseg → Holds relseg files store → IsNamed fork 0 → get store fork ≡ None → IsTorn (fork_path_bytes fork 0 false) 0 0 files new
    → Holds relseg new store ⊎ Holds relseg new (with_fork store fork)
torn_make relseg files new store fork some holds named none torn = by (get new path) refl
  where
    path : List ℕ
    path = fork_path_bytes fork 0 false

    missing : get files path ≡ None
    missing = fork_has_no_file relseg files store fork 0 holds none named

    nothing : bytes_of files path ≡ []
    nothing = ap (λ (o : Option (List ℕ)). unwrap_or o []) missing

    by : (o : Option (List ℕ)) → get new path ≡ o → Holds relseg new store ⊎ Holds relseg new (with_fork store fork)
    by None e = inl (subst (λ (f : Files). Holds relseg f store) (sym (same_files path files new torn.others (e ∙ sym missing))) holds)
    by (Some bytes) e =
        let file : IsTornFile 0 0 (bytes_of files path) bytes = subst (λ (o : Option (List ℕ)). IfSome o (IsTornFile 0 0 (bytes_of files path))) e torn.file in
        let size = ap length nothing in
        let empty : bytes ≡ bytes_of files path = no_bytes bytes (omega (arith, file.most, size)) ∙ sym nothing in
        let same : new ≡ after_write path 0 [] files =
        same_files path (after_write path 0 [] files) new (λ q ne. torn.others q ne ∙ sym (written_there files path (bytes_of files path) q ne)) (e ∙ ap (λ (x : List ℕ). Some x) empty ∙ sym (written_here files path (bytes_of files path))) in
        inr (subst (λ (f : Files). Holds relseg f (with_fork store fork)) (sym same) (fork_is_made relseg files store fork some holds named none))

-- ---- a fork that is cut

pub cut_is : (store : Store) (fork : ForkId) (pages : ForkPages) (n : ℕ) → get store fork ≡ Some pages → with_cut store fork n ≡ insert store fork (take n pages)
cut_is store fork pages n there = ap (with_cut_pages store fork n) there

-- a fork is cut in its last file
cut_holds : (relseg : ℕ) (files new : Files) (store : Store) (fork : ForkId) (pages : ForkPages) (k c n : ℕ) → 0 < relseg → Holds relseg files store → get store fork ≡ Some pages → segment_count relseg (length pages) ≡ k + 1
    → n ≡ k * relseg + c → c ≤ relseg → n ≤ length (whole_pages pages) → AgreeButOn (fork_path_bytes fork k false) files new → get new (fork_path_bytes fork k false) ≡ segment relseg k (take n pages) → Holds relseg new (with_cut store fork n)
cut_holds relseg files new store fork pages k c n some holds there last is small within others this =
    let w = length (whole_pages pages) in
    let named = holds.named fork pages there in
    let held = fork_held relseg files store fork pages holds there in
    let least = held_least 8192 w pages held in
    let most : length pages ≤ (k + 1) * relseg = segments_hold relseg (length pages) (k + 1) some last in
    let fits = count_fits relseg (length pages) k some (omega (arith, last)) named.seg_fits in
    let size = length-take n pages in
    subst (Holds relseg new) (sym (cut_is store fork pages n there))
    (changed relseg files new store (insert store fork (take n pages)) fork k (Some (take n pages)) holds (renamed fork (length pages) k named fits) others (get_there store fork (take n pages)) (get_here store fork (take n pages))
    (this ∙ sym (segment_is relseg k (take n pages) some))
    (λ j ne.
    segment_is relseg j (take n pages) some ∙ ap (λ (m : ℕ). segment relseg j (take m pages)) is ∙ other_cut relseg j k c pages some most (omega (arith, is, within, least)) small ne
    ∙ sym (segment_is relseg j pages some) ∙ sym (ap (segment_in relseg j) there))
    (λ ps e. subst (λ (x : ForkPages). IsNamed fork (length x)) (some_is (take n pages) ps (Some (take n pages)) refl e) (renamed fork (length pages) (length (take n pages)) named (omega (arith, size, named.seg_fits))))
    (λ ps e. subst AreHeld (some_is (take n pages) ps (Some (take n pages)) refl e) (are_held n (take n pages) (held_take 8192 n w pages held within))))

-- its last file, which isn't its only one, is removed
pub last_file_removed : (relseg : ℕ) (files : Files) (store : Store) (fork : ForkId) (pages : ForkPages) (k : ℕ) → 0 < relseg → Holds relseg files store → get store fork ≡ Some pages → segment_count relseg (length pages) ≡ k + 1 → 1 ≤ k
    → Holds relseg (after_remove (fork_path_bytes fork k false) files) (with_cut store fork (k * relseg))
last_file_removed relseg files store fork pages k some holds there last later =
    let path = fork_path_bytes fork k false in
    let n = k * relseg in
    let most = held_most 8192 (length (whole_pages pages)) pages (fork_held relseg files store fork pages holds there) in
    let inside : n < length pages = ⊎_elim (λ first. absurd (omega (arith, first, later))) (λ x. x) (has_segment relseg (length pages) k some (omega (arith, last))) in
    let size = length-take n pages in
    cut_holds relseg files (after_remove path files) store fork pages k 0 n some holds there last (omega arith) (omega arith) (omega (arith, most, inside)) (removed_there files path)
    (removed_here files path ∙ sym (segment_none relseg k (take n pages) (λ e. omega (arith, e, later)) (omega (arith, size))))

-- its last file is cut at a page
pub boundary_cut : (relseg : ℕ) (files : Files) (store : Store) (fork : ForkId) (pages : ForkPages) (k c : ℕ) → 0 < relseg → Holds relseg files store → get store fork ≡ Some pages → segment_count relseg (length pages) ≡ k + 1 → c ≤ relseg
    → k * relseg + c ≤ length (whole_pages pages) → (1 ≤ c) ⊎ (k ≡ 0) → Holds relseg (after_cut (fork_path_bytes fork k false) (c * 8192) files) (with_cut store fork (k * relseg + c))
boundary_cut relseg files store fork pages k c some holds there last small within keeps =
    let path = fork_path_bytes fork k false in
    let n = k * relseg + c in
    let w = length (whole_pages pages) in
    let held = fork_held relseg files store fork pages holds there in
    let least = held_least 8192 w pages held in
    let old = segment_content relseg pages k in
    let is : get files path ≡ Some old = file_is_there relseg files store fork pages k some holds there (omega (arith, last)) in
    let cut : after_cut path (c * 8192) files ≡ insert files path (take (c * 8192) old) = ap (cut_to files path (c * 8192)) is in
    let here = held_in 8192 relseg k w pages held (omega (arith, within)) in
    let size = length-take n pages in
    let left : (k ≡ 0) ⊎ (k * relseg < length (take n pages)) = ⊎_elim (λ more. inr (omega (arith, more, size, within, least))) (λ first. inl first) keeps in
    subst (λ (f : Files). Holds relseg f (with_cut store fork n)) (sym cut)
    (cut_holds relseg files (insert files path (take (c * 8192) old)) store fork pages k c n some holds there last refl small within (written_there files path (take (c * 8192) old))
    (written_here files path (take (c * 8192) old)
    ∙ ap (λ (x : List ℕ). Some x) (front_bytes 8192 here.count c (in_segment relseg k pages) here.held (omega (arith, here.counted, small, within))
    ∙ ap flat (front_same relseg k c pages small ∙ sym (this_cut relseg k c pages small)))
    ∙ sym (segment_some relseg k (take n pages) left)))

-- ---- a fork that is removed

-- its only file is removed
pub first_file_removed : (relseg : ℕ) (files : Files) (store : Store) (fork : ForkId) (pages : ForkPages) → 0 < relseg → Holds relseg files store → get store fork ≡ Some pages → segment_count relseg (length pages) ≡ 1
    → Holds relseg (after_remove (fork_path_bytes fork 0 false) files) (without_fork store fork)
first_file_removed relseg files store fork pages some holds there last =
    let path = fork_path_bytes fork 0 false in
    let named = renamed fork (length pages) 0 (holds.named fork pages there) (omega arith) in
    let most : length pages ≤ 1 * relseg = segments_hold relseg (length pages) 1 some last in
    changed relseg files (after_remove path files) store (without_fork store fork) fork 0 None holds named (removed_there files path) (gone_there store fork) (gone_here store fork) (removed_here files path)
    (λ j ne. sym (ap (segment_in relseg j) there ∙ segment_is relseg j pages some ∙ segment_none relseg j pages ne (let h = below 0 j relseg (omega (arith, ne)) in omega (arith, h, most))))
    (λ ps e. absurd cc)
    (λ ps e. absurd cc)
