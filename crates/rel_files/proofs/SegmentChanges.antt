-- Files that hold a store hold the changed one after a segment file changed: a put of a page, a new fork, a cut, a removal.
use Rattle.std.proofs.Common.{◌≡◌, ◌≢◌, ℕ, suc, ◌+◌, ◌-◌, ◌*◌, ◌/◌, ◌%◌, ◌^◌, ◌<◌, ◌≤◌, true, false, cond, List, [], ◌∷◌, ◌++◌, length, take, drop, replicate, Option, Some, None, unwrap_or, refl, ap, sym, subst, ◌∙◌, arith, ⊎_elim, append-nil, true≢false}
use Rattle.std.proofs.lemmas.Bool.Decides.{leb_tells, eqb_tells}
use Rattle.std.proofs.lemmas.List.{take_all}
use Rattle.std.proofs.lemmas.Nat.{div-add-mod'}
use Rattle.std.proofs.Math.Nat.{mod-lt, mul-le-mul_right}
use Rattle.std.proofs.Math.Seq.{drop-nil}
use Rattle.std.specs.Cmp.Lexicographic.{nat_list_cmp_total}
use Rattle.std.specs.FinMap.{get, insert, remove, get-insert, get-remove, same_map, slice_cmp-IsAntisymmetric, nat_cmp-IsAntisymmetric}
use Rattle.lsn_core.specs.byte_words.Pieces.{overwritten}
use Rattle.lsn_core.specs.declared.ids.ForkId.{ForkId}
use Rattle.lsn_core.specs.Files.{Files}
use Rattle.lsn_core.specs.Names.{fork_path_bytes, IsNamed}
use Rattle.lsn_core.specs.Store.{Store, ForkPages, segment_content, segment_in}
use Rattle.lsn_core.specs.Blocks.{pages_of, with_block, with_page}
use Rattle.lsn_core.proofs.ForkPaths.{one_place}
use Rattle.vault.specs.Area.{bytes_of, file_written, after_write}
use Rattle.vault.proofs.Written.{file_written-some}
use Rattle.lsn_core.proofs.StoreFiles.{same_name, names_tie, name_itself}
use Rattle.rel_files.specs.Forks.{AreHeld, whole_pages, IsStoreOf, Holds, AgreeOnOthers}
use Rattle.rel_files.proofs.Pages.{put, block_put, length_put, HeldBy, held_by, are_held, held_least, held_put, held_grown, flat, part_put, bytes_filled}
use Rattle.rel_files.proofs.Segments.{below, segment_is, segment_none, bytes_there, other_put, in_segment, this_put, held_segment}
use Rattle.rel_files.proofs.SegmentFiles.{renamed, less_by}
use Rattle.rel_files.proofs.ForkStores.{by_fork, get_here, get_there, each_fork, some_is}

-- ---- a file among others

abbrev pub AgreeButOn : List ℕ → Files → Files → Type 0
AgreeButOn name old new = (q : List ℕ) → q ≢ name → get new q ≡ get old q

pub by_name : (q name : List ℕ) {P : Type 0} → (q ≡ name → P) → (q ≢ name → P) → P
by_name q name {P = P} here there =
    elim (same_name q name) as (λ c. same_name q name ≡ c → P) [
      | true ↦ λ e. here (names_tie q name e)
      | false ↦ λ e. there (λ same. true≢false (sym (ap (λ x. same_name x name) same ∙ name_itself name) ∙ e))
    ] refl

pub other_name : (q name : List ℕ) → q ≢ name → same_name q name ≡ false
other_name q name ne = elim (same_name q name) as (λ c. same_name q name ≡ c → c ≡ false) [ true ↦ λ e. absurd (ne (names_tie q name e)) | false ↦ λ e. refl ] refl

pub written_here : (files : Files) (name bytes : List ℕ) → get (insert files name bytes) name ≡ Some bytes
written_here files name bytes = get-insert nat_list_cmp_total files name bytes name ∙ ap (λ c. cond c (Some bytes) (get files name)) (name_itself name)

pub written_there : (files : Files) (name bytes : List ℕ) → AgreeButOn name files (insert files name bytes)
written_there files name bytes q ne = get-insert nat_list_cmp_total files name bytes q ∙ ap (λ c. cond c (Some bytes) (get files q)) (other_name q name ne)

pub removed_here : (files : Files) (name : List ℕ) → get (remove files name) name ≡ None
removed_here files name = get-remove nat_list_cmp_total files name name ∙ ap (λ c. cond c None (get files name)) (name_itself name)

pub removed_there : (files : Files) (name : List ℕ) → AgreeButOn name files (remove files name)
removed_there files name q ne = get-remove nat_list_cmp_total files name q ∙ ap (λ c. cond c None (get files q)) (other_name q name ne)

pub same_files : (name : List ℕ) (old new : Files) → AgreeButOn name old new → get new name ≡ get old name → new ≡ old
same_files name old new others here =
    same_map nat_list_cmp_total (slice_cmp-IsAntisymmetric nat_cmp-IsAntisymmetric) new old (λ q. by_name q name (λ e. ap (get new) e ∙ here ∙ sym (ap (get old) e)) (λ ne. others q ne))

-- ---- one segment file of a fork changed, and so did the fork

changed_file : (relseg : ℕ) (files new : Files) (store s : Store) (fork : ForkId) (k : ℕ) (o : Option ForkPages) → IsStoreOf relseg files store → IsNamed fork k → AgreeButOn (fork_path_bytes fork k false) files new
    → AgreeOnOthers fork store s → get s fork ≡ o → get new (fork_path_bytes fork k false) ≡ segment_in relseg k o
    → ((j : ℕ) → j ≢ k → segment_in relseg j o ≡ segment_in relseg j (get store fork)) → IsStoreOf relseg new s
changed_file relseg files new store s fork k o is in_fork others forks at this rest q j named =
    by_fork q fork
    (λ here.
    ⊎_elim
    (λ same.
    ap (λ (f : ForkId). get new (fork_path_bytes f j false)) here ∙ ap (λ (i : ℕ). get new (fork_path_bytes fork i false)) same.1 ∙ this
    ∙ ap (λ (i : ℕ). segment_in relseg i o) (sym same.1) ∙ back here)
    (λ other.
    others (fork_path_bytes q j false) (λ e. other.1 ((one_place q fork j k false false named in_fork e).1.0)) ∙ is q j named
    ∙ ap (λ (f : ForkId). segment_in relseg j (get store f)) here ∙ sym (rest j other.1) ∙ back here)
    (eqb_tells j k))
    (λ ne. others (fork_path_bytes q j false) (λ e. ne ((one_place q fork j k false false named in_fork e).0)) ∙ is q j named ∙ ap (segment_in relseg j) (sym (forks q ne)))
  where
    back : q ≡ fork → segment_in relseg j o ≡ segment_in relseg j (get s q)
    back here = ap (segment_in relseg j) (sym at) ∙ ap (λ (f : ForkId). segment_in relseg j (get s f)) (sym here)

pub changed : (relseg : ℕ) (files new : Files) (store s : Store) (fork : ForkId) (k : ℕ) (o : Option ForkPages) → Holds relseg files store → IsNamed fork k → AgreeButOn (fork_path_bytes fork k false) files new
    → AgreeOnOthers fork store s → get s fork ≡ o → get new (fork_path_bytes fork k false) ≡ segment_in relseg k o
    → ((j : ℕ) → j ≢ k → segment_in relseg j o ≡ segment_in relseg j (get store fork))
    → ((pages : ForkPages) → o ≡ Some pages → IsNamed fork (length pages)) → ((pages : ForkPages) → o ≡ Some pages → AreHeld pages) → Holds relseg new s
changed relseg files new store s fork k o holds in_fork others forks at this rest named held = record {
  segments = changed_file relseg files new store s fork k o holds.segments in_fork others forks at this rest;
  named = each_fork (λ q pages. IsNamed q (length pages)) fork store s forks holds.named (λ pages e. named pages (sym at ∙ e));
  held = each_fork (λ q pages. AreHeld pages) fork store s forks holds.held (λ pages e. held pages (sym at ∙ e));
}

-- ---- a put of a page

held_of : (o : Option ForkPages) → ((pages : ForkPages) → o ≡ Some pages → AreHeld pages) → AreHeld (unwrap_or o [])
held_of None all = tt
held_of (Some pages) all = all pages refl

fits_of : (fork : ForkId) (o : Option ForkPages) → ((pages : ForkPages) → o ≡ Some pages → IsNamed fork (length pages)) → length (unwrap_or o []) < 2 ^ 32
fits_of fork None all = omega arith
fits_of fork (Some pages) all = let named = all pages refl in named.seg_fits

-- the pages of any fork, missing or not, are held
pub pages_held : (relseg : ℕ) (files : Files) (store : Store) (fork : ForkId) → Holds relseg files store → AreHeld (pages_of store fork)
pages_held relseg files store fork holds = held_of (get store fork) (holds.held fork)

pub pages_fit : (relseg : ℕ) (files : Files) (store : Store) (fork : ForkId) → Holds relseg files store → length (pages_of store fork) < 2 ^ 32
pages_fit relseg files store fork holds = fits_of fork (get store fork) (holds.named fork)

old_content : (relseg k : ℕ) (o : Option ForkPages) → 0 < relseg → unwrap_or (segment_in relseg k o) [] ≡ segment_content relseg (unwrap_or o []) k
old_content relseg k None some = sym (ap (λ (ps : ForkPages). flat (take relseg ps)) (drop-nil (k * relseg)) ∙ ap flat (take_all relseg [] (omega arith)))
old_content relseg k (Some pages) some = ap (λ (x : Option (List ℕ)). unwrap_or x []) (segment_is relseg k pages some) ∙ bytes_there relseg k pages

other_files : (relseg j s c b : ℕ) (o : Option ForkPages) (page : List ℕ) → 0 < relseg → b ≡ s * relseg + c → c < relseg → b ≤ length (unwrap_or o []) → j ≢ s
    → segment_in relseg j (Some (put (unwrap_or o []) b page)) ≡ segment_in relseg j o
other_files relseg j s c b None page some at small within ne =
    let first : s ≡ 0 = ⊎_elim (λ x. x.1) (λ x. let h = below 0 s relseg (omega (arith, x.1)) in absurd (omega (arith, h, at, within, some))) (eqb_tells s 0) in
    let later : j ≡ 0 → ⊥ = λ e. ne (e ∙ sym first) in
    let h = below 0 j relseg (omega (arith, later)) in
    segment_is relseg j (page ∷ []) some ∙ segment_none relseg j (page ∷ []) later (omega (arith, h, some))
other_files relseg j s c b (Some pages) page some at small within ne =
    segment_is relseg j (put pages b page) some ∙ other_put relseg j s c b pages page at small within ne ∙ sym (segment_is relseg j pages some)

place_there : (size w c : ℕ) (pages : ForkPages) → 0 < size → HeldBy size w pages → c ≤ w → c * size ≤ length (flat pages)
place_there size w c pages some h l =
    let filled = bytes_filled size w pages some h in
    let times = mul-le-mul_right {m = c} {n = w} size l in
    omega (arith, filled.least, times)

-- where a block's page stands, or will stand
pub record IsPlaced (relseg : ℕ) (files : Files) (store : Store) (fork : ForkId) (b : ℕ) : Type 0 where
  pub count : ℕ
  pub held : HeldBy 8192 count (in_segment relseg (b / relseg) (pages_of store fork))
  pub reaches : b % relseg ≤ count
  pub has : b < length (whole_pages (pages_of store fork)) → b % relseg < count
  pub bytes : bytes_of files (fork_path_bytes fork (b / relseg) false) ≡ segment_content relseg (pages_of store fork) (b / relseg)
  pub room : b % relseg * 8192 ≤ length (bytes_of files (fork_path_bytes fork (b / relseg) false))

pub block_placed : (relseg : ℕ) (files : Files) (store : Store) (fork : ForkId) (b : ℕ) → 0 < relseg → Holds relseg files store → IsNamed fork 0 → b ≤ length (whole_pages (pages_of store fork)) → b < 2 ^ 32 → IsPlaced relseg files store fork b
block_placed relseg files store fork b some holds named within fits =
    let k = b / relseg in
    let c = b % relseg in
    let pages = pages_of store fork in
    let at : b ≡ k * relseg + c = sym (div-add-mod' b relseg) in
    let small : c < relseg = mod-lt b some in
    let less = less_by b relseg some in
    let here = held_segment 8192 relseg k c b (length (whole_pages pages)) pages (held_by pages (pages_held relseg files store fork holds)) at small within in
    let bytes : bytes_of files (fork_path_bytes fork k false) ≡ segment_content relseg pages k =
    ap (λ (x : Option (List ℕ)). unwrap_or x []) (holds.segments fork k (renamed fork 0 k named (omega (arith, less, fits)))) ∙ old_content relseg k (get store fork) some in
    let room = place_there 8192 here.count c (in_segment relseg k pages) (omega arith) here.held here.reaches in
    record { count = here.count; held = here.held; reaches = here.reaches; has = here.has; bytes = bytes; room = subst (λ (x : List ℕ). c * 8192 ≤ length x) (sym bytes) room }

-- a part is written over what stands at the block's place
pub part_is_put : (relseg : ℕ) (files new : Files) (store : Store) (fork : ForkId) (b : ℕ) (part : List ℕ) → 0 < relseg → Holds relseg files store → IsNamed fork 0 → b ≤ length (whole_pages (pages_of store fork)) → b < 2 ^ 32 - 1
    → AreHeld (put (pages_of store fork) b part) → AgreeButOn (fork_path_bytes fork (b / relseg) false) files new
    → get new (fork_path_bytes fork (b / relseg) false)
    ≡ Some (take (b % relseg * 8192) (bytes_of files (fork_path_bytes fork (b / relseg) false)) ++ (part ++ drop (b % relseg * 8192 + 8192) (bytes_of files (fork_path_bytes fork (b / relseg) false))))
    → Holds relseg new (with_page store fork b part)
part_is_put relseg files new store fork b part some holds named within fits held others this =
    let k = b / relseg in
    let c = b % relseg in
    let pages = pages_of store fork in
    let at : b ≡ k * relseg + c = sym (div-add-mod' b relseg) in
    let small : c < relseg = mod-lt b some in
    let less = less_by b relseg some in
    let least = held_least 8192 (length (whole_pages pages)) pages (held_by pages (pages_held relseg files store fork holds)) in
    let inside : b ≤ length pages = omega (arith, least, within) in
    let placed = block_placed relseg files store fork b some holds named within (omega arith) in
    let fit = pages_fit relseg files store fork holds in
    let size = length_put pages b part inside in
    let short : length (put pages b part) < 2 ^ 32 = ⊎_elim (λ x. omega (arith, x, fit)) (λ x. omega (arith, x.0, x.1, fits)) size in
    changed relseg files new store (with_page store fork b part) fork k (Some (put pages b part)) holds (renamed fork 0 k named (omega (arith, less, fits))) others
    (get_there store fork (with_block pages b part))
    (get_here store fork (with_block pages b part) ∙ ap (λ (ps : ForkPages). Some ps) (block_put pages b part inside))
    (this ∙ ap (λ (x : List ℕ). Some (take (c * 8192) x ++ (part ++ drop (c * 8192 + 8192) x))) placed.bytes
    ∙ ap (λ (x : List ℕ). Some x) (part_put 8192 placed.count c (in_segment relseg k pages) part placed.held placed.reaches)
    ∙ sym (segment_is relseg k (put pages b part) some ∙ this_put relseg k c b pages part at small inside))
    (λ j ne. other_files relseg j k c b (get store fork) part some at small inside ne)
    (λ ps e. let same = some_is (put pages b part) ps (Some (put pages b part)) refl e in subst (λ (x : ForkPages). IsNamed fork (length x)) same (renamed fork 0 (length (put pages b part)) named short))
    (λ ps e. let same = some_is (put pages b part) ps (Some (put pages b part)) refl e in subst AreHeld same held)

written_at : (size at : ℕ) (old piece : List ℕ) → 0 < size → at ≤ length old → length piece ≡ size → file_written old at piece ≡ take at old ++ (piece ++ drop (at + size) old)
written_at size at old piece some l e =
    let none : at - length old ≡ 0 = omega arith in
    file_written-some old at piece (omega (arith, e))
    ∙ ap (λ (n : ℕ). overwritten (old ++ replicate n 0) at piece) none ∙ ap (λ (x : List ℕ). overwritten x at piece) (append-nil old)
    ∙ ap (λ (n : ℕ). take at old ++ (piece ++ drop (at + n) old)) e

-- pages with another whole one at a block, or behind the whole ones
pub whole_put : (pages : ForkPages) (b : ℕ) (page : List ℕ) → AreHeld pages → b ≤ length (whole_pages pages) → length page ≡ 8192 → AreHeld (put pages b page)
whole_put pages b page held l e =
    let w = length (whole_pages pages) in
    ⊎_elim (λ x. are_held w (put pages b page) (held_put 8192 w b pages page (held_by pages held) x.1 e))
    (λ x. let same : w ≡ b = omega (arith, x.1, l) in subst (λ (n : ℕ). AreHeld (put pages n page)) same (are_held (suc w) (put pages w page) (held_grown 8192 w pages page (held_by pages held) e)))
    (leb_tells (suc b) w)

-- a page is written at a block of a fork, or behind its whole pages; a missing fork is made
pub block_is_put : (relseg : ℕ) (files : Files) (store : Store) (fork : ForkId) (b : ℕ) (page : List ℕ) → 0 < relseg → Holds relseg files store → IsNamed fork 0 → b ≤ length (whole_pages (pages_of store fork)) → b < 2 ^ 32 - 1 → length page ≡ 8192
    → Holds relseg (after_write (fork_path_bytes fork (b / relseg) false) (b % relseg * 8192) page files) (with_page store fork b page)
block_is_put relseg files store fork b page some holds named within fits size =
    let path = fork_path_bytes fork (b / relseg) false in
    let at = b % relseg * 8192 in
    let old = bytes_of files path in
    let placed = block_placed relseg files store fork b some holds named within (omega arith) in
    part_is_put relseg files (after_write path at page files) store fork b page some holds named within fits
    (whole_put (pages_of store fork) b page (pages_held relseg files store fork holds) within size)
    (written_there files path (file_written old at page))
    (written_here files path (file_written old at page) ∙ ap (λ (x : List ℕ). Some x) (written_at 8192 at old page (omega arith) placed.room size))
