-- What a put of a page that failed leaves: the files hold a store that differs at the block, and from the last whole page on.
use Rattle.std.proofs.Common.{◌≡◌, ℕ, zero, suc, ◌+◌, ◌-◌, ◌*◌, ◌/◌, ◌%◌, ◌^◌, ◌<◌, ◌≤◌, false, List, [], ◌∷◌, ◌++◌, length, take, drop, slice_get, Option, Some, None, IfSome, is_some, unwrap_or, refl, ap, sym, subst, ◌∙◌, arith, ⊎_elim, length-drop, length-take}
use Rattle.std.proofs.lemmas.Bool.Decides.{eqb_tells}
use Rattle.std.proofs.lemmas.List.{take-append-drop, get_or-take, get_or-drop}
use Rattle.std.proofs.lemmas.Grind.{same_number_lists}
use Rattle.std.proofs.Math.Seq.{drop-nil}
use Rattle.std.specs.FinMap.{get}
use Rattle.lsn_core.specs.byte_words.Numbers.{◌>>=◌}
use Rattle.lsn_core.specs.declared.ids.ForkId.{ForkId}
use Rattle.lsn_core.specs.Files.{Files}
use Rattle.lsn_core.specs.Names.{fork_path_bytes, IsNamed}
use Rattle.lsn_core.specs.Store.{Store, ForkPages}
use Rattle.lsn_core.specs.Blocks.{block_of, pages_of, with_block, with_page}
use Rattle.vault.specs.Area.{bytes_of, IsTornFile, IsTorn}
use Rattle.rel_files.specs.Forks.{AreHeld, whole_pages, Holds, IsTornPut}
use Rattle.rel_files.proofs.Pages.{put, block_put, put_elsewhere, length_put, held_by, are_held, held_least, held_short, page_room}
use Rattle.rel_files.proofs.Segments.{in_segment}
use Rattle.rel_files.proofs.ForkStores.{get_here, get_there}
use Rattle.rel_files.proofs.SegmentChanges.{same_files, pages_held, block_placed, part_is_put, whole_put}

-- ---- the file

dropped_twice : {X : Type 0} (n m : ℕ) (xs : List X) → drop m (drop n xs) ≡ drop (n + m) xs
dropped_twice zero m xs = let same : m ≡ 0 + m = omega arith in ap (λ (k : ℕ). drop k xs) same
dropped_twice (suc n) m [] = drop-nil m ∙ sym (drop-nil (suc n + m))
dropped_twice (suc n) m (x ∷ xs) = dropped_twice n m xs ∙ (let next : suc (n + m) ≡ suc n + m = omega arith in ap (λ (k : ℕ). drop k (x ∷ xs)) next)

-- what a write of so many bytes that failed leaves: any bytes at its place
torn_part : (size at : ℕ) (old new : List ℕ) → at ≤ length old → IsTornFile at size old new → new ≡ take at old ++ (take size (drop at new) ++ drop (at + size) old)
torn_part size at old new l torn =
    let front : take at new ≡ take at old =
    same_number_lists (take at new) (take at old) (length-take at new ∙ sym (length-take at old ∙ omega (arith, torn.least))) (λ i less.
    let before : i < at = omega (arith, length-take at new, less) in
    get_or-take at new i 0 before ∙ torn.before i (omega arith) before ∙ sym (get_or-take at old i 0 before)) in
    let behind : drop (at + size) new ≡ drop (at + size) old =
    same_number_lists (drop (at + size) new) (drop (at + size) old) (length-drop (at + size) new ∙ sym (length-drop (at + size) old ∙ omega (arith, torn.least, torn.most))) (λ i less.
    let inside : at + size + i < length old = omega (arith, length-drop (at + size) new, less, torn.least, torn.most) in
    get_or-drop (at + size) new i 0 ∙ torn.behind (at + size + i) inside (omega arith) ∙ sym (get_or-drop (at + size) old i 0)) in
    sym (take-append-drop at new)
    ∙ ap (λ (x : List ℕ). take at new ++ x) (sym (take-append-drop size (drop at new)) ∙ ap (λ (x : List ℕ). take size (drop at new) ++ x) (dropped_twice at size new ∙ behind))
    ∙ ap (λ (x : List ℕ). x ++ (take size (drop at new) ++ drop (at + size) old)) front

-- ---- the store

got : (o : Option ForkPages) (b : ℕ) → (o >>= λ pages. slice_get pages b) ≡ slice_get (unwrap_or o []) b
got None b = refl
got (Some pages) b = refl

-- the block of a fork's pages, which a missing fork has none of
pub block_in_pages : (store : Store) (fork : ForkId) (b : ℕ) → block_of store fork b ≡ slice_get (pages_of store fork) b
block_in_pages store fork b = got (get store fork) b

pub put_pages : (store : Store) (fork : ForkId) (b : ℕ) (part : List ℕ) → b ≤ length (pages_of store fork) → pages_of (with_page store fork b part) fork ≡ put (pages_of store fork) b part
put_pages store fork b part l = ap (λ (o : Option ForkPages). unwrap_or o []) (get_here store fork (with_block (pages_of store fork) b part)) ∙ block_put (pages_of store fork) b part l

pub whole_within : (pages : ForkPages) → AreHeld pages → length (whole_pages pages) ≤ length pages
whole_within pages held = held_least 8192 (length (whole_pages pages)) pages (held_by pages held)

-- anything put at a block, or behind the last page, is no more than a put that failed may leave
pub put_is_torn : (store : Store) (fork : ForkId) (b : ℕ) (part : List ℕ) → AreHeld (pages_of store fork) → b ≤ length (whole_pages (pages_of store fork)) → IsTornPut (record { fork = fork; block = b }) store (with_page store fork b part)
put_is_torn store fork b part held within =
    let pages = pages_of store fork in
    let whole = whole_within pages held in
    let inside : b ≤ length pages = omega (arith, whole, within) in
    let is = put_pages store fork b part inside in
    record {
      others = get_there store fork (with_block pages b part);
      there = λ e. ap (λ (o : Option ForkPages). is_some o) (get_here store fork (with_block pages b part));
      blocks = λ block less ne.
          block_in_pages (with_page store fork b part) fork block ∙ ap (λ (ps : ForkPages). slice_get ps block) is ∙ put_elsewhere pages b block part ne (omega (arith, whole, less)) ∙ sym (block_in_pages store fork block);
      most = let size = ap length is in ⊎_elim (λ x. omega (arith, size, x)) (λ x. omega (arith, size, x.0, x.1)) (length_put pages b part inside);
    }

pub none_is_torn : (store : Store) (fork : ForkId) (b : ℕ) → IsTornPut (record { fork = fork; block = b }) store store
none_is_torn store fork b = record { others = λ q ne. refl; there = λ e. e; blocks = λ block less ne. refl; most = omega arith }

-- what may be left, with the files that hold it
pub record LeavesTorn (relseg : ℕ) (files : Files) (store : Store) (fork : ForkId) (b : ℕ) : Type 0 where
  pub left : Store
  pub holds : Holds relseg files left
  pub torn : IsTornPut (record { fork = fork; block = b }) store left

part_held : (pages : ForkPages) (b : ℕ) (part : List ℕ) → AreHeld pages → b ≤ length (whole_pages pages) → length part ≤ 8192 → (b < length (whole_pages pages) → length part ≡ 8192) → AreHeld (put pages b part)
part_held pages b part held l most full =
    let w = length (whole_pages pages) in
    ⊎_elim (λ x. whole_put pages b part held l x.1)
    (λ x.
    let past : b < w → ⊥ = λ less. x.1 (full less) in
    let same : w ≡ b = omega (arith, past, l) in
    subst (λ (n : ℕ). AreHeld (put pages n part)) same (are_held w (put pages w part) (held_short 8192 w pages part (held_by pages held) (omega (arith, most, x.1)))))
    (eqb_tells (length part) 8192)

-- a page's write at a block of a fork, or behind its whole pages, failed
pub torn_put : (relseg : ℕ) (files new : Files) (store : Store) (fork : ForkId) (b : ℕ) → 0 < relseg → Holds relseg files store → IsNamed fork 0 → b ≤ length (whole_pages (pages_of store fork)) → b < 2 ^ 32 - 1
    → IsTorn (fork_path_bytes fork (b / relseg) false) (b % relseg * 8192) 8192 files new → LeavesTorn relseg new store fork b
torn_put relseg files new store fork b some holds named within fits torn = by (get new path) refl
  where
    path : List ℕ
    path = fork_path_bytes fork (b / relseg) false

    at : ℕ
    at = b % relseg * 8192

    pages : ForkPages
    pages = pages_of store fork

    held : AreHeld pages
    held = pages_held relseg files store fork holds

    by : (o : Option (List ℕ)) → get new path ≡ o → LeavesTorn relseg new store fork b
    by None e = record {
      left = store;
      holds = subst (λ (f : Files). Holds relseg f store) (sym (same_files path files new torn.others (e ∙ sym (torn.missing e)))) holds;
      torn = none_is_torn store fork b;
    }
    by (Some bytes) e =
        let old = bytes_of files path in
        let placed = block_placed relseg files store fork b some holds named within (omega arith) in
        let file : IsTornFile at 8192 old bytes = subst (λ (o : Option (List ℕ)). IfSome o (IsTornFile at 8192 old)) e torn.file in
        let part = take 8192 (drop at bytes) in
        let size = length-take 8192 (drop at bytes) in
        let left = length-drop at bytes in
        let full : b < length (whole_pages pages) → length part ≡ 8192 = λ less.
        let room = page_room 8192 placed.count (b % relseg) (in_segment relseg (b / relseg) pages) placed.held (placed.has less) in
        let there = ap length placed.bytes in
        omega (arith, size, left, file.least, room, there) in
        record {
          left = with_page store fork b part;
          holds = part_is_put relseg files new store fork b part some holds named within fits
              (part_held pages b part held within (omega (arith, size)) full)
              torn.others
              (e ∙ ap (λ (x : List ℕ). Some x) (torn_part 8192 at old bytes placed.room file));
          torn = put_is_torn store fork b part held within;
        }
