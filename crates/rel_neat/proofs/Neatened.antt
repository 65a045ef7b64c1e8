-- Segment files are neat once each of them was made so, those of smaller numbers first.
use Rattle.std.proofs.Common.{◌≡◌, ◌≢◌, ℕ, zero, suc, ◌-◌, ◌*◌, ◌/◌, ◌<◌, ◌≤◌, ◌⊎◌, inl, inr, min, Bool, true, false, true≢false, cond, ◌&&◌, ◌||◌, List, [], ◌∷◌, length, take, Option, Some, None, IfSome, unwrap_or, option_map, refl, sym, ap, subst, ◌∙◌, arith}
use Rattle.std.specs.Prelude.{◌==◌, nat_lt}
use Rattle.std.specs.List.{All, AllByRecursion, slice_index_or}
use Rattle.std.specs.List.Sorted.{IsNonDecreasingBy}
use Rattle.std.specs.FinMap.{get, get-insert, get-remove}
use Rattle.std.specs.Cmp.Lexicographic.{nat_list_cmp_total}
use Rattle.std.proofs.lemmas.Bool.{ltb-false, lt-ltb, or_parts}
use Rattle.std.proofs.lemmas.List.{length-take}
use Rattle.std.proofs.lemmas.List.Elements.{recursion_from_All}
use Rattle.lsn_core.specs.byte_words.Told.{when_told}
use Rattle.lsn_core.specs.Files.{Files}
use Rattle.lsn_core.specs.Names.{fork_path_bytes, IsNamed}
use Rattle.lsn_core.specs.declared.ids.ForkId.{ForkId}
use Rattle.lsn_core.proofs.ForkPaths.{one_place}
use Rattle.lsn_core.proofs.StoreFiles.{name_itself}
use Rattle.vault.specs.Area.{cut_to, after_cut, after_remove}
use Rattle.vault.proofs.SetAreas.{same_or_not}
use Rattle.vault.proofs.Undone.{cut_is_cut, removed_is_removed}
use Rattle.rel_files.proofs.SegmentFiles.{renamed}
use Rattle.stop_areas.specs.Left.{segment_of}
use Rattle.rel_neat.specs.Neat.{IsNeatFile, IsNeatAt, IsNeat}
use Rattle.rel_neat.specs.Segments.{IsSegmentNamed, ListsSegments, blocks_in, is_stray, neatened, all_neatened}
use Rattle.rel_neat.proofs.Names.{by_test}

abbrev pub path : ForkId → ℕ → List ℕ
path fork seg = fork_path_bytes fork seg false

-- ---- one file

-- the two ways in which a file is made neat
pub either_way : (relseg : ℕ) (fork : ForkId) (seg : ℕ) (files : Files) {P : Type 0}
    → (is_stray relseg files fork seg ≡ true → neatened relseg fork seg files ≡ after_remove (path fork seg) files → P)
    → (is_stray relseg files fork seg ≡ false → neatened relseg fork seg files ≡ after_cut (path fork seg) (blocks_in relseg files fork seg * 8192) files → P) → P
either_way relseg fork seg files removed cut =
    by_test (is_stray relseg files fork seg)
    (λ k. removed k (ap (λ (b : Bool). cond b (after_remove (path fork seg) files) (after_cut (path fork seg) (blocks_in relseg files fork seg * 8192) files)) k))
    (λ k. cut k (ap (λ (b : Bool). cond b (after_remove (path fork seg) files) (after_cut (path fork seg) (blocks_in relseg files fork seg * 8192) files)) k))

-- other files stay
pub others_stay : (relseg : ℕ) (fork : ForkId) (seg : ℕ) (files : Files) (q : List ℕ) → q ≢ path fork seg → get (neatened relseg fork seg files) q ≡ get files q
others_stay relseg fork seg files q other =
    either_way relseg fork seg files
    (λ k is. ap (λ (m : Files). get m q) is ∙ (removed_is_removed (path fork seg) files).others q other)
    (λ k is. ap (λ (m : Files). get m q) is ∙ (cut_is_cut (path fork seg) (blocks_in relseg files fork seg * 8192) files).others q other)

removed_at : (name : List ℕ) (files : Files) → get (after_remove name files) name ≡ None
removed_at name files = get-remove nat_list_cmp_total files name name ∙ ap (λ (b : Bool). cond b None (get files name)) (name_itself name)

cut_at : (name : List ℕ) (size : ℕ) (files : Files) (o : Option (List ℕ)) → get files name ≡ o → get (cut_to files name size o) name ≡ option_map (take size) o
cut_at name size files None e = e
cut_at name size files (Some bytes) e = get-insert nat_list_cmp_total files name (take size bytes) name ∙ ap (λ (b : Bool). cond b (Some (take size bytes)) (get files name)) (name_itself name)

-- a missing file stays missing
none_of : (relseg : ℕ) (fork : ForkId) (seg : ℕ) (files : Files) → get files (path fork seg) ≡ None → get (neatened relseg fork seg files) (path fork seg) ≡ None
none_of relseg fork seg files none =
    either_way relseg fork seg files
    (λ k is. ap (λ (m : Files). get m (path fork seg)) is ∙ removed_at (path fork seg) files)
    (λ k is. ap (λ (m : Files). get m (path fork seg)) is ∙ cut_at (path fork seg) (blocks_in relseg files fork seg * 8192) files (get files (path fork seg)) refl ∙ ap (option_map (take (blocks_in relseg files fork seg * 8192))) none)

none_stays : (relseg : ℕ) (fork : ForkId) (seg : ℕ) (files : Files) (q : List ℕ) → get files q ≡ None → get (neatened relseg fork seg files) q ≡ None
none_stays relseg fork seg files q none = elim (same_or_not q (path fork seg)) [
  | inl same ↦ subst (λ (p : List ℕ). get files p ≡ None → get (neatened relseg fork seg files) p ≡ None) (sym same) (none_of relseg fork seg files) none
  | inr other ↦ others_stay relseg fork seg files q other ∙ none
]

-- what isn't stray has blocks, and a full file before it
record IsOwn (relseg : ℕ) (files : Files) (fork : ForkId) (seg : ℕ) : Type 0 where
  some : 0 < blocks_in relseg files fork seg
  full : relseg ≤ blocks_in relseg files fork (seg - 1)

some_by : (n : ℕ) → (n == 0) ≡ false → 0 < n
some_by zero e = absurd (true≢false e)
some_by (suc n) e = omega arith

second_of : (a b : Bool) → a ≡ true → (a && b) ≡ false → b ≡ false
second_of true b e f = f
second_of false b e f = absurd (true≢false (sym e))

own_of : (relseg : ℕ) (files : Files) (fork : ForkId) (seg : ℕ) → is_stray relseg files fork seg ≡ false → 0 < seg → IsOwn relseg files fork seg
own_of relseg files fork seg not later =
    let parts = or_parts (blocks_in relseg files fork seg == 0) (nat_lt (blocks_in relseg files fork (seg - 1)) relseg)
    (second_of (nat_lt 0 seg) ((blocks_in relseg files fork seg == 0) || nat_lt (blocks_in relseg files fork (seg - 1)) relseg) (lt-ltb 0 seg later) not) in
    record { some = some_by (blocks_in relseg files fork seg) parts.0; full = ltb-false (blocks_in relseg files fork (seg - 1)) relseg parts.1 }

-- so many blocks are no more than there are bytes
fits : (relseg : ℕ) (bytes : List ℕ) → min (length bytes / 8192) relseg * 8192 ≤ length bytes
fits relseg bytes = omega arith

before_other : (fork : ForkId) (seg : ℕ) → IsNamed fork seg → 0 < seg → path fork (seg - 1) ≢ path fork seg
before_other fork seg named later e =
    let f = named.seg_fits in
    let place = one_place fork fork (seg - 1) seg false false (renamed fork seg (seg - 1) named (omega (arith, f))) named e in
    omega (arith, place.1.0, later)

neat_cut : (relseg : ℕ) (fork : ForkId) (seg : ℕ) (files m : Files) (o : Option (List ℕ)) → get files (path fork seg) ≡ o → is_stray relseg files fork seg ≡ false
    → (0 < seg → segment_of m fork (seg - 1) ≡ segment_of files fork (seg - 1)) → IfSome (option_map (take (blocks_in relseg files fork seg * 8192)) o) (IsNeatFile relseg m fork seg)
neat_cut relseg fork seg files m None e not same = tt
neat_cut relseg fork seg files m (Some bytes) e not same =
    let content : segment_of files fork seg ≡ bytes = ap (λ (o : Option (List ℕ)). unwrap_or o []) e in
    let count : blocks_in relseg files fork seg ≡ min (length bytes / 8192) relseg = ap (λ (l : List ℕ). min (length l / 8192) relseg) content in
    record {
      blocks = blocks_in relseg files fork seg;
      size = omega (arith, count, length-take (blocks_in relseg files fork seg * 8192) bytes, fits relseg bytes);
      most = omega arith;
      some = λ later. (own_of relseg files fork seg not later).some;
      before = λ later.
          let own = own_of relseg files fork seg not later in
          let f = own.full in
          let l = ap length (same later) in
          omega (arith, f, l);
    }

-- a file is neat once it was made so
pub own_neat : (relseg : ℕ) (fork : ForkId) (seg : ℕ) (files : Files) → IsNamed fork seg → IsNeatAt relseg (neatened relseg fork seg files) fork seg
own_neat relseg fork seg files named =
    either_way relseg fork seg files
    (λ k is. subst (λ (m : Files). IsNeatAt relseg m fork seg) (sym is)
    (subst (λ (o : Option (List ℕ)). IfSome o (IsNeatFile relseg (after_remove (path fork seg) files) fork seg)) (sym (removed_at (path fork seg) files)) tt))
    (λ k is.
    let size = blocks_in relseg files fork seg * 8192 in
    let m = after_cut (path fork seg) size files in
    subst (λ (m : Files). IsNeatAt relseg m fork seg) (sym is)
    (subst (λ (o : Option (List ℕ)). IfSome o (IsNeatFile relseg m fork seg)) (sym (cut_at (path fork seg) size files (get files (path fork seg)) refl))
    (neat_cut relseg fork seg files m (get files (path fork seg)) refl k
    (λ later. ap (λ (o : Option (List ℕ)). unwrap_or o []) ((cut_is_cut (path fork seg) size files).others (path fork (seg - 1)) (before_other fork seg named later))))))

-- ---- the others

moved_neat : (relseg : ℕ) (files m : Files) (fork : ForkId) (seg : ℕ) → get m (path fork seg) ≡ get files (path fork seg) → (0 < seg → segment_of m fork (seg - 1) ≡ segment_of files fork (seg - 1)) → IsNeatAt relseg files fork seg → IsNeatAt relseg m fork seg
moved_neat relseg files m fork seg same before neat =
    subst (λ (o : Option (List ℕ)). IfSome o (IsNeatFile relseg m fork seg)) (sym same)
    (when_told (get files (path fork seg)) (IsNeatFile relseg files fork seg) (IsNeatFile relseg m fork seg)
    (λ bytes f. record {
      blocks = f.blocks;
      size = f.size;
      most = f.most;
      some = f.some;
      before = λ later. let b = f.before later in let l = ap length (before later) in omega (arith, b, l);
    })
    neat)

-- a file that is neat stays so while those of the same number or a greater one are made neat
neat_stays : (relseg : ℕ) (fork other : ForkId) (seg num : ℕ) (files : Files) → IsNamed fork seg → IsNamed other num → seg ≤ num → IsNeatAt relseg files fork seg → IsNeatAt relseg (neatened relseg other num files) fork seg
neat_stays relseg fork other seg num files named known le neat = elim (same_or_not (path fork seg) (path other num)) [
  | inl same ↦
      let place = one_place fork other seg num false false named known same in
      subst (λ (f : ForkId). IsNeatAt relseg (neatened relseg other num files) f seg) (sym place.0)
      (subst (λ (n : ℕ). IsNeatAt relseg (neatened relseg other num files) other n) (sym place.1.0) (own_neat relseg other num files known))
  | inr apart ↦
      moved_neat relseg files (neatened relseg other num files) fork seg (others_stay relseg other num files (path fork seg) apart)
      (λ later. ap (λ (o : Option (List ℕ)). unwrap_or o []) (others_stay relseg other num files (path fork (seg - 1))
      (λ e.
      let f = named.seg_fits in
      let place = one_place fork other (seg - 1) num false false (renamed fork seg (seg - 1) named (omega (arith, f))) known e in
      omega (arith, place.1.0, later, le))))
      neat
]

-- ---- all of them

abbrev AllFrom : ℕ → List (ForkId × ℕ) → Type 0
AllFrom n xs = AllByRecursion (λ x. n ≤ x.1) xs

abbrev Rises : List (ForkId × ℕ) → Type 0
Rises [] = Unit {0}
Rises (x ∷ xs) = AllFrom x.1 xs × Rises xs

abbrev IsIn : ForkId → ℕ → List (ForkId × ℕ) → Type 0
IsIn fork seg [] = ⊥
IsIn fork seg (x ∷ xs) = ((x.0 ≡ fork) × (x.1 ≡ seg)) ⊎ IsIn fork seg xs

neat_behind : (relseg : ℕ) (fork : ForkId) (seg : ℕ) (xs : List (ForkId × ℕ)) (files : Files) → IsNamed fork seg → AllByRecursion IsSegmentNamed xs → AllFrom seg xs → IsNeatAt relseg files fork seg → IsNeatAt relseg (all_neatened relseg xs files) fork seg
neat_behind relseg fork seg [] files named known from neat = neat
neat_behind relseg fork seg (x ∷ xs) files named known from neat =
    neat_behind relseg fork seg xs (neatened relseg x.0 x.1 files) named known.1 from.1 (neat_stays relseg fork x.0 seg x.1 files named known.0 from.0 neat)

neat_in : (relseg : ℕ) (fork : ForkId) (seg : ℕ) (xs : List (ForkId × ℕ)) (files : Files) → IsNamed fork seg → AllByRecursion IsSegmentNamed xs → Rises xs → IsIn fork seg xs → IsNeatAt relseg (all_neatened relseg xs files) fork seg
neat_in relseg fork seg [] files named known rises is = absurd is
neat_in relseg fork seg (x ∷ xs) files named known rises (inl here) =
    neat_behind relseg fork seg xs (neatened relseg x.0 x.1 files) named known.1 (subst (λ (n : ℕ). AllFrom n xs) here.1 rises.0)
    (subst (λ (f : ForkId). IsNeatAt relseg (neatened relseg x.0 x.1 files) f seg) here.0
    (subst (λ (n : ℕ). IsNeatAt relseg (neatened relseg x.0 x.1 files) x.0 n) here.1 (own_neat relseg x.0 x.1 files known.0)))
neat_in relseg fork seg (x ∷ xs) files named known rises (inr there) = neat_in relseg fork seg xs (neatened relseg x.0 x.1 files) named known.1 rises.1 there

none_behind : (relseg : ℕ) (xs : List (ForkId × ℕ)) (files : Files) (q : List ℕ) → get files q ≡ None → get (all_neatened relseg xs files) q ≡ None
none_behind relseg [] files q none = none
none_behind relseg (x ∷ xs) files q none = none_behind relseg xs (neatened relseg x.0 x.1 files) q (none_stays relseg x.0 x.1 files q none)

-- ---- what a list of them says, by its elements

from_number : (n : ℕ) (xs : List (ForkId × ℕ)) → ((j : ℕ) (d : ForkId × ℕ) → j < length xs → n ≤ (slice_index_or xs j d).1) → AllFrom n xs
from_number n [] each = tt
from_number n (x ∷ xs) each = (each 0 x (omega arith), from_number n xs (λ j d less. each (suc j) d (omega (arith, less))))

rises_by : (xs : List (ForkId × ℕ)) → IsNonDecreasingBy (λ x. x.1) xs → Rises xs
rises_by [] rising = tt
rises_by (x ∷ xs) rising =
    (from_number x.1 xs (λ j d less. rising 0 (suc j) d (omega arith) (omega (arith, less))), rises_by xs (λ i j d le less. rising (suc i) (suc j) d (omega (arith, le)) (omega (arith, less))))

in_at : (xs : List (ForkId × ℕ)) (k : ℕ) (x : ForkId × ℕ) → k < length xs → slice_index_or xs k x ≡ x → IsIn x.0 x.1 xs
in_at [] k x less is = absurd (omega (arith, less))
in_at (y ∷ xs) zero x less is = inl (ap (λ (z : ForkId × ℕ). z.0) is, ap (λ (z : ForkId × ℕ). z.1) is)
in_at (y ∷ xs) (suc k) x less is = inr (in_at xs k x (omega (arith, less)) is)

neat_at : (relseg : ℕ) (xs : List (ForkId × ℕ)) (files : Files) (fork : ForkId) (seg : ℕ) (o : Option (List ℕ)) → get files (path fork seg) ≡ o → IsNamed fork seg → AllByRecursion IsSegmentNamed xs → ListsSegments xs files → IsNeatAt relseg (all_neatened relseg xs files) fork seg
neat_at relseg xs files fork seg None e named known lists =
    subst (λ (o : Option (List ℕ)). IfSome o (IsNeatFile relseg (all_neatened relseg xs files) fork seg)) (sym (none_behind relseg xs files (path fork seg) e)) tt
neat_at relseg xs files fork seg (Some bytes) e named known lists =
    let there = lists.all fork seg named (λ none. some_none (sym e ∙ none)) in
    neat_in relseg fork seg xs files named known (rises_by xs lists.rising) (in_at xs there.0 (fork, seg) there.1 there.2)
  where
    some_none : ◌≡◌ {A = Option (List ℕ)} (Some bytes) None → ⊥
    some_none k = cc

pub all_neat : (relseg : ℕ) (xs : List (ForkId × ℕ)) (files : Files) → All IsSegmentNamed xs → ListsSegments xs files → IsNeat relseg (all_neatened relseg xs files)
all_neat relseg xs files known lists fork seg named = neat_at relseg xs files fork seg (get files (path fork seg)) refl named (recursion_from_All IsSegmentNamed xs known) lists
