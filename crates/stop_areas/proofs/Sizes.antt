-- The bytes of segment files that hold a store of whole pages, and the whole pages of a fork.
use Rattle.std.proofs.Common.{◌≡◌, ℕ, zero, suc, ◌+◌, ◌-◌, ◌*◌, ◌/◌, ◌%◌, ◌<◌, ◌≤◌, ⊎_elim, min, List, [], ◌∷◌, length, take, drop, slice_get, get_or, Option, Some, None, unwrap_or, refl, sym, ap, subst, ◌∙◌, arith, length-take, length-drop}
use Rattle.std.proofs.lemmas.Bool.Decides.{leb_tells}
use Rattle.std.proofs.lemmas.List.{take_all, drop_all, get_or-take, get_or-drop}
use Rattle.std.proofs.lemmas.Nat.{div-add-mod'}
use Rattle.std.specs.List.{All}
use Rattle.std.specs.FinMap.{get}
use Rattle.lsn_core.specs.byte_words.Numbers.{◌>>=◌}
use Rattle.lsn_core.specs.declared.ids.ForkId.{ForkId}
use Rattle.lsn_core.specs.Files.{Files}
use Rattle.lsn_core.specs.Names.{IsNamed}
use Rattle.lsn_core.specs.Store.{Store, ForkPages, segment_content, segment_in}
use Rattle.rel_files.specs.Forks.{AreHeld, Holds, HasWholePages}
use Rattle.rel_files.proofs.Pages.{HeldBy, held_by, flat, bytes_filled}
use Rattle.rel_files.proofs.Segments.{in_segment, held_in, segment_is, bytes_there}
use Rattle.rel_files.proofs.SegmentFiles.{fork_has_no_file}
use Rattle.rel_files.proofs.WholePages.{whole_all}
use Rattle.stop_areas.specs.Left.{segment_of}

-- a block that is there is one of a fork
pub in_fork : {P : Type 0} (o : Option ForkPages) (block : ℕ) (page : List ℕ) → (o >>= λ ps. slice_get ps block) ≡ Some page → ((pages : ForkPages) → o ≡ Some pages → slice_get pages block ≡ Some page → P) → P
in_fork None block page e k = absurd cc
in_fork (Some pages) block page e k = k pages refl e

pub short_of : {X : Type 0} (xs : List X) (b : ℕ) → slice_get xs b ≡ None → length xs ≤ b
short_of [] b e = omega arith
short_of (y ∷ ys) zero e = absurd cc
short_of (y ∷ ys) (suc b) e = let h = short_of ys b e in omega (arith, h)

-- a page of the size is one of the whole ones
pub among_held : (size w : ℕ) (pages : ForkPages) (b : ℕ) (page : List ℕ) → HeldBy size w pages → slice_get pages b ≡ Some page → length page ≡ size → b < w
among_held size zero [] zero page h e l = absurd cc
among_held size zero [] (suc b) page h e l = absurd cc
among_held size zero (p ∷ []) zero page h e l = let same : p ≡ page = cc in let s = ap length same in absurd (omega (arith, h, s, l))
among_held size zero (p ∷ []) (suc zero) page h e l = absurd cc
among_held size zero (p ∷ []) (suc (suc b)) page h e l = absurd cc
among_held size zero (p ∷ (q ∷ pages)) b page h e l = absurd h
among_held size (suc w) [] b page h e l = absurd h
among_held size (suc w) (p ∷ pages) zero page h e l = omega arith
among_held size (suc w) (p ∷ pages) (suc b) page h e l = let r = among_held size w pages b page h.1 e l in omega (arith, r)

-- pages that are all whole
held_all : (pages : ForkPages) → AreHeld pages → All (λ page. length page ≡ 8192) pages → HeldBy 8192 (length pages) pages
held_all pages held whole = subst (λ (n : ℕ). HeldBy 8192 n pages) (ap length (whole_all pages whole)) (held_by pages held)

segment_size : (relseg seg : ℕ) (pages : ForkPages) → HeldBy 8192 (length pages) pages → length (segment_content relseg pages seg) ≡ min relseg (length pages - seg * relseg) * 8192
segment_size relseg seg pages held =
    let n = seg * relseg in
    let size : length (in_segment relseg seg pages) ≡ min relseg (length pages - n) = length-take relseg (drop n pages) ∙ ap (min relseg) (length-drop n pages) in
    ⊎_elim
    (λ x.
    let here = held_in 8192 relseg seg (length pages) pages held x.1 in
    let filled = bytes_filled 8192 here.count (in_segment relseg seg pages) (omega arith) here.held in
    filled.exact (size ∙ sym here.counted) ∙ ap (λ (k : ℕ). k * 8192) here.counted)
    (λ x.
    let over : length pages ≤ n = omega (arith, x.1) in
    let none : length (segment_content relseg pages seg) ≡ 0 = ap (λ (ps : ForkPages). length (flat (take relseg ps))) (drop_all n pages over) ∙ ap (λ (ps : ForkPages). length (flat ps)) (take_all relseg [] (omega arith)) in
    let zero_left : min relseg (length pages - n) ≡ 0 = omega (arith, over) in
    none ∙ sym (ap (λ (k : ℕ). k * 8192) zero_left))
    (leb_tells n (length pages))

-- the bytes of a fork's file
bytes_named : (relseg : ℕ) (files : Files) (store : Store) (fork : ForkId) (pages : ForkPages) (seg : ℕ) → 0 < relseg → Holds relseg files store → get store fork ≡ Some pages → IsNamed fork seg
    → segment_of files fork seg ≡ segment_content relseg pages seg
bytes_named relseg files store fork pages seg some holds there named =
    ap (λ (o : Option (List ℕ)). unwrap_or o []) (holds.segments fork seg named ∙ ap (segment_in relseg seg) there ∙ segment_is relseg seg pages some) ∙ bytes_there relseg seg pages

pub bytes_missing : (relseg : ℕ) (files : Files) (store : Store) (fork : ForkId) (seg : ℕ) → Holds relseg files store → get store fork ≡ None → IsNamed fork seg → segment_of files fork seg ≡ []
bytes_missing relseg files store fork seg holds none named = ap (λ (o : Option (List ℕ)). unwrap_or o []) (fork_has_no_file relseg files store fork seg holds none named)

pub size_named : (relseg : ℕ) (files : Files) (store : Store) (fork : ForkId) (pages : ForkPages) (seg : ℕ) → 0 < relseg → Holds relseg files store → HasWholePages store → get store fork ≡ Some pages → IsNamed fork seg
    → length (segment_of files fork seg) ≡ min relseg (length pages - seg * relseg) * 8192
size_named relseg files store fork pages seg some holds whole there named =
    ap length (bytes_named relseg files store fork pages seg some holds there named) ∙ segment_size relseg seg pages (held_all pages (holds.held fork pages there) (whole fork pages there))

-- how far a block's file goes where the fork ends before the block
pub not_further : (relseg b len : ℕ) → 0 < relseg → len ≤ b → min relseg (len - b / relseg * relseg) * 8192 ≤ b % relseg * 8192
not_further relseg b len some l =
    let parts = div-add-mod' b relseg in
    let few : min relseg (len - b / relseg * relseg) ≤ b % relseg = omega (arith, parts, l) in
    omega (arith, few)

-- bytes at a place are those of the part that stands there
pub part_byte : (bytes : List ℕ) (place i : ℕ) → i < 8192 → get_or (take 8192 (drop place bytes)) i 0 ≡ get_or bytes (place + i) 0
part_byte bytes place i l = get_or-take 8192 (drop place bytes) i 0 l ∙ get_or-drop place bytes i 0
