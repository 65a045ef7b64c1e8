-- Bytes over which a file was read.
use Rattle.std.proofs.Common.{◌≡◌, ℕ, zero, suc, ◌-◌, min, List, [], ◌++◌, length, take, drop, replicate, refl, sym, ap, ap₂, ◌∙◌, arith, inl, inr}
use Rattle.std.proofs.lemmas.Bool.{cases_lt}
use Rattle.std.proofs.lemmas.List.{length-append, length-take, length-drop, take_all, drop_all, drop-replicate, length-replicate}
use Rattle.lsn_core.specs.byte_words.Pieces.{zero_page}
use Rattle.chain_files.specs.Inside.{read_over}
use Rattle.lsn_core.specs.Files.{Files}
use Rattle.chain_files.specs.Sources.{member_bytes, bytes_at, slot_page}
use Rattle.chain_files.proofs.Pages.{length-zeros}
use Rattle.chain_files.specs.declared.paths.FilePaths.{FilePaths}
use Rattle.chain_files.specs.declared.slot.Slot.{Slot}
use Rattle.chain_files.specs.declared.slot.Slot.TheVariants.{Open, Zeros, Plain, Part}

pub is_over : (file before now : List ℕ) (at count : ℕ) → count ≡ min (length before) (length file - at) → now ≡ take count (drop at file) ++ drop count before → now ≡ read_over file at before
is_over file before now at count counted is =
    let long = length-drop at file in
    elim (cases_lt count (length before)) [
      | inl lt ↦
          let ends : count ≡ length file - at = omega arith in
          is ∙ ap₂ (λ (x y : List ℕ). x ++ y)
          (take_all count (drop at file) (omega arith) ∙ sym (take_all (length before) (drop at file) (omega arith)))
          (ap (λ (n : ℕ). drop n before) ends)
      | inr le ↦
          let all : count ≡ length before = omega arith in
          is ∙ ap₂ (λ (x y : List ℕ). x ++ y)
          (ap (λ (n : ℕ). take n (drop at file)) all)
          (drop_all count before (omega arith) ∙ sym (drop_all (length file - at) before (omega arith)))
    ]

-- over zeros that is the file's part
pub over_zeros : (file : List ℕ) (at size : ℕ) → read_over file at (replicate size 0) ≡ bytes_at file at size
over_zeros file at size =
    let long = length-drop at file in
    let taken = length-take size (drop at file) in
    let sized = length-replicate {A = ℕ} size 0 in
    ap₂ (λ (x y : List ℕ). x ++ y)
    (ap (λ (n : ℕ). take n (drop at file)) sized)
    (drop-replicate (length file - at) size 0 ∙ ap (λ (n : ℕ). replicate n 0) (omega arith))

pub over_sized : (file zeros : List ℕ) (at n size : ℕ) → zeros ≡ replicate n 0 → n ≡ size → read_over file at zeros ≡ bytes_at file at size
over_sized file zeros at n size is e = ap (λ (l : List ℕ). read_over file at l) is ∙ over_zeros file at n ∙ ap (bytes_at file at) e

drop_none : (at : ℕ) → drop {A = ℕ} at [] ≡ []
drop_none zero = refl
drop_none (suc at) = refl

pub over_none : (at : ℕ) (before : List ℕ) → read_over [] at before ≡ before
over_none at before =
    ap₂ (λ (x : List ℕ) (n : ℕ). take (length before) x ++ drop n before) (drop_none at) (let z : 0 - at ≡ 0 = omega arith in z)
    ∙ ap (λ (x : List ℕ). x ++ before) (take_all (length before) [] (omega arith))

pub over_page : (file : List ℕ) (at : ℕ) → read_over file at zero_page ≡ bytes_at file at 8192
unfolding zero_page
over_page file at = over_zeros file at 8192

-- ---- the length of a page

pub length-part : (file : List ℕ) (at size : ℕ) → length (bytes_at file at size) ≡ size
length-part file at size =
    let taken = length-take size (drop at file) in
    length-append (take size (drop at file)) (replicate (size - length (take size (drop at file))) 0)
    ∙ omega (arith, taken, length-replicate {A = ℕ} (size - length (take size (drop at file))) 0)

pub length-slot_page : (chain : List Files) (paths : FilePaths) (slot : Slot) → length (slot_page chain paths slot) ≡ 8192
length-slot_page chain paths Open = length-zeros
length-slot_page chain paths Zeros = length-zeros
length-slot_page chain paths (Plain member at) = length-part (member_bytes chain member paths.plain) at 8192
length-slot_page chain paths (Part member at) = length-part (member_bytes chain member paths.incr) at 8192
