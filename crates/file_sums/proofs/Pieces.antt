-- A beginning of a file and the piece behind it.
use Rattle.std.proofs.Common.{◌≡◌, ℕ, ◌+◌, ◌-◌, min, List, ◌++◌, length, take, drop, refl, sym, ◌∙◌, arith, inl, inr}
use Rattle.std.proofs.lemmas.Bool.{cases_lt}
use Rattle.std.proofs.lemmas.List.{take_at, take_all, length-take, length-drop}
use Rattle.std.proofs.Math.Seq.{take-add}
use Rattle.lsn_core.specs.Files.{Files}
use Rattle.vault.specs.Area.{bytes_of, IsRead}

same_beginning : (whole : List ℕ) (at count size : ℕ) → count ≡ min size (length whole - at) → take (at + count) whole ≡ take (at + size) whole
same_beginning whole at count size counted =
    elim (cases_lt count size) [
      | inl lt ↦ take_all _ _ (omega arith) ∙ sym (take_all _ _ (omega arith))
      | inr le ↦ let e : count ≡ size = omega arith in rw e refl
    ]

piece : (whole before now : List ℕ) (at count : ℕ) → count ≡ min (length before) (length whole - at) → now ≡ take count (drop at whole) ++ drop count before → take at whole ++ take count now ≡ take (at + length before) whole
piece whole before now at count counted bytes =
    let fits : length (take count (drop at whole)) ≡ count = rw (length-take, length-drop) (omega arith) in
    let is : take count now ≡ take count (drop at whole) = rw bytes (take_at _ _ count fits) in
    rw is (sym (take-add at count whole)) ∙ same_beginning whole at count (length before) counted

pub piece_read : (m : Files) (name before now : List ℕ) (at count : ℕ) → IsRead m name at before now count → take at (bytes_of m name) ++ take count now ≡ take (at + length before) (bytes_of m name)
piece_read m name before now at count is = piece (bytes_of m name) before now at count is.counted is.bytes
