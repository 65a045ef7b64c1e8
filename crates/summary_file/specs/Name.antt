-- The name of a summary's file.
use Rattle.std.specs.Prelude.{◌≡◌, ℕ, ◌/◌, ◌%◌, ◌^◌, ◌<◌, List, ◌++◌, codes}
use Rattle.lsn_core.specs.text_numbers.Numbers.{eight_digits}

-- an LSN in sixteen upper-case hexadecimal digits: its upper and its lower 32 bits, eight each
abbrev pub sixteen_digits : ℕ → List ℕ
sixteen_digits at = eight_digits (at / 2 ^ 32) ++ eight_digits (at % 2 ^ 32)

-- the name of the file of a range's summary: timeline 1, the range's start and its end
abbrev pub summary_name_bytes : ℕ → ℕ → List ℕ
summary_name_bytes start end =
    codes "00000001" ++ (sixteen_digits start ++ (sixteen_digits end ++ codes ".summary"))

-- the name is that of no range's file
abbrev pub NamesNoRange : List ℕ → Type 0
NamesNoRange name = (start end : ℕ) → start < 2 ^ 64 → end < 2 ^ 64
    → name ≡ summary_name_bytes start end → ⊥
