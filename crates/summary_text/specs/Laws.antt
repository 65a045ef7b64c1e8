-- Laws of runs.
use Rattle.std.specs.Prelude.{◌≡◌, ℕ, ◌==◌, List}
use Rattle.std.specs.List.{list_any}
use Rattle.std.specs.List.Sorted.{IsStrictlySortedBy}
use Rattle.std.specs.Ordering.{nat_cmp}
use Rattle.summary_text.specs.Runs.{runs_of, has_number, AreApart}

-- the runs of rising numbers have these numbers and no others
abbrev pub RunsHaveTheBlocks : Type 0
RunsHaveTheBlocks =
    (blocks : List ℕ) (n : ℕ) → IsStrictlySortedBy nat_cmp blocks
    → list_any (has_number n) (runs_of blocks) ≡ list_any (λ b. n == b) blocks

-- and between two of them there is a number that none has
abbrev pub RunsAreApart : Type 0
RunsAreApart =
    (blocks : List ℕ) → IsStrictlySortedBy nat_cmp blocks → AreApart 0 (runs_of blocks)
