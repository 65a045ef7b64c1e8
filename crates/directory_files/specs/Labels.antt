-- The lines of a label's text.
use Rattle.std.specs.Prelude.{ℕ, List, [], ◌∷◌, zero, suc, ◌==◌, if◌then◌else◌}

-- the first lines of a text, so many, with their ends, and what stands behind them
abbrev pub first_lines : ℕ → List ℕ → List ℕ
first_lines zero text = []
first_lines (suc n) [] = []
first_lines (suc n) (b ∷ text) =
    b ∷ (if b == 10 then first_lines n text else first_lines (suc n) text)

abbrev pub lines_behind : ℕ → List ℕ → List ℕ
lines_behind zero text = text
lines_behind (suc n) [] = []
lines_behind (suc n) (b ∷ text) =
    if b == 10 then lines_behind n text else lines_behind (suc n) text
