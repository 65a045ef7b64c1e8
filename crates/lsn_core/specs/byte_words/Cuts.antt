-- Texts cut in two at a byte.
use Rattle.std.specs.Prelude.{ℕ, ◌+◌, ◌==◌, List, take, drop, Option}
use Rattle.std.specs.List.{position}
use Rattle.std.specs.Option.{option_map}

-- what stands before and behind the first such byte
abbrev pub cut_at : ℕ → List ℕ → Option (List ℕ × List ℕ)
cut_at byte text =
    option_map (λ i. (take i text, drop (i + 1) text)) (position (λ b. b == byte) text)
