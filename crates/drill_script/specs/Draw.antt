-- The numbers that a script is drawn from.
use Rattle.std.specs.Prelude.{ℕ, ◌+◌, ◌*◌, ◌/◌, ◌%◌, ◌^◌}

-- the number behind a number
abbrev pub stepped : ℕ → ℕ
stepped x = (x * 6364136223846793005 + 1442695040888963407) % 2 ^ 64

-- what is drawn there, below m
abbrev pub drawn : ℕ → ℕ → ℕ
drawn x m = stepped x / 2 ^ 33 % m
