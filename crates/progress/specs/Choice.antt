-- Whether lines are wanted.
use Rattle.std.specs.Prelude.{ℕ, Bool, not, ◌&&◌, ◌||◌, List, codes, bytes_eq, Option, Some, None}

-- as the environment's word says, and else where standard error is a terminal
abbrev pub is_wanted : Option (List ℕ) → Bool → Bool
is_wanted None terminal = terminal
is_wanted (Some word) terminal =
    bytes_eq word (codes "1") || (terminal && not (bytes_eq word (codes "0")))
