-- The script of the input, as far as it is read.
use Rattle.std.specs.Prelude.{◌≡◌, ℕ, ◌+◌, ◌≤◌, List, length, take, drop, Option, IfSome}
use Rattle.std.specs.Option.{option_map}
use Rattle.scripts.specs.Reasons.{script_limit}

-- the input was read: all of it, or one byte more than a script may have. What is behind these
-- bytes is left
pub record IsInput (bytes : List ℕ) (left now : Option (List ℕ)) : Type 0 where
  pub bytes_are : IfSome left (λ whole. bytes ≡ take (script_limit + 1) whole)
  pub size : length bytes ≤ script_limit + 1
  pub rest : now ≡ option_map (drop (length bytes)) left

-- no more than so many bytes were taken off the front of the input
pub record TakesAtMost (most : ℕ) (left now : Option (List ℕ)) : Type 0 where
  pub taken : ℕ
  pub within : taken ≤ most
  pub rest : now ≡ option_map (drop taken) left
