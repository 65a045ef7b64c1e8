-- The rows of a list, one after another.
use Rattle.std.proofs.Common.{List, ◌++◌, Option, Some, None}

-- what was read, before what is still to come
abbrev pub after : {X : Type 0} → List X → Option (List X) → Option (List X)
after xs None = None
after xs (Some more) = Some (xs ++ more)
