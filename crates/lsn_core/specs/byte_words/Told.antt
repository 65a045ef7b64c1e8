-- Facts about a value that may not be told.
use Rattle.std.specs.Prelude.{Option, Some, None, IfSome}

-- what holds of a value follows into what it implies, where the value is told
pub when_told : {A : Type 0} (o : Option A) (P Q : A → Type 0) → ((x : A) → P x → Q x)
    → IfSome o P → IfSome o Q
when_told None P Q step held = held
when_told (Some x) P Q step held = step x held

-- the same of two facts about one value
pub when_both_told : {A : Type 0} (o : Option A) (P Q R : A → Type 0)
    → ((x : A) → P x → Q x → R x) → IfSome o P → IfSome o Q → IfSome o R
when_both_told None P Q R step left right = left
when_both_told (Some x) P Q R step left right = step x left right
