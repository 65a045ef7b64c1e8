-- What is told of the outside.
use Rattle.std.proofs.Common.{◌≡◌, Option, Some, None, IsSome, IfSome, refl, subst}

-- what is there
pub some_told : {A : Type 0} (o : Option A) → IsSome o → (x : A) × (o ≡ Some x)
some_told None some = absurd cc
some_told (Some x) some = (x, refl)

-- what holds where a value is told, where it is
pub at_told : {A : Type 0} (o : Option A) (x : A) (P : A → Type 0) → o ≡ Some x → IfSome o P → P x
at_told {A = A} o x P e held = subst (λ (s : Option A). IfSome s P) e held
