-- Faults that are judged in turn: the first one, or none.
use Rattle.std.proofs.Common.{◌≡◌, Bool, true, false, Option, Some, None, if◌then◌else◌, refl, sym, ap, ◌∙◌}
use Rattle.std.specs.Option.{option_or}
use Rattle.std.proofs.lemmas.Option.{none-some}

pub neither : {A : Type 0} (first later : Option A) → option_or first later ≡ None → (first ≡ None) × (later ≡ None)
neither None later e = (refl, e)
neither (Some fault) later e = absurd (cc)

pub both_none : {A : Type 0} (first later : Option A) → first ≡ None → later ≡ None → option_or first later ≡ None
both_none first later e f = ap (λ o. option_or o later) e ∙ f

pub some_none : {A : Type 0} (o : Option A) (fault : A) → o ≡ None → o ≡ Some fault → ⊥
some_none o fault e f = none-some fault (sym e ∙ f)

pub passes : {A : Type 0} (test : Bool) (fault : A) → (if test then None else Some fault) ≡ None → test ≡ true
passes true fault e = refl
passes false fault e = absurd (cc)

pub passed : {A : Type 0} (test : Bool) (fault : A) → test ≡ true → (if test then None else Some fault) ≡ None
passed true fault e = refl
passed false fault e = absurd (cc)

pub fails : {A : Type 0} (test : Bool) (fault : A) → (if test then Some fault else None) ≡ None → test ≡ false
fails true fault e = absurd (cc)
fails false fault e = refl

pub failed : {A : Type 0} (test : Bool) (fault : A) → test ≡ false → (if test then Some fault else None) ≡ None
failed true fault e = absurd (cc)
failed false fault e = refl
