-- A fault that is passed on.
use Rattle.std.proofs.Common.{◌≡◌, List, [], ◌∷◌, length, Result, Ok, Err, IfOk, IfErr, OnErr, OnOk, refl, sym, subst, arith}
use Rattle.std.specs.Result.{IsErrAnd}

-- where the fault is one that has a cause
pub err_cause : {T E : Type 0} (r : Result T E) (e : E) (P : E → Type 0) → IsErrAnd r (λ x. x ≡ e) → P e → IfErr r P
err_cause (Ok x) e P is holds = absurd is
err_cause {E = E} (Err x) e P is holds = subst P (sym is) holds

pub on_err : {T E : Type 0} (r : Result T E) (P : Type 0) → P → OnErr r P
on_err (Ok x) P holds = tt
on_err (Err x) P holds = holds

pub ok_more : {T E : Type 0} (r : Result T E) (P Q : T → Type 0) → ((x : T) → P x → Q x) → IfOk r P → IfOk r Q
ok_more (Ok x) P Q more holds = more x holds
ok_more (Err x) P Q more holds = tt

pub err_more : {T E : Type 0} (r : Result T E) (P Q : E → Type 0) → ((x : E) → P x → Q x) → IfErr r P → IfErr r Q
err_more (Ok x) P Q more holds = tt
err_more (Err x) P Q more holds = more x holds

-- a list with no more items
pub no_items : {A : Type 0} (xs : List A) → length xs ≡ 0 → xs ≡ []
no_items [] e = refl
no_items (x ∷ xs) e = absurd (omega arith)

pub on_ok_more : {T E : Type 0} (r : Result T E) (P Q : Type 0) → (P → Q) → OnOk r P → OnOk r Q
on_ok_more (Ok x) P Q more holds = more holds
on_ok_more (Err x) P Q more holds = tt
