-- What follows of an answer and of what stands in a list.
use Rattle.std.proofs.Common.{◌≡◌, List, Option, Some, None, IfSome, Result, Ok, Err, IfOk, OnOk, OnErr, sym, subst, ◌∙◌}
use Rattle.std.specs.List.{All}
use Rattle.lsn_core.specs.declared.fault.AreaFault.{AreaFault}
use Rattle.lsn_core.specs.declared.fault.AreaFault.TheVariants.{Failed}

pub when_ok : {T E : Type 0} {P Q : T → Type 0} (result : Result T E) → ((x : T) → P x → Q x) → IfOk result P → IfOk result Q
when_ok (Ok x) f h = f x h
when_ok (Err fault) f h = tt

pub when_some : {T : Type 0} {P Q : T → Type 0} (found : Option T) → ((x : T) → P x → Q x) → IfSome found P → IfSome found Q
when_some None f h = tt
when_some (Some x) f h = f x h

pub when_all : {T : Type 0} {P Q : T → Type 0} (xs : List T) → ((x : T) → P x → Q x) → All P xs → All Q xs
when_all xs f h = λ k d lt. f _ (h k d lt)

pub ok_of : {T E : Type 0} (P : T → Type 0) (result : Result T E) (x : T) → result ≡ Ok x → IfOk result P → P x
ok_of P result x e h = subst (λ r. IfOk r P) e h

-- an answer was passed on
pub passed_on : {T E : Type 0} (R : Type 0) (answer : Result T E) (result : Result T AreaFault) → IfOk result (λ x. answer ≡ Ok x) → OnOk answer R → OnOk result R
passed_on R answer (Err fault) e h = tt
passed_on R answer (Ok x) e h = subst (λ r. OnOk r R) e h

pub failed_of : {T E : Type 0} (R : Type 0) (answer : Result T E) (result : Result T AreaFault) → IfOk answer (λ x. result ≡ Ok x) → OnErr answer R → result ≡ Err Failed → R
failed_of {T} R (Ok x) result e h failed = let no : ◌≡◌ {A = Result T AreaFault} (Ok x) (Err Failed) = sym e ∙ failed in absurd cc
failed_of R (Err fault) result e h failed = h

pub on_err : {T E : Type 0} (result : Result T E) {R : Type 0} → R → OnErr result R
on_err (Ok x) h = tt
on_err (Err fault) h = h

pub on_ok : {T E : Type 0} {A B : Type 0} (result : Result T E) → (A → B) → OnOk result A → OnOk result B
on_ok (Ok x) f h = f h
on_ok (Err fault) f h = tt
