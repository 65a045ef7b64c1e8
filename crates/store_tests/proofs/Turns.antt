-- A call that fails behind another one that didn't.
use Rattle.std.proofs.Common.{◌≡◌, ℕ, ◌≤◌, Result, Ok, Err, arith, sym, ◌∙◌}
use Rattle.std.specs.Result.{IsErrAnd}
use Rattle.lsn_core.specs.Causes.{HasCause}
use Rattle.lsn_core.specs.declared.fault.AreaFault.{AreaFault}
use Rattle.lsn_core.specs.declared.fault.AreaFault.TheVariants.{Failed}

pub in_turn : {T U : Type 0} (before mid now : ℕ) (r : Result T AreaFault) (s : Result U AreaFault) → before ≤ mid → HasCause mid now r → (s ≡ Err Failed → r ≡ Err Failed) → HasCause before now s
in_turn before mid now r s least cause same = record {
  later = omega (arith, least, cause.later);
  failed = λ e. omega (arith, least, cause.failed (same e));
}

-- an answer that is handed on is a failed device where it was one
pub failed_as : {T : Type 0} (r : Result T AreaFault) (why : AreaFault) → IsErrAnd r (λ x. x ≡ why) → r ≡ Err Failed → why ≡ Failed
failed_as (Ok x) why is failed = absurd is
failed_as (Err x) why is failed = let same : x ≡ Failed = cc in sym is ∙ same
