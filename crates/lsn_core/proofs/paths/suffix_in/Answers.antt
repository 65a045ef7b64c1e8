use Rattle.std.proofs.Common.{arith, inl, inr}
use Rattle.lsn_core.proofs.ForkPaths.{no_suffix}
use Rattle.lsn_core.proofs.paths.suffix_in.Goals as goal

pub returns-then-number-eq0-clause-none : goal.returns-then-number-eq0-clause-none
returns-then-number-eq0-clause-none c =
    no_suffix c.args.text.now c.in_ok-behind_prefix.field-0.now c.in_ok-number.number c.in_ok-behind_prefix.ensures.found c.in_ok-number.ensures.found c.in_ok-number.ensures.small (λ small. elim c.then-number-eq0.either [ inl z ↦ z | inr out ↦ absurd (omega (arith, out.1, small)) ])
