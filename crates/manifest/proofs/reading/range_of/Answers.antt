use Rattle.std.proofs.Common.{List, ℕ, arith, sym, subst, ◌∙◌}
use Rattle.std.proofs.lemmas.Map.Keys.{ge_from_not_lt}
use Rattle.lsn_core.proofs.byte_words.Cutting.{none_anyway}
use Rattle.lsn_core.specs.Names.{IsLsnText}
use Rattle.lsn_core.proofs.LsnTexts.{one_lsn}
use Rattle.manifest.proofs.reading.range_of.Goals as goal

pub returns-in_err-start-clause-none : goal.returns-in_err-start-clause-none
returns-in_err-start-clause-none c =
    none_anyway c.from_residual.result _ (λ start end is. c.in_err-start.ensures.none start (subst (λ (t : List ℕ). IsLsnText t start) (sym c.as_bytes.ensures) is.start_text))

pub returns-in_err-end-clause-none : goal.returns-in_err-end-clause-none
returns-in_err-end-clause-none c =
    none_anyway c.from_residual-in_err-end.result _ (λ start end is. c.in_err-end.ensures.none end (subst (λ (t : List ℕ). IsLsnText t end) (sym c.as_bytes-2.ensures) is.end_text))

pub returns-else-lt-clause-none : goal.returns-else-lt-clause-none
returns-else-lt-clause-none c = λ start end is.
    let first = one_lsn c.as_bytes.result.now c.in_ok-start.start.0 start c.in_ok-start.ensures.found (subst (λ (t : List ℕ). IsLsnText t start) (sym c.as_bytes.ensures) is.start_text) in
    let second = one_lsn c.as_bytes-2.result.now c.in_ok-end.end.0 end c.in_ok-end.ensures.found (subst (λ (t : List ℕ). IsLsnText t end) (sym c.as_bytes-2.ensures) is.end_text) in
    let falls = ge_from_not_lt c.in_ok-start.start.0 c.in_ok-end.end.0 (sym c.lt.ensures ∙ c.if-lt.false) in
    omega (arith, first, second, is.rises, falls)
