use Rattle.std.proofs.Common.{sym, ◌∙◌}
use Rattle.std.specs.Cmp.Lexicographic.{other_text}
use Rattle.lsn_core.proofs.byte_words.Cutting.{none_anyway}
use Rattle.summary_file.proofs.Ranges.{no_end, no_suffix}
use Rattle.summary_file.proofs.name.range_in.Goals as goal

pub returns-in_err-end-clause-none : goal.returns-in_err-end-clause-none
returns-in_err-end-clause-none c =
    none_anyway c.from_residual-in_err-end.result _
    (no_end c.args.name.now c.in_ok-behind_prefix.field-0.now c.in_ok-start.behind.now c.in_ok-start.start c.in_ok-behind_prefix.ensures.found c.in_ok-start.ensures.found c.in_ok-start.ensures.small c.in_err-end.ensures.none)

pub returns-else-eq-clause-none : goal.returns-else-eq-clause-none
returns-else-eq-clause-none c =
    no_suffix c.args.name.now c.in_ok-behind_prefix.field-0.now c.in_ok-start.behind.now c.in_ok-end.behind.now c.in_ok-start.start c.in_ok-end.end c.in_ok-behind_prefix.ensures.found c.in_ok-start.ensures.found c.in_ok-start.ensures.small c.in_ok-end.ensures.found c.in_ok-end.ensures.small
    (λ same. other_text c.in_ok-end.behind.now c.as_slice.result.now c.if-eq.ensures (same ∙ sym c.as_slice.ensures))
