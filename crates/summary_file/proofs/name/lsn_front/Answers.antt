use Rattle.lsn_core.proofs.byte_words.Cutting.{none_anyway}
use Rattle.summary_file.proofs.Ranges.{no_low}
use Rattle.summary_file.proofs.name.lsn_front.Goals as goal

pub returns-in_err-low-clause-none : goal.returns-in_err-low-clause-none
returns-in_err-low-clause-none c =
    none_anyway c.from_residual-in_err-low.result _
    (no_low c.args.text.now c.in_ok-high.behind.now c.in_ok-high.high c.in_ok-high.ensures.found c.in_ok-high.ensures.small c.in_err-low.ensures.none)
