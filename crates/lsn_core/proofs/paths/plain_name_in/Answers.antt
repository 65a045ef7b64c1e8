use Rattle.lsn_core.proofs.byte_words.Cutting.{none_anyway}
use Rattle.lsn_core.proofs.ForkPaths.{no_plain_name}
use Rattle.lsn_core.proofs.paths.plain_name_in.Goals as goal

pub returns-in_err-kind-clause-none : goal.returns-in_err-kind-clause-none
returns-in_err-kind-clause-none c = none_anyway c.from_residual-in_err-kind.result _ (no_plain_name c.args.name.now c.in_ok-rel.tail.now c.in_ok-rel.rel c.in_ok-rel.ensures.found c.in_ok-rel.ensures.small c.in_err-kind.ensures.none)
