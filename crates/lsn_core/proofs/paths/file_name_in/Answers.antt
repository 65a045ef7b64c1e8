use Rattle.lsn_core.proofs.byte_words.Cutting.{none_anyway}
use Rattle.lsn_core.proofs.ForkPaths.{no_file_name}
use Rattle.lsn_core.proofs.paths.file_name_in.Goals as goal

pub returns-in_err-rel-clause-none : goal.returns-in_err-rel-clause-none
returns-in_err-rel-clause-none c =
    none_anyway c.from_residual.result _ (no_file_name c.args.name.now c.without_prefix-incr.result.1.now c.without_prefix-incr.result.0 c.without_prefix-incr.ensures.parts c.without_prefix-incr.ensures.plain c.in_err-rel.ensures.none)
