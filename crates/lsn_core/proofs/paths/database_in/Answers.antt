use Rattle.lsn_core.proofs.byte_words.Cutting.{none_anyway}
use Rattle.lsn_core.proofs.ForkPaths.{no_folder}
use Rattle.lsn_core.proofs.paths.database_in.Goals as goal

pub returns-in_err-behind_prefix-2-clause-none : goal.returns-in_err-behind_prefix-2-clause-none
returns-in_err-behind_prefix-2-clause-none c =
    none_anyway c.from_residual-in_err-behind_prefix-2.result _
    (no_folder c.args.path.now c.in_ok-behind_prefix.field-0.now c.in_ok-db.behind.now c.in_ok-db.db c.in_ok-behind_prefix.ensures.found c.in_ok-db.ensures.found c.in_ok-db.ensures.small c.in_err-behind_prefix-2.ensures.none)
