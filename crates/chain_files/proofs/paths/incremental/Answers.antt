-- The path is cut at its last slash.
use Rattle.std.proofs.Common.{◌∙◌, sym}
use Rattle.chain_files.proofs.Placed.{none_if, other_last, other_folder, other_name}
use Rattle.chain_files.proofs.paths.incremental.Goals as goal

pub returns-in_err-name-clause-none : goal.returns-in_err-name-clause-none
returns-in_err-name-clause-none c =
    none_if c.from_residual-in_err-name.result _ (other_last c.args.path.now c.in_ok-folder.folder.now c.in_ok-folder.last.now c.in_ok-folder.ensures.parts c.in_ok-folder.ensures.last c.in_err-name.ensures.none)

pub returns-then-not-is_relation_folder-clause-none : goal.returns-then-not-is_relation_folder-clause-none
returns-then-not-is_relation_folder-clause-none c =
    other_folder c.args.path.now c.in_ok-folder.folder.now c.in_ok-folder.last.now c.in_ok-folder.ensures.parts c.in_ok-folder.ensures.last (sym c.is_relation_folder.ensures ∙ c.if-not-is_relation_folder.true)

pub returns-then-is_odd_name-clause-none : goal.returns-then-is_odd_name-clause-none
returns-then-is_odd_name-clause-none c =
    other_name c.args.path.now c.in_ok-folder.folder.now c.in_ok-folder.last.now c.in_ok-name.name.now c.in_ok-folder.ensures.parts c.in_ok-folder.ensures.last c.in_ok-name.ensures.found (sym c.is_odd_name.ensures ∙ c.if-is_odd_name.true)
