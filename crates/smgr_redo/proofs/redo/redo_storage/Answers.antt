use Rattle.std.proofs.Common.{sym, ◌∙◌}
use Rattle.std.proofs.lemmas.Result.{on_ok_weaker}
use Rattle.smgr_redo.proofs.Acts.{creation_redone, cut_redone, idle_redone, commit_redone}
use Rattle.smgr_redo.proofs.redo.redo_storage.Goals as goal

pub returns-then-cuts_main-clause-done : goal.returns-then-cuts_main-clause-done
returns-then-cuts_main-clause-done g c =
    on_ok_weaker c.cut.result
    (cut_redone g.P.Pages.shows c.args.target.now c.cut.new.self c.args.rec.now c.in-Truncate.rel c.in-Truncate.count c.in-Truncate.flags c.main_fork.result c.in-Truncate.is (sym c.cuts_main.ensures ∙ c.if-cuts_main.true) c.main_fork.ensures)
    c.cut.ensures.cut

pub returns-in-Create-clause-done : goal.returns-in-Create-clause-done
returns-in-Create-clause-done g c =
    on_ok_weaker c.make.result (creation_redone g.P.Pages.shows c.args.target.now c.make.new.self c.args.rec.now c.in-Create.fork c.in-Create.is) c.make.ensures.made

pub returns-else-cuts_main-clause-done : goal.returns-else-cuts_main-clause-done
returns-else-cuts_main-clause-done g c =
    idle_redone g.P.Pages.shows c.args.target.now c.args.rec.now c.in-Truncate.rel c.in-Truncate.count c.in-Truncate.flags c.in-Truncate.is (sym c.cuts_main.ensures ∙ c.if-cuts_main.false)

pub returns-in-Commit-clause-done : goal.returns-in-Commit-clause-done
returns-in-Commit-clause-done g c =
    on_ok_weaker c.drop_rels.result (commit_redone g.P.Pages.shows c.args.target.now c.drop_rels.new.target c.args.rec.now c.in-Commit.field-0 c.in-Commit.rels c.as_slice.result.now c.in-Commit.is c.as_slice.ensures) c.drop_rels.ensures.done
