use Rattle.std.proofs.lemmas.Result.{on_ok_weaker}
use Rattle.smgr_redo.proofs.Acts.{rel_turned}
use Rattle.smgr_redo.proofs.redo.drop_rel.Goals as goal

pub returns-clause-done : goal.returns-clause-done
returns-clause-done g c =
    on_ok_weaker c.remove-2.result
    (rel_turned g.P.Pages.shows c.args.target.now c.remove.new.self c.remove-2.new.self c.args.rel c.main_fork.result c.init_fork.result c.main_fork.ensures c.init_fork.ensures c.in_ok-remove.ensures.gone)
    c.remove-2.ensures.gone
