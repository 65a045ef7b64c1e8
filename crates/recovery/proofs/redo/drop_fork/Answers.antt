-- Between two looks at the fork it is removed.
use Rattle.recovery.proofs.Redoing.{dropped_fork}
use Rattle.recovery.proofs.redo.drop_fork.Goals as goal

pub returns-clause-done : goal.returns-clause-done
returns-clause-done g c =
    dropped_fork g.P.Pages.shows c.args.target.now c.blocks-2.new.self c.remove.new.self c.blocks-3.new.self c.in_ok-before.before c.in_ok-now.now c.args.tally.now c.recount.new.self c.args.fork.now
    c.in_ok-before.ensures.blocks c.in_ok-before.ensures.same c.in_ok-remove.ensures.gone c.in_ok-now.ensures.blocks c.in_ok-now.ensures.same c.in_ok-recount.ensures
