-- Between two looks at the fork it is created or cut.
use Rattle.std.proofs.Common.{map}
use Rattle.history.specs.Redo.{redo}
use Rattle.history.specs.Whole.{item_of}
use Rattle.recovery.proofs.Redoing.{fork_redone}
use Rattle.recovery.proofs.Tallies.{act_moved}
use Rattle.recovery.proofs.redo.redo_fork.Goals as goal

pub returns-clause-done : goal.returns-clause-done
returns-clause-done g c =
    fork_redone g.P.Pages.shows c.args.target.now c.blocks-2.new.self c.redo_storage.new.target c.blocks-3.new.self c.in_ok-before.before c.in_ok-now.now c.args.tally.now c.recount.new.self c.args.fork.now
    (λ s. redo s c.args.entry.now) (λ s next e. act_moved c.args.entry.now.end.0 s next (map item_of) c.args.entry.now.kind c.args.fork.now c.requires e)
    c.in_ok-before.ensures.blocks c.in_ok-before.ensures.same c.in_ok-redo_storage.ensures.done c.in_ok-now.ensures.blocks c.in_ok-now.ensures.same c.in_ok-recount.ensures
