-- Between two looks at the fork of a block the block is redone.
use Rattle.generic_redo.specs.Redo.{ref_redone}
use Rattle.recovery.proofs.Redoing.{fork_redone}
use Rattle.recovery.proofs.Tallies.{ref_moved}
use Rattle.recovery.proofs.redo.redo_ref.Goals as goal

pub returns-clause-done : goal.returns-clause-done
returns-clause-done g c =
    fork_redone g.P.Pages.shows c.args.target.now c.blocks-2.new.self c.redo_block.new.target c.blocks-3.new.self c.in_ok-before.before c.in_ok-now.now c.args.tally.now c.recount.new.self c.args.fork.now
    (ref_redone c.args.entry.now c.args.i) (λ s next e. ref_moved c.args.entry.now c.args.i c.args.fork.now s next c.requires.block e)
    c.in_ok-before.ensures.blocks c.in_ok-before.ensures.same c.in_ok-redo_block.ensures.done c.in_ok-now.ensures.blocks c.in_ok-now.ensures.same c.in_ok-recount.ensures
