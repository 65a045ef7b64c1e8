use Rattle.scripts.proofs.Closed.{adds_none, adds_line}
use Rattle.scripts.proofs.taken.add_lines.Goals as goal

pub loop-line-init : goal.loop-line-init
loop-line-init c = adds_none c.args.names.now

pub loop-line-preserved : goal.loop-line-preserved
loop-line-preserved c =
    adds_line c.args.lines.now c.loop-line.line-index c.line-item.result c.args.names.now c.loop-line.names c.add_command.new.names c.loop-line-test.true c.line-item.is c.loop-line.invariant c.in_ok-add_command.ensures
