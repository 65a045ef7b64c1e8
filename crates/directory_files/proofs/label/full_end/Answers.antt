use Rattle.std.proofs.Common.{refl, arith}
use Rattle.directory_files.specs.Labels.{first_lines, lines_behind}
use Rattle.directory_files.proofs.Labels.{line_step, behind_step, behind_past}
use Rattle.directory_files.proofs.label.full_end.Goals as goal

pub loop-left-preserved : goal.loop-left-preserved
loop-left-preserved c = record {
  within = omega arith;
  front = line_step c.args.text.now c.loop-left.left c.loop-left.at _ c.lines_ended-left.result (first_lines 7 c.args.text.now) (omega arith) (omega arith) refl c.lines_ended-left.ensures c.loop-left.invariant.front;
  behind = behind_step c.args.text.now c.loop-left.left c.loop-left.at _ c.lines_ended-left.result (lines_behind 7 c.args.text.now) (omega arith) (omega arith) refl c.lines_ended-left.ensures c.loop-left.invariant.behind;
}

pub returns-else-at-text-clause-behind : goal.returns-else-at-text-clause-behind
returns-else-at-text-clause-behind c = behind_past c.args.text.now c.loop-left.left c.loop-left.at (omega (arith, c.if-at-text.false)) c.loop-left.invariant.behind
