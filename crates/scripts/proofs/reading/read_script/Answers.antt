use Rattle.std.proofs.Common.{subst, sym}
use Rattle.scripts.specs.Script.{IsScript}
use Rattle.scripts.proofs.SoFar.{more, refused_answer, done}
use Rattle.scripts.proofs.reading.read_script.Goals as goal

pub loop-at-preserved : goal.loop-at-preserved
loop-at-preserved c = (
  more c.args.workers c.args.bytes.now c.loop-at.at c.loop-at.number c.loop-at.draft.tasks.items c.loop-at.invariant.0 c.line_at-end.result.0.now c.line_at-end.result.1 c.line_at-end.ensures
      c.in-Ok.ensures.0 c.read_line.new.draft.tasks.items c.in-Ok.ensures.1.tasks,
  c.in-Ok.ensures.1.knows,
)

pub returns-in-Err : goal.returns-in-Err
returns-in-Err c =
    refused_answer c.args.workers c.args.bytes.now c.loop-at.at c.loop-at.number c.loop-at.draft c.read_line.new.draft c.loop-at.invariant.0 c.line_at-end.result.0.now c.line_at-end.result.1 c.line_at-end.ensures
    c.in-Err.fault c.in-Err.ensures

pub returns : goal.returns
returns c =
    subst (IsScript c.args.workers c.args.bytes.now) (sym c.from_vec.ensures)
    (done c.args.workers c.args.bytes.now c.loop-at.at c.loop-at.number c.loop-at.draft.tasks.items c.loop-at.invariant.0 c.loop-at-test.false)
