use Rattle.std.proofs.Common.{◌≡◌, true}
use Rattle.wal_writer.specs.declared.state.Flushed.{Flushed}
use Rattle.store_locks.specs.declared.receipt.Redo.{Redo}
use Rattle.crew.proofs.Marks.{redone, not_redone}
use Rattle.crew.proofs.run.checkpoint.Goals as goal

pub returns-in-Ok : goal.returns-in-Ok
returns-in-Ok g c =
    redone (g.J.OfStore.tells ≡ true) g.J.OfCrew.settings c.args.pass.now c.checkpoint.new.pass c.in-Ok.redo c.in-Ok.field-0-1 c.in-Ok.ensures.done c.checkpoint.ensures.seen c.checkpoint.ensures.accepted c.checkpoint.ensures.marks c.in-Ok.ensures.faults

pub returns-in-Err : goal.returns-in-Err
returns-in-Err g c = not_redone (Redo × Flushed) (g.J.OfStore.tells ≡ true) g.J.OfCrew.settings c.args.pass.now c.checkpoint.new.pass c.in-Err.fault c.in-Err.ensures.full c.in-Err.ensures.faults c.checkpoint.ensures.seen c.checkpoint.ensures.accepted c.checkpoint.ensures.marks
