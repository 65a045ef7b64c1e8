use Rattle.std.proofs.Common.{◌≡◌, ◌+◌, [], true, refl, arith}
use Rattle.backup_sending.specs.Backup.{site_of}
use Rattle.backup_sending.proofs.Copying.{area_failed, step_failed}
use Rattle.backup_files.proofs.Kept.{spares_write}
use Rattle.backup_sending.proofs.Steps.{copies_area, copies_on, looks_still, redo_on}
use Rattle.backup_sending.proofs.Contents.{begun, further, file_written_whole}
use Rattle.backup_sending.proofs.files.copy_file.Goals as goal

pub returns-in_err-write_at-clause-copies_on : goal.returns-in_err-write_at-clause-copies_on
returns-in_err-write_at-clause-copies_on g c =
    copies_area g.V.Vault c.args.pass.now c.args.out.now c.write_at.new.self
    (spares_write g.V.Vault c.args.out.now c.write_at.new.self c.args.path.now [] 0 c.write_at.result c.requires.other c.write_at.ensures.written c.write_at.ensures.memory c.write_at.ensures.failed c.write_at.ensures.cause)

pub returns-in_err-write_at-clause-cause : goal.returns-in_err-write_at-clause-cause
returns-in_err-write_at-clause-cause g c =
    area_failed g.V.Vault c.args.pass.now c.args.pass.now c.args.out.now c.write_at.new.self c.from_residual.result c.in_err-write_at.field-0.0 (looks_still c.args.pass.now)
    c.from_residual.ensures.1 c.in_err-write_at.ensures.cause

pub loop-done-init : goal.loop-done-init
loop-done-init g c = record {
  within = omega arith;
  step = copies_area g.V.Vault c.args.pass.now c.args.out.now c.write_at.new.self
      (spares_write g.V.Vault c.args.out.now c.write_at.new.self c.args.path.now [] 0 c.write_at.result c.requires.other c.write_at.ensures.written c.write_at.ensures.memory c.write_at.ensures.failed c.write_at.ensures.cause);
  far = begun (g.J.OfStore.tells ≡ true) c.args.pass.now.list c.args.from.0 c.args.fork.now c.args.block c.args.path.now (g.V.Vault.files c.args.out.now) (g.V.Vault.files c.write_at.new.self) c.new-hasher.result c.requires.missing c.in_ok-write_at.ensures.written c.new-hasher.ensures;
}

pub copy_piece-requires-clause-redo : goal.copy_piece-requires-clause-redo
copy_piece-requires-clause-redo g c = λ κs lives. redo_on c.args.pass.now c.loop-done.pass c.args.from.0 c.loop-done.invariant.step.looks c.requires.redo

pub loop-done-preserved : goal.loop-done-preserved
loop-done-preserved g c = record {
  within = omega arith;
  step = copies_on g.V.Vault (site_of c.args.pass.now c.args.out.now) (site_of c.loop-done.pass c.loop-done.out) (site_of c.copy_piece.new.pass c.copy_piece.new.out) c.loop-done.invariant.step
      c.copy_piece.ensures.copies_on;
  far = further (g.J.OfStore.tells ≡ true) c.loop-done.pass.list c.copy_piece.new.pass.list c.args.from.0 c.args.fork.now c.args.block (c.args.block + c.loop-done.done) c.loop-done.done c.min-step.result (c.loop-done.done + c.min-step.result) c.args.path.now
      (g.V.Vault.files c.args.out.now) (g.V.Vault.files c.loop-done.out) (g.V.Vault.files c.copy_piece.new.out) c.loop-done.hasher c.copy_piece.new.hasher refl refl c.copy_piece.ensures.copies_on.looks.stays.seen c.loop-done.invariant.far c.in_ok-copy_piece.ensures.added;
}

pub returns-in_err-copy_piece-clause-copies_on : goal.returns-in_err-copy_piece-clause-copies_on
returns-in_err-copy_piece-clause-copies_on g c =
    copies_on g.V.Vault (site_of c.args.pass.now c.args.out.now) (site_of c.loop-done.pass c.loop-done.out) (site_of c.copy_piece.new.pass c.copy_piece.new.out) c.loop-done.invariant.step
    c.copy_piece.ensures.copies_on

pub returns-in_err-copy_piece-clause-cause : goal.returns-in_err-copy_piece-clause-cause
returns-in_err-copy_piece-clause-cause g c =
    step_failed g.V.Vault (site_of c.args.pass.now c.args.out.now) (site_of c.loop-done.pass c.loop-done.out) (site_of c.copy_piece.new.pass c.copy_piece.new.out) c.from_residual-in_err-copy_piece.result
    c.in_err-copy_piece.field-0.0 c.loop-done.invariant.step c.from_residual-in_err-copy_piece.ensures.1 c.in_err-copy_piece.ensures.cause

pub returns-clause-copied : goal.returns-clause-copied
returns-clause-copied g c =
    file_written_whole (g.J.OfStore.tells ≡ true) c.loop-done.pass.list c.args.from.0 c.args.fork.now c.args.block c.loop-done.done c.args.count c.args.path.now (g.V.Vault.files c.args.out.now) (g.V.Vault.files c.loop-done.out) c.loop-done.hasher c.finalize.result
    (omega arith) c.loop-done.invariant.far c.finalize.ensures
