-- A write of a segment file changes no other file.
use Rattle.std.proofs.Common.{◌*◌}
use Rattle.rel_files.proofs.ForkFrames.{write_changes}
use Rattle.backup_restore.proofs.copying.write_piece.Goals as goal

pub returns-in-Ok-clause-kept : goal.returns-in-Ok-clause-kept
returns-in-Ok-clause-kept g c =
    let e = c.write_at.ensures in
    write_changes g.V.Vault c.args.path.now (c.from.result * 8192) c.args.piece.now c.args.out.now c.write_at.new.self c.write_at.result c.requires e.written e.memory e.failed e.noted e.tried e.cause.later

pub returns-in-Err-clause-kept : goal.returns-in-Err-clause-kept
returns-in-Err-clause-kept g c =
    let e = c.write_at.ensures in
    write_changes g.V.Vault c.args.path.now (c.from.result * 8192) c.args.piece.now c.args.out.now c.write_at.new.self c.write_at.result c.requires e.written e.memory e.failed e.noted e.tried e.cause.later
