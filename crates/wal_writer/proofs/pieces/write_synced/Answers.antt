-- A sync behind the pieces.
use Rattle.std.proofs.Common.{◌+◌, length}
use Rattle.wal_writer.proofs.Tears.{frame_on, frame_sync}
use Rattle.wal_writer.proofs.pieces.write_synced.Goals as goal

pub returns-clause-frame : goal.returns-clause-frame
returns-clause-frame g c =
    let end = c.args.at + length c.args.bytes.now in
    frame_on g.V.Vault c.args.size c.args.at end c.args.area.now c.write_pieces.new.area
    c.sync.new.self c.write_pieces.ensures.frame (frame_sync g.V.Vault c.args.size c.args.at end
    c.write_pieces.new.area c.sync.new.self c.sync.result c.sync.ensures.same
    c.sync.ensures.noted c.sync.ensures.tried c.sync.ensures.cause.later)
