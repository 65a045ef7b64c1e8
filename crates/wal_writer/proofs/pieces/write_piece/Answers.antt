-- A piece lies in its segment.
use Rattle.std.proofs.Common.{rules, ◌≡◌, ◌%◌, ◌/◌, ap}
use Rattle.lsn_core.specs.Segment.{segment_bytes}
use Rattle.lsn_core.specs.Names.{segment_name_bytes}
use Rattle.wal_writer.proofs.Tears.{IsSegmentPlace, segment_place, torn_by, piece_leaves, piece_frame}
use Rattle.wal_writer.proofs.pieces.write_piece.Goals as goal

pub returns-clause-left : goal.returns-clause-left
returns-clause-left g c =
    let some = c.bytes-bytes.ensures.some in
    let is : IsSegmentPlace c.args.size c.args.at = segment_place c.args.size c.args.at some
    c.requires.least c.requires.most in
    let named : c.as_bytes.result.now ≡ segment_name_bytes (c.args.at / segment_bytes c.args.size)
    c.args.size = search rules in
    let torn = torn_by c.as_bytes.result.now _ c.args.piece.now (g.V.Vault.files c.args.area.now)
    (g.V.Vault.files c.write_at.new.self) c.write_at.result c.write_at.ensures.written
    c.write_at.ensures.memory c.write_at.ensures.failed in
    piece_leaves c.args.size c.args.at _ c.as_bytes.result.now _ (g.V.Vault.files c.args.area.now)
    (g.V.Vault.files c.write_at.new.self) some is named (ap (λ n. c.args.at % n)
    c.bytes-bytes.ensures.bytes) torn

pub returns-clause-frame : goal.returns-clause-frame
returns-clause-frame g c =
    let some = c.bytes-bytes.ensures.some in
    let is : IsSegmentPlace c.args.size c.args.at = segment_place c.args.size c.args.at some
    c.requires.least c.requires.most in
    let named : c.as_bytes.result.now ≡ segment_name_bytes (c.args.at / segment_bytes c.args.size)
    c.args.size = search rules in
    let torn = torn_by c.as_bytes.result.now _ c.args.piece.now (g.V.Vault.files c.args.area.now)
    (g.V.Vault.files c.write_at.new.self) c.write_at.result c.write_at.ensures.written
    c.write_at.ensures.memory c.write_at.ensures.failed in
    piece_frame g.V.Vault c.args.size c.args.at c.as_bytes.result.now _ c.args.piece.now
    c.args.area.now c.write_at.new.self c.write_at.result is named (ap (λ n. c.args.at % n)
    c.bytes-bytes.ensures.bytes) c.requires.some torn c.write_at.ensures.noted
    c.write_at.ensures.tried c.write_at.ensures.cause.later
