-- Each entry that the cursor gives carries the piece on.
use Rattle.std.proofs.Common.{◌<◌, List, length, sym, subst, arith}
use Rattle.wal_record.specs.declared.record.Record.{Record}
use Rattle.wal_reader.proofs.wal_pieces.Piecing.{HasPiece, next_read}
use Rattle.wal_reader.proofs.wal_pieces.piece.read_piece.Goals as goal

pub loop-alloc-preserved : goal.loop-alloc-preserved
loop-alloc-preserved g c =
    let room : length c.loop-alloc.entries.items < c.args.most = omega (arith, c.len.ensures) in
    subst (λ (rs : List Record). HasPiece g.V.Vault c.args.settings.now c.args.from.0 c.args.upto c.args.most c.args.area.now c.next_before.new.area c.next_before.new.cursor rs) (sym c.in_ok-add-in-Ok-Some.ensures)
    (next_read g.V.Vault c.args.settings.now c.args.from.0 c.args.most c.args.upto c.args.area.now c.loop-alloc.area c.next_before.new.area c.loop-alloc.cursor c.next_before.new.cursor c.loop-alloc.entries.items c.in-Ok-Some.entry c.loop-alloc.invariant room
    (rw c.in-Ok-Some.field-0-is at c.in-Ok-Some.ensures.answer) c.in-Ok-Some.ensures.reads)
