-- The pieces so far and the next one.
use Rattle.std.proofs.Common.{rules, ◌≡◌, ◌+◌, ◌-◌, ◌<◌, ◌≤◌, length, ap, arith}
use Rattle.std.proofs.lemmas.List.{length-take, length-drop}
use Rattle.wal_writer.proofs.Tears.{leaves_on, leaves_longer, frame_on, frame_wider}
use Rattle.wal_writer.proofs.WritesOn.{writes_step, writes_all}
use Rattle.wal_writer.proofs.pieces.write_pieces.Goals as goal

pub returns-in_err-write_piece-clause-left : goal.returns-in_err-write_piece-clause-left
returns-in_err-write_piece-clause-left g c =
    let i = c.loop-rest.invariant in
    let some : 0 < length c.loop-rest.rest.now = search rules in
    let front : length c.cut.result.0.now ≤ length c.loop-rest.rest.now =
    omega (
      arith,
      ap length c.cut.ensures.front,
      length-take c.room_in-room.result
          c.loop-rest.rest.now,
    ) in
    leaves_longer c.args.size c.args.at (length c.args.bytes.now - length c.loop-rest.rest.now +
    length c.cut.result.0.now) (length c.args.bytes.now) (g.V.Vault.files c.args.area.now)
    (g.V.Vault.files c.write_piece.new.area) (omega (arith, front, i.short))
    (leaves_on c.args.size c.args.at c.loop-rest.from (length c.args.bytes.now - length
    c.loop-rest.rest.now) (length c.cut.result.0.now) (g.V.Vault.files c.args.area.now)
    (g.V.Vault.files c.loop-rest.area) (g.V.Vault.files c.write_piece.new.area)
    (omega (arith, i.whole some, i.short)) i.left c.write_piece.ensures.left)

pub write_piece-requires-clause-some : goal.write_piece-requires-clause-some
write_piece-requires-clause-some g c =
    let some : 0 < length c.loop-rest.rest.now = search rules in
    omega (
      arith,
      some,
      c.room_in-room.ensures.some,
      ap length c.cut.ensures.front,
      length-take c.room_in-room.result
          c.loop-rest.rest.now,
    )

pub returns-in_err-write_piece-clause-frame : goal.returns-in_err-write_piece-clause-frame
returns-in_err-write_piece-clause-frame g c =
    let i = c.loop-rest.invariant in
    let end = c.args.at + length c.args.bytes.now in
    let some : 0 < length c.loop-rest.rest.now = search rules in
    let front : length c.cut.result.0.now ≤ length c.loop-rest.rest.now =
    omega (
      arith,
      ap length c.cut.ensures.front,
      length-take c.room_in-room.result
          c.loop-rest.rest.now,
    ) in
    frame_on g.V.Vault c.args.size c.args.at end c.args.area.now c.loop-rest.area
    c.write_piece.new.area i.frame (frame_wider g.V.Vault c.args.size c.args.at c.loop-rest.from
    (c.loop-rest.from + length c.cut.result.0.now) end c.loop-rest.area c.write_piece.new.area
    i.behind (omega (arith, i.whole some, front)) c.write_piece.ensures.frame)

pub loop-rest-preserved : goal.loop-rest-preserved
loop-rest-preserved g c =
    let i = c.loop-rest.invariant in
    let end = c.args.at + length c.args.bytes.now in
    let some : 0 < length c.loop-rest.rest.now = search rules in
    let front : length c.cut.result.0.now ≤ length c.loop-rest.rest.now =
    omega (
      arith,
      ap length c.cut.ensures.front,
      length-take c.room_in-room.result
          c.loop-rest.rest.now,
    ) in
    let parts : length c.cut.result.0.now + length c.cut.result.1.now ≡ length c.loop-rest.rest.now
    = omega (
      arith,
      ap length c.cut.ensures.front,
      length-take c.room_in-room.result
          c.loop-rest.rest.now,
      ap length c.cut.ensures.rest,
      length-drop c.room_in-room.result
          c.loop-rest.rest.now,
    ) in
    let left = leaves_on c.args.size c.args.at c.loop-rest.from (length c.args.bytes.now - length
    c.loop-rest.rest.now) (length c.cut.result.0.now) (g.V.Vault.files c.args.area.now)
    (g.V.Vault.files c.loop-rest.area) (g.V.Vault.files c.write_piece.new.area)
    (omega (arith, i.whole some, i.short)) i.left c.write_piece.ensures.left in
    record {
      behind = omega (arith, i.behind);
      whole = λ more. omega (
        arith,
        i.whole some,
        ap length c.cut.ensures.rest,
        length-drop c.room_in-room.result c.loop-rest.rest.now,
        more,
      );
      on = writes_step c.args.size c.args.at c.args.bytes.now c.loop-rest.from c.loop-rest.rest.now
          (g.V.Vault.files c.args.area.now) (g.V.Vault.files c.loop-rest.area)
          (g.V.Vault.files c.write_piece.new.area) c.room_in-room.result c.cut.result.0.now
          c.cut.result.1.now
          c.room_in-room.ensures.room c.cut.ensures.front c.cut.ensures.rest
          c.in_ok-write_piece.ensures.written some i.on;
      left = leaves_longer c.args.size c.args.at (length c.args.bytes.now - length
          c.loop-rest.rest.now + length c.cut.result.0.now) (length c.args.bytes.now - length
          c.cut.result.1.now) (g.V.Vault.files c.args.area.now) (g.V.Vault.files
          c.write_piece.new.area) (omega (arith, parts, i.short)) left;
      short = omega (arith, parts, i.short);
      frame = frame_on g.V.Vault c.args.size c.args.at end c.args.area.now c.loop-rest.area
          c.write_piece.new.area i.frame (frame_wider g.V.Vault c.args.size c.args.at
          c.loop-rest.from (c.loop-rest.from + length c.cut.result.0.now) end c.loop-rest.area
          c.write_piece.new.area i.behind (omega (arith, i.whole some, front))
          c.write_piece.ensures.frame);
    }

pub returns-clause-written : goal.returns-clause-written
returns-clause-written g c =
    let none : length c.loop-rest.rest.now ≡ 0 = search rules in
    writes_all c.args.size c.args.at c.args.bytes.now c.loop-rest.from c.loop-rest.rest.now
    (g.V.Vault.files c.args.area.now) (g.V.Vault.files c.loop-rest.area) none
    c.loop-rest.invariant.on
