-- A run is copied: zeros, and over them the bytes that lie in it.
use Rattle.std.proofs.Common.{length, arith}
use Rattle.wal_follow.proofs.Areas.{copied_none, copied_some}
use Rattle.wal_follow.proofs.area.copy_run.Goals as goal

pub returns-then-start-end : goal.returns-then-start-end
returns-then-start-end c zeros fits =
    copied_some c.args.lead zeros c.args.from (length c.args.into.now) c.max-start.result c.min-end.result c.args.bytes.now c.clear.new.into c.part_of-piece.result.now c.overwrite.new.bytes
    fits (omega (arith, c.max-start.ensures)) (omega (arith, c.min-end.ensures)) (omega (arith, c.if-start-end.true)) c.clear.ensures c.part_of-piece.ensures c.overwrite.ensures

pub returns-else-start-end : goal.returns-else-start-end
returns-else-start-end c zeros fits =
    copied_none c.args.lead zeros c.args.from (length c.args.into.now) c.max-start.result c.min-end.result c.args.bytes.now c.clear.new.into
    fits (omega (arith, c.max-start.ensures)) (omega (arith, c.min-end.ensures)) (omega (arith, c.if-start-end.false)) c.clear.ensures
