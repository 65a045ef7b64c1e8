-- One name more.
use Rattle.std.proofs.Common.{arith}
use Rattle.wal_follow.proofs.Areas.{one_name_more}
use Rattle.wal_follow.proofs.area.segment_names.Goals as goal

pub loop-number-preserved : goal.loop-number-preserved
loop-number-preserved c = record {
  least = omega (arith, c.loop-number.invariant.least);
  names = one_name_more c.args.size c.loop-number.number c.loop-number.names.items c.in_ok-segment_name.field-0 c.push.new.self.items c.loop-number.invariant.least c.loop-number.invariant.names c.in_ok-segment_name.ensures c.in_ok-push.ensures.items;
}
