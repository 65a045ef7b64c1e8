use Rattle.std.proofs.Common.{rules, arith}
use Rattle.incr_file.proofs.Numbers.{written_more}
use Rattle.incr_file.proofs.encode.add_numbers.Goals as goal

pub loop-number-preserved : goal.loop-number-preserved
loop-number-preserved c =
    written_more c.args.numbers.now c.args.bytes.now.items c.loop-number.bytes.items c.extend_from_slice.new.self.items c.loop-number.number-index (omega arith) (search rules) c.loop-number.invariant
