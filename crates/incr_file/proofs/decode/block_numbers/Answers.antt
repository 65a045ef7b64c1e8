use Rattle.std.proofs.Common.{◌∙◌, sym, rules}
use Rattle.incr_file.proofs.Numbers.{numbers_none, numbers_more}
use Rattle.incr_file.proofs.decode.block_numbers.Goals as goal

pub loop-i-init : goal.loop-i-init
loop-i-init c = c.in_ok-numbers.ensures.items ∙ sym (numbers_none c.args.bytes.now)

pub loop-i-preserved : goal.loop-i-preserved
loop-i-preserved c = rw (numbers_more c.args.bytes.now c.loop-i.i) (search rules)
