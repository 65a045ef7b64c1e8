use Rattle.std.proofs.Common.{◌≡◌}
use Rattle.incr_file.specs.Reading.{block_numbers}
use Rattle.incr_file.proofs.decode.block_numbers.Given as goal

abbrev pub invariant-loop-i : goal.invariant-loop-i
invariant-loop-i l = l.numbers.items ≡ block_numbers l.bytes l.i
