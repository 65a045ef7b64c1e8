use Rattle.std.proofs.Common.{◌≡◌, ◌++◌, take}
use Rattle.incr_file.specs.Head.{numbers_bytes}
use Rattle.incr_file.proofs.encode.add_numbers.Given as goal

abbrev pub invariant-loop-number : goal.invariant-loop-number
invariant-loop-number l = l.bytes.items ≡ l.initial.bytes.items ++ numbers_bytes (take l.number-index l.numbers)
