use Rattle.std.proofs.Common.{◌≡◌, ◌-◌}
use Rattle.std.specs.Int.{w32}
use Rattle.lsn_core.specs.byte_words.Numbers.{number_at}
use Rattle.summary_file.specs.Inside.{many}
use Rattle.summary_file.proofs.Many.{after_many}
use Rattle.summary_file.proofs.reading.blocks_of.Given as goal

abbrev pub invariant-loop : goal.invariant-loop
invariant-loop l = many (number_at w32) l.count l.bytes ≡ after_many l.numbers.items (many (number_at w32) (l.count - l.counter) l.rest)
