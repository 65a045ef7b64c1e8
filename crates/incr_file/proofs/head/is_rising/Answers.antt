use Rattle.std.proofs.Common.{rules}
use Rattle.std.specs.Prelude.{nat_lt}
use Rattle.std.proofs.lemmas.Fn.{always_returns_same}
use Rattle.incr_file.proofs.Rising.{rising_answer}
use Rattle.incr_file.proofs.head.is_rising.Goals as goal

pub returns : goal.returns
returns c = rising_answer c.args.numbers.now c.is_sorted_by.result (c.is_sorted_by.ensures.cases nat_lt (always_returns_same _ _ _ (λ a r f k. search rules)))
