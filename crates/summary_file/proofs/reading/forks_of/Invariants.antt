use Rattle.std.proofs.Common.{◌≡◌, ◌-◌}
use Rattle.summary_file.specs.Inside.{many, fork_at}
use Rattle.summary_file.proofs.Many.{after_many}
use Rattle.summary_file.proofs.reading.forks_of.Given as goal

abbrev pub invariant-loop : goal.invariant-loop
invariant-loop l = many (fork_at) l.count l.bytes ≡ after_many l.forks.items (many (fork_at) (l.count - l.counter) l.rest)
