use Rattle.std.proofs.Common.{◌≡◌, ◌-◌, map}
use Rattle.std.specs.List.{list_all, range_with_len}
use Rattle.store_core.specs.Steps.{fork_blocks, is_settled}
use Rattle.core_machine.specs.Inside.{underway_in}
use Rattle.store_core.specs.InMemory.{published_in}
use Rattle.core_machine.proofs.backup.Underway.is_fork_settled.Given as goal

abbrev pub invariant-loop-block : goal.invariant-loop-block
invariant-loop-block l =
    list_all (is_settled l.relseg (map published_in l.sums) (underway_in l.self)) (map (λ block. record { fork = l.fork; block = block }) (range_with_len l.block (l.count - l.block)))
    ≡ list_all (is_settled l.relseg (map published_in l.sums) (underway_in l.self)) (fork_blocks l.self.copy l.fork)
