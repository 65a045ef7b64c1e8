use Rattle.std.proofs.Common.{◌≡◌, map, drop}
use Rattle.std.specs.List.{list_all, flat_map}
use Rattle.store_core.specs.Steps.{fork_blocks, is_settled}
use Rattle.core_machine.specs.Inside.{underway_in}
use Rattle.store_core.specs.InMemory.{published_in}
use Rattle.core_machine.proofs.backup.Underway.are_settled.Given as goal

abbrev pub invariant-loop-i : goal.invariant-loop-i
invariant-loop-i l =
    list_all (is_settled l.relseg (map published_in l.sums) (underway_in l.self)) (flat_map (fork_blocks l.self.copy) (drop l.i l.forks.items))
    ≡ list_all (is_settled l.relseg (map published_in l.sums) (underway_in l.self)) (flat_map (fork_blocks l.self.copy) l.forks.items)
