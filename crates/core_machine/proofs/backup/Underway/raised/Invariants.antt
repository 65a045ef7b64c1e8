use Rattle.std.proofs.Common.{◌≡◌, map, take}
use Rattle.std.specs.FinMap.{empty}
use Rattle.store_core.specs.Increments.{table_between, with_pages, raised_pages}
use Rattle.store_core.specs.InMemory.{published_in}
use Rattle.core_machine.proofs.backup.Underway.raised.Given as goal

-- the first forks are raised
abbrev pub invariant-loop-i : goal.invariant-loop-i
invariant-loop-i l =
    l.copy ≡ with_pages (raised_pages l.relseg (table_between (map published_in l.sums) l.prior.start.0 l.self.start.0) l.prior.copy l.self.copy) empty (take l.i l.forks.items)
