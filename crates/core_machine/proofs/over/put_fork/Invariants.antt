use Rattle.std.proofs.Common.{◌≡◌, take}
use Rattle.std.specs.FinMap.{insert}
use Rattle.store_core.specs.Increments.{pages_over}
use Rattle.core_machine.proofs.over.put_fork.Given as goal

-- the first blocks are put
abbrev pub invariant-loop-block : goal.invariant-loop-block
invariant-loop-block l = l.store ≡ insert l.fn.store l.fork (take l.block (pages_over l.sent l.copy l.prior l.fork))
