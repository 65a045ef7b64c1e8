use Rattle.std.proofs.Common.{◌≡◌, take}
use Rattle.std.specs.FinMap.{insert}
use Rattle.lsn_core.specs.Blocks.{pages_of}
use Rattle.store_core.proofs.stores.copy_fork.Given as goal

-- the first blocks are copied
abbrev pub invariant-loop-block : goal.invariant-loop-block
invariant-loop-block l = l.copy ≡ insert l.fn.copy l.fork (take l.block (pages_of l.from l.fork))
