use Rattle.std.proofs.Common.{◌≡◌, take}
use Rattle.std.specs.FinMap.{empty}
use Rattle.store_core.specs.Increments.{with_pages, pages_over}
use Rattle.core_machine.proofs.over.copy_over.Given as goal

-- the first forks are put
abbrev pub invariant-loop-i : goal.invariant-loop-i
invariant-loop-i l = l.store ≡ with_pages (pages_over l.sent l.copy l.prior) empty (take l.i l.forks.items)
