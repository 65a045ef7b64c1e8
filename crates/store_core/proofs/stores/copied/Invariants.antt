use Rattle.std.proofs.Common.{◌≡◌, take}
use Rattle.std.specs.FinMap.{empty}
use Rattle.store_core.specs.Steps.{with_forks}
use Rattle.store_core.proofs.stores.copied.Given as goal

-- the first forks are copied
abbrev pub invariant-loop-i : goal.invariant-loop-i
invariant-loop-i l = l.copy ≡ with_forks (λ pages. pages) l.from empty (take l.i l.forks.items)
