use Rattle.std.proofs.Common.{◌≡◌, ◌+◌, length, take, drop, IfSome}
use Rattle.std.specs.List.{AllByRecursion}
use Rattle.vault.specs.Frame.{OnlyReads}
use Rattle.chain_check.specs.Sizes.{IsSized}
use Rattle.chain_check.proofs.rows.sized_rows.Given as goal

-- each row so far has its size
abbrev pub invariant-loop-row : goal.invariant-loop-row
invariant-loop-row g l = record {
  reads : OnlyReads g.V.Vault l.fn.area l.area;
  count : l.sized + length l.left ≡ length l.rows;
  left : l.left ≡ drop l.sized l.rows;
  before : IfSome (g.V.Vault.files l.fn.area) (λ m. AllByRecursion (IsSized m) (take l.sized l.rows));
}

abbrev pub decreases-loop-row : goal.decreases-loop-row
decreases-loop-row g l = length l.left
