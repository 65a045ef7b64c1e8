use Rattle.std.proofs.Common.{◌≡◌, ◌+◌, length, IfSome}
use Rattle.vault.specs.Frame.{OnlyReads}
use Rattle.chain_check.proofs.Sized.{Left}
use Rattle.chain_check.proofs.rows.check_each.Given as goal

-- no row so far has a fault, and so many there are
abbrev pub invariant-loop-row : goal.invariant-loop-row
invariant-loop-row g l = record {
  buffer : length l.buffer ≡ length l.fn.buffer;
  reads : OnlyReads g.V.Vault l.fn.area l.area;
  count : l.checked + length l.left ≡ length l.rows;
  left : IfSome (g.V.Vault.files l.fn.area) (λ m. Left m l.rows l.known l.left l.checked);
}

abbrev pub decreases-loop-row : goal.decreases-loop-row
decreases-loop-row g l = length l.left
