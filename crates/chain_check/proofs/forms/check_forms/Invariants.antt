use Rattle.std.proofs.Common.{length, IfSome}
use Rattle.vault.specs.Frame.{OnlyReads}
use Rattle.chain_check.specs.Inside.{FormsLeft}
use Rattle.chain_check.proofs.forms.check_forms.Given as goal

-- each row so far has its form
abbrev pub invariant-loop-row : goal.invariant-loop-row
invariant-loop-row g l = record {
  reads : OnlyReads g.V.Vault l.fn.area l.area;
  left : IfSome (g.V.Vault.files l.fn.area) (λ m. FormsLeft m l.rows l.left);
}

abbrev pub decreases-loop-row : goal.decreases-loop-row
decreases-loop-row g l = length l.left
