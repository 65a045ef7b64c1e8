use Rattle.std.proofs.Common.{IfSome, length}
use Rattle.vault.specs.Frame.{OnlyReads}
use Rattle.wal_summary.specs.Kept.{AreInOrder}
use Rattle.summary_store.proofs.Keeping.{IsSoFar}
use Rattle.summary_store.proofs.opening.kept_in.Given as goal

abbrev pub invariant-loop-name : goal.invariant-loop-name
invariant-loop-name g l = record {
  kept : IfSome (g.V.Vault.files l.fn.area) (λ m. IsSoFar m l.left l.sums.items);
  order : AreInOrder 0 l.sums.items;
  reads : OnlyReads g.V.Vault l.fn.area l.area;
}

abbrev pub decreases-loop-name : goal.decreases-loop-name
decreases-loop-name g l = length l.left
