use Rattle.std.proofs.Common.{IfSome}
use Rattle.vault.specs.Frame.{OnlyReads}
use Rattle.file_sums.specs.LaneSums.{IsHashing}
use Rattle.file_sums.proofs.lanes.turn.Given as goal

abbrev pub invariant-loop-lane : goal.invariant-loop-lane
invariant-loop-lane g l = record {
  reads : OnlyReads g.V.Vault l.fn.area l.area;
  hashing : IfSome (g.V.Vault.files l.fn.area) (λ m. IsHashing m l.rows l.fn.hashing → IsHashing m l.rows l.hashing);
}
