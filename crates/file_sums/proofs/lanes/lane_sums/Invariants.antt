use Rattle.std.proofs.Common.{IfSome}
use Rattle.vault.specs.Frame.{OnlyReads}
use Rattle.file_sums.specs.LaneSums.{IsHashing}
use Rattle.file_sums.proofs.lanes.lane_sums.Given as goal

abbrev pub invariant-loop : goal.invariant-loop
invariant-loop g l = record {
  reads : OnlyReads g.V.Vault l.fn.area l.area;
  hashing : IfSome (g.V.Vault.files l.fn.area) (λ m. IsHashing m l.rows l.hashing);
}
