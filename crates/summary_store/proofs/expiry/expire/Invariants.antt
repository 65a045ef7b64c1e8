use Rattle.std.proofs.Common.{◌≡◌, ◌≤◌, length, take, drop}
use Rattle.vault.specs.Frame.{ChangesOnly}
use Rattle.summary_store.specs.Expiry.{IsSummaryName}
use Rattle.summary_store.specs.Inside.{ExpiresSoFar}
use Rattle.summary_store.proofs.expiry.expire.Given as goal

abbrev pub invariant-loop-at : goal.invariant-loop-at
invariant-loop-at g l = record {
  behind : l.left ≤ l.at;
  long : length l.kept.items ≡ length l.fn.kept.items;
  so_far : ExpiresSoFar g.V.Vault l.limit l.fn.area l.area l.fn.kept.items (take l.left l.kept.items) (drop l.at l.kept.items) l.fault;
  changes : ChangesOnly g.V.Vault IsSummaryName l.fn.area l.area;
}
