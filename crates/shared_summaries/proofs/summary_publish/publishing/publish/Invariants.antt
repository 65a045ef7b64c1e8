use Rattle.std.proofs.Common.{◌≡◌, true, ◌≤◌, ◌-◌, ◌^◌, length}
use Rattle.history.specs.fuzzy_copies.Orderly.{IsOrderly}
use Rattle.vault.specs.Frame.{ChangesOnly}
use Rattle.summary_store.specs.Expiry.{IsSummaryName}
use Rattle.shared_summaries.specs.summary_publish.Published.{LooksOn}
use Rattle.shared_summaries.specs.summary_publish.Inside.{CanStart, PublishesTo}
use Rattle.shared_summaries.proofs.summary_publish.publishing.publish.Given as goal

abbrev pub invariant-loop-sum : goal.invariant-loop-sum
invariant-loop-sum g l = record {
  to : PublishesTo g.V.Vault (g.J.OfStore.tells ≡ true) l.pass.list l.fn.first.0 l.when l.fn.area l.area l.fn.kept.items l.kept.items l.at.0;
  orderly : g.J.OfStore.tells ≡ true → IsOrderly 0 l.pass.list;
  start : g.J.OfStore.tells ≡ true → CanStart l.pass.list l.at.0 l.known.0;
  later : g.V.Vault.faults l.fn.area ≤ g.V.Vault.faults l.area;
  changes : ChangesOnly g.V.Vault IsSummaryName l.fn.area l.area;
  looks : LooksOn l.fn.pass l.pass;
  faults : l.pass.faults ≡ l.fn.pass.faults;
  few : length l.fn.kept.items ≤ length l.kept.items;
}

abbrev pub decreases-loop-sum : goal.decreases-loop-sum
decreases-loop-sum g l = 2 ^ 64 - l.at.0
