use Rattle.std.proofs.Common.{◌≡◌, None, drop}
use Rattle.store_core.specs.Refusals.{judged_edits, judged_items}
use Rattle.store_core.proofs.judge.judge_items.Given as goal

abbrev pub invariant-loop-at : goal.invariant-loop-at
invariant-loop-at l = record {
  same : judged_items l.entries l.at l.pages (drop l.at l.items) ≡ judged_items l.entries 0 l.fn.pages l.items;
  frags : judged_edits l.at (drop l.at l.items) ≡ None;
}
