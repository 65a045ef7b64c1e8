use Rattle.std.proofs.Common.{◌≡◌, None, drop}
use Rattle.store_core.specs.InMemory.{done_items}
use Rattle.store_core.specs.Refusals.{judged_edits}
use Rattle.store_core.proofs.judge.do_items.Given as goal

abbrev pub invariant-loop-at : goal.invariant-loop-at
invariant-loop-at l = record {
  same : done_items l.end l.pages (drop l.at l.items) ≡ done_items l.end l.fn.pages l.items;
  frags : judged_edits l.at (drop l.at l.items) ≡ None;
}
