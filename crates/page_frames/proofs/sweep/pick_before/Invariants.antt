use Rattle.std.proofs.Common.{◌≡◌, ◌≤◌, ◌++◌, take, length}
use Rattle.page_frames.proofs.Sweeping.{goers}
use Rattle.page_frames.proofs.sweep.pick_before.Given as goal

abbrev pub invariant-loop-at : goal.invariant-loop-at
invariant-loop-at l = record {
  few : length l.few ≤ l.count;
  rest : take l.count (l.few ++ goers l.apart l.used l.at-iterator) ≡ take l.count (l.fn.few ++ goers l.apart l.used l.initial.at-iterator);
}
