use Rattle.std.proofs.Common.{◌≡◌, map, take, drop}
use Rattle.history.specs.Apply.{apply_items}
use Rattle.history.specs.Whole.{said, said_behind}
use Rattle.history.specs.Undo.{undone_steps}
use Rattle.history.proofs.applying.apply_blocks.Given as goal

abbrev pub invariant-loop-at : goal.invariant-loop-at
invariant-loop-at l = record {
  applied : apply_items l.end.0 l.store (said_behind (map (λ b. b.at) (take l.at l.blocks)) (drop l.at l.blocks)) ≡ apply_items l.end.0 l.fn.store (said l.blocks);
  back : undone_steps l.done.items l.store ≡ l.fn.store;
}
