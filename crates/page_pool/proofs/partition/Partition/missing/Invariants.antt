use Rattle.std.proofs.Common.{◌≡◌, ◌+◌, ◌≤◌, drop}
use Rattle.page_pool.specs.Room.{missing}
use Rattle.page_pool.proofs.partition.Partition.missing.Given as goal

abbrev pub invariant-loop-at : goal.invariant-loop-at
invariant-loop-at g l = record {
  counted : l.count + missing l.self.framed.held (drop l.at-index l.blocks) ≡ missing l.self.framed.held l.blocks;
  most : l.count ≤ l.at-index;
}
