use Rattle.std.proofs.Common.{◌≡◌, max, take}
use Rattle.std.specs.List.{reduce}
use Rattle.page_pool.specs.Room.{ends_at}
use Rattle.page_pool.proofs.partition.Partition.newest_of.Given as goal

abbrev pub invariant-loop-at : goal.invariant-loop-at
invariant-loop-at g l = l.newest ≡ reduce max (ends_at l.self.framed (take l.at-index l.blocks))
