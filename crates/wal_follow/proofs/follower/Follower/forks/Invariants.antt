use Rattle.std.proofs.Common.{◌≡◌, map, take}
use Rattle.std.specs.FinMap.{keys}
use Rattle.wal_follow.specs.Following.{len_of}
use Rattle.wal_follow.proofs.follower.Follower.forks.Given as goal

-- the lengths of the forks so far
abbrev pub invariant-loop-fork : goal.invariant-loop-fork
invariant-loop-fork l = record {
  names : l.fork-items ≡ keys l.self.store;
  lens : l.list.items ≡ map (len_of l.self.store) (take l.fork-index l.fork-items);
}
