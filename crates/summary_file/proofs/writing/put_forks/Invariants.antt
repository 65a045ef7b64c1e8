use Rattle.std.proofs.Common.{◌≡◌, ◌^◌, ◌<◌, ◌++◌, length, map}
use Rattle.std.specs.List.{flat_map, AllByRecursion}
use Rattle.summary_file.specs.Numbers.{fork_bytes}
use Rattle.summary_file.specs.File.{fork_numbers, ForkHasRoom}
use Rattle.summary_file.proofs.writing.put_forks.Given as goal

abbrev pub invariant-loop-fork : goal.invariant-loop-fork
invariant-loop-fork l = record {
  put : l.out.items ++ flat_map fork_bytes (map fork_numbers l.left)
      ≡ l.fn.out.items ++ flat_map fork_bytes (map fork_numbers l.forks);
  short : AllByRecursion (λ f. length f.blocks < 2 ^ 32) l.left;
  room : AllByRecursion ForkHasRoom l.left → AllByRecursion ForkHasRoom l.forks;
}

abbrev pub decreases-loop-fork : goal.decreases-loop-fork
decreases-loop-fork l = length l.left
