use Rattle.std.proofs.Common.{length, map}
use Rattle.std.specs.List.{AllByRecursion}
use Rattle.directory_files.specs.Written.{to_of, IsTextPath}
use Rattle.directory_files.proofs.listable.have_text_paths.Given as goal

-- those that are left decide of all
abbrev pub invariant-loop-target : goal.invariant-loop-target
invariant-loop-target l = record {
  all : AllByRecursion IsTextPath (map to_of l.left) → AllByRecursion IsTextPath (map to_of l.targets);
  each : AllByRecursion IsTextPath (map to_of l.targets) → AllByRecursion IsTextPath (map to_of l.left);
}

abbrev pub decreases-loop-target : goal.decreases-loop-target
decreases-loop-target l = length l.left
