use Rattle.std.proofs.Common.{◌≡◌, ◌++◌, length, map}
use Rattle.directory_files.specs.Written.{to_of}
use Rattle.directory_files.proofs.listable.paths_of.Given as goal

-- all but those that are left were copied
abbrev pub invariant-loop-target : goal.invariant-loop-target
invariant-loop-target l = record { copied : l.paths.items ++ map to_of l.left ≡ map to_of l.targets }

abbrev pub decreases-loop-target : goal.decreases-loop-target
decreases-loop-target l = length l.left
