use Rattle.std.proofs.Common.{◌≡◌, true, List, ℕ, length}
use Rattle.std.specs.Ordering.{nat_cmp}
use Rattle.std.specs.Cmp.Lexicographic.{slice_cmp}
use Rattle.std.specs.List.Sorted.{IsSortedByKey}
use Rattle.chain_check.specs.Inside.{path_of}
use Rattle.std.specs.List.{AllByRecursion}
use Rattle.chain_check.specs.Chain.{IsHeld, IsFirstUnheld}
use Rattle.chain_check.proofs.held.check_held.Given as goal

-- each row so far is held
abbrev pub invariant-loop-row : goal.invariant-loop-row
invariant-loop-row l = record {
  sorted : l.rising ≡ true → IsSortedByKey path_of (slice_cmp nat_cmp) l.held;
  first : (path : List ℕ) → IsFirstUnheld l.held l.left path → IsFirstUnheld l.held l.rows path;
  all : AllByRecursion (λ row. IsHeld l.held row.path) l.left → AllByRecursion (λ row. IsHeld l.held row.path) l.rows;
}

abbrev pub decreases-loop-row : goal.decreases-loop-row
decreases-loop-row l = length l.left
