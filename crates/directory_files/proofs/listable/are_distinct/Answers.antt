use Rattle.std.proofs.Common.{◌≡◌, List, ℕ, is_lt, subst}
use Rattle.std.specs.Ordering.{nat_cmp}
use Rattle.std.specs.Cmp.Lexicographic.{slice_cmp}
use Rattle.std.specs.List.{IsAllAdjacentAnswer}
use Rattle.directory_files.proofs.Distinct.{distinct_just}
use Rattle.directory_files.proofs.listable.are_distinct.Goals as goal

pub returns : goal.returns
returns c = distinct_just c.in_ok-paths.paths.items c.sort_paths.new.paths.items _ c.is_rising.result c.in_ok-paths.ensures c.sort_paths.ensures.same c.sort_paths.ensures.sorted
    (subst (λ (l : List (List ℕ)). IsAllAdjacentAnswer (λ x y b. b ≡ is_lt (slice_cmp nat_cmp x y)) l c.is_rising.result) c.deref.ensures.value c.is_rising.ensures)
