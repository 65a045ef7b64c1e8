-- Where a listed block begins, by a search.
use Rattle.std.proofs.Common.{◌≡◌, ℕ, ◌+◌, ◌*◌, List, Some, None, Result, Ok, Err, sym, ap, subst}
use Rattle.std.specs.Prelude.{◌==◌}
use Rattle.std.specs.List.{position}
use Rattle.std.specs.List.Sorted.{IsStrictlyIncreasing, IsBinarySearchResult}
use Rattle.std.specs.Option.{option_map}
use Rattle.std.specs.Ordering.{nat_cmp}
use Rattle.std.specs.Result.{MatchResult}
use Rattle.incr_file.specs.declared.head.HeadView.{HeadView}
use Rattle.incr_file.specs.Reading.{place_in}
use Rattle.incr_file.proofs.Rising.{searched_place}

-- the place by a number of the list
place_by : (view : HeadView) (block : ℕ) (r : Result ℕ ℕ) → MatchResult r (λ i. position (λ b. b == block) view.head.blocks ≡ Some i) (λ i. position (λ b. b == block) view.head.blocks ≡ None) → MatchResult r (λ i. Some (view.body + 8192 * i) ≡ place_in view block) (λ i. None ≡ place_in view block)
place_by view block (Ok i) e = sym (ap (option_map (λ n. view.body + 8192 * n)) e)
place_by view block (Err i) e = sym (ap (option_map (λ n. view.body + 8192 * n)) e)

pub found_place : (view : HeadView) (block : ℕ) (list : List ℕ) (r : Result ℕ ℕ) → list ≡ view.head.blocks → IsStrictlyIncreasing view.head.blocks → IsBinarySearchResult (λ y. nat_cmp y block) list r → MatchResult r (λ i. Some (view.body + 8192 * i) ≡ place_in view block) (λ i. None ≡ place_in view block)
found_place view block list r e up h =
    place_by view block r (searched_place view.head.blocks block r up (subst (λ (l : List ℕ). IsBinarySearchResult (λ y. nat_cmp y block) l r) e h))
