-- Summaries that were kept, and what of a range they cover.
use Rattle.std.specs.Prelude.{◌≡◌, ◌<◌, ◌≤◌, ℕ, ◌&&◌, Bool, true, false, List, [], ◌∷◌, map, nat_le, nat_lt, Result, Ok, Err}
use Rattle.std.specs.List.{list_any, filter, AllByRecursion}
use Rattle.history.specs.Entry.{Entry}
use Rattle.history.specs.fuzzy_copies.Summary.{summed, summary_of}
use Rattle.wal_summary.specs.declared.summary.Summary.{Summary}
use Rattle.wal_summary.specs.declared.kept.CoverFault.{CoverFault}
use Rattle.wal_summary.specs.declared.kept.CoverFault.TheVariants.{Gap, NoMemory}
use Rattle.wal_summary.specs.Summary.{AreSorted, IsSummary, table_of_summary}

-- a summary's range has the place; one of several has it
abbrev pub covers : ℕ → Summary → Bool
covers place sum = nat_le sum.start.0 place && nat_lt place sum.end.0

abbrev pub is_covered : List Summary → ℕ → Bool
is_covered kept place = list_any (covers place) kept

-- the least place of a range that none of the kept summaries covers
pub record IsGap (kept : List Summary) (from to place : ℕ) : Type 0 where
  pub later : from ≤ place
  pub below : place < to
  pub uncovered : is_covered kept place ≡ false
  pub before : (p : ℕ) → from ≤ p → p < place → is_covered kept p ≡ true

-- summaries of ranges in order, from a place on, none empty and no two with a place in common, and
-- each with its forks in order
abbrev pub AreInOrder : ℕ → List Summary → Type 0
AreInOrder low [] = Unit
AreInOrder low (sum ∷ sums) =
    (low ≤ sum.start.0) × (sum.start.0 < sum.end.0) × AreSorted sum.forks
    × AreInOrder sum.end.0 sums

-- a summary's range has a place of another range; those of the kept ones whose range has
abbrev pub overlaps : ℕ → ℕ → Summary → Bool
overlaps from to sum = nat_lt from sum.end.0 && nat_lt sum.start.0 to

abbrev pub overlapping : ℕ → ℕ → List Summary → List Summary
overlapping from to kept = filter (overlaps from to) kept

-- summaries of ranges of which each begins where the one before ends, from a place to another
abbrev pub AreNeighbours : ℕ → List Summary → ℕ → Type 0
AreNeighbours from [] to = from ≡ to
AreNeighbours from (sum ∷ sums) to =
    (sum.start.0 ≡ from) × (from ≤ sum.end.0) × AreNeighbours sum.end.0 sums to

-- when the last one was made
abbrev pub last_made : List Summary → ℕ
last_made [] = 0
last_made (sum ∷ []) = sum.made
last_made (sum ∷ next ∷ sums) = last_made (next ∷ sums)

-- the merge of the kept summaries that overlap a range, which they cover: they are neighbours from
-- its start to its end
pub record IsCovering (kept : List Summary) (from to : ℕ) (sum : Summary) : Type 0 where
  pub covered : (p : ℕ) → from ≤ p → p < to → is_covered kept p ≡ true
  pub range : AreNeighbours sum.start.0 (overlapping from to kept) sum.end.0
  pub begins : sum.start.0 ≤ from
  pub ends : to ≤ sum.end.0
  pub made : sum.made ≡ last_made (overlapping from to kept)
  pub forks : IsSummary (summed (map table_of_summary (overlapping from to kept))) sum.forks

-- what covering a range answers: where a place isn't covered the least such, else the merge
abbrev pub CoverAnswers : List Summary → ℕ → ℕ → Result Summary CoverFault → Type 0
CoverAnswers kept from to (Ok sum) = IsCovering kept from to sum
CoverAnswers kept from to (Err (Gap place)) = IsGap kept from to place.0
CoverAnswers kept from to (Err NoMemory) = Unit

-- each is the summary of the history's entries in its range
abbrev pub AreHonest : List Entry → List Summary → Type 0
AreHonest history sums =
    AllByRecursion (λ sum. IsSummary (summary_of history sum.start.0 sum.end.0) sum.forks) sums
