-- What is kept of an area of summaries while several workers publish there and remove what is old.
use Rattle.std.specs.Prelude.{◌≡◌, ◌⊎◌, ◌<◌, ◌≤◌, ℕ, false, List, [], ◌∷◌, ◌++◌}
use Rattle.wal_summary.specs.declared.summary.Summary.{Summary}
use Rattle.wal_summary.specs.Kept.{is_covered}
use Rattle.summary_store.specs.Kept.{end_behind}
use Rattle.summary_store.specs.Expiry.{young}

-- summaries of ranges of which each begins where the one before ends
abbrev pub AreBehind : ℕ → List Summary → Type 0
AreBehind place [] = Unit {0}
AreBehind place (s ∷ ss) = (s.start.0 ≡ place) × (place < s.end.0) × AreBehind s.end.0 ss

-- what is kept comes from what was kept when a run began, and goes on by neighbours, from the
-- greatest end of those or from the first entry's start: it has all of both that weren't made
-- before a moment, as none was that was added, and the same end
pub record HasGrown (first limit : ℕ) (begun kept : List Summary) : Type 0 where
  pub more : List Summary
  pub behind : AreBehind (end_behind first begun) more
  pub added : young limit more ≡ more
  pub young_are : young limit kept ≡ young limit (begun ++ more)
  pub end : (low : ℕ) → end_behind low kept ≡ end_behind low (begun ++ more)

-- a place of a range that nothing covers which was kept when the run began and wasn't made before a
-- moment, and below the greatest end of what was kept then, or below the first entry's start
pub record IsOldGap (first limit : ℕ) (begun : List Summary) (from to place : ℕ) : Type 0 where
  pub later : from ≤ place
  pub below : place < to
  pub uncovered : is_covered (young limit begun) place ≡ false
  pub old : (place < end_behind 0 begun) ⊎ (place < first)
