-- Runs of consecutive numbers in a rising list.
use Rattle.std.specs.Prelude.{ℕ, ◌+◌, ◌<◌, ◌≤◌, ◌==◌, ◌&&◌, Bool, List, [], ◌∷◌, nat_le, if◌then◌else◌}
use Rattle.summary_text.specs.declared.runs.BlockRun.{BlockRun}

-- the run of one number
abbrev pub single : ℕ → BlockRun
single n = record { first = n; last = n }

-- runs and a number before them, which begins the first one where that stands just behind it
abbrev pub begun_by : ℕ → List BlockRun → List BlockRun
begun_by n [] = single n ∷ []
begun_by n (run ∷ runs) =
    if n + 1 == run.first then record { first = n; last = run.last } ∷ runs
    else single n ∷ (run ∷ runs)

-- the runs of numbers
abbrev pub runs_of : List ℕ → List BlockRun
runs_of [] = []
runs_of (n ∷ ns) = begun_by n (runs_of ns)

-- a run has a number
abbrev pub has_number : ℕ → BlockRun → Bool
has_number n run = nat_le run.first n && nat_le n run.last

-- runs in order, from a place on, each with a number, and a number between each and the next
abbrev pub AreApart : ℕ → List BlockRun → Type 0
AreApart low [] = Unit
AreApart low (run ∷ runs) =
    (low ≤ run.first) × (run.first ≤ run.last) × AreApart (run.last + 2) runs
