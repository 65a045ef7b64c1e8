-- What functions inside the crate do. No public contract cites these.
use Rattle.std.specs.Prelude.{ℕ, ◌+◌, ◌==◌, Bool, List, [], ◌∷◌, if◌then◌else◌}
use Rattle.summary_text.specs.declared.runs.BlockRun.{BlockRun}
use Rattle.summary_text.specs.Runs.{single}

-- a number stands just behind a run
abbrev pub is_next : BlockRun → ℕ → Bool
is_next run n = run.last + 1 == n

-- runs and a number behind them, which ends the last one where it stands just behind that
abbrev pub with_block : List BlockRun → ℕ → List BlockRun
with_block [] n = single n ∷ []
with_block (run ∷ []) n =
    if is_next run n then record { first = run.first; last = n } ∷ []
    else run ∷ (single n ∷ [])
with_block (run ∷ (next ∷ runs)) n = run ∷ with_block (next ∷ runs) n

-- runs and numbers behind them
abbrev pub with_blocks : List BlockRun → List ℕ → List BlockRun
with_blocks runs [] = runs
with_blocks runs (n ∷ ns) = with_blocks (with_block runs n) ns
