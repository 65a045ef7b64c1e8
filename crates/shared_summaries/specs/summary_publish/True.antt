-- Areas of summaries that tell a run of several workers the truth.
use Rattle.std.specs.Prelude.{◌≡◌, ◌<◌, ◌≤◌, ℕ, true, List, ◌++◌, Some}
use Rattle.std.specs.List.{list_any}
use Rattle.std.specs.FinMap.{get}
use Rattle.lsn_core.specs.Files.{Files}
use Rattle.history.specs.Entry.{Entry}
use Rattle.wal_summary.specs.declared.summary.Summary.{Summary}
use Rattle.summary_file.specs.File.{IsFileOf}
use Rattle.summary_file.specs.Name.{summary_name_bytes}
use Rattle.summary_store.specs.Honest.{is_redo_start, IsHonestSummary}

-- no checkpoint that starts in these entries starts within a summary's range
abbrev pub IsUnsplit : List Entry → Summary → Type 0
IsUnsplit own sum =
    (place : ℕ) → list_any (is_redo_start place) own ≡ true
    → sum.start.0 < place → sum.end.0 ≤ place

-- a summary is that of a history's entries in its range, from a redo point to another; and of a
-- run's own entries, which stand behind those that it found, no checkpoint starts within the range
pub record IsTrueSummary (found own : List Entry) (sum : Summary) : Type 0 where
  pub honest : IsHonestSummary (found ++ own) sum
  pub unsplit : IsUnsplit own sum

-- each file of an area that is a summary's, under the name of its range, is such
abbrev pub IsTrue : List Entry → List Entry → Files → Type 0
IsTrue found own files =
    (name bytes : List ℕ) (sum : Summary) → get files name ≡ Some bytes
    → name ≡ summary_name_bytes sum.start.0 sum.end.0 → IsFileOf sum bytes
    → IsTrueSummary found own sum
