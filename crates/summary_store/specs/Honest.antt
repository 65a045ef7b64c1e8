-- Areas of summaries that tell the truth of a history.
use Rattle.std.specs.Prelude.{◌≡◌, ℕ, ◌==◌, ◌&&◌, ◌||◌, Bool, true, false, List, [], ◌∷◌, Some}
use Rattle.std.specs.List.{list_any}
use Rattle.std.specs.FinMap.{get}
use Rattle.lsn_core.specs.Files.{Files}
use Rattle.history.specs.Entry.{Entry}
use Rattle.history.specs.Written.{is_redo}
use Rattle.history.specs.fuzzy_copies.Summary.{summary_of}
use Rattle.wal_summary.specs.declared.summary.Summary.{Summary}
use Rattle.wal_summary.specs.Summary.{IsSummary}
use Rattle.summary_file.specs.File.{IsFileOf}
use Rattle.summary_file.specs.Name.{summary_name_bytes}

-- the start of an entry that starts a checkpoint
abbrev pub is_redo_start : ℕ → Entry → Bool
is_redo_start place e = is_redo e.act && (e.start == place)

-- a redo point of a history: the start of its first entry, or of one that starts a checkpoint
abbrev pub is_redo_point : List Entry → ℕ → Bool
is_redo_point [] place = false
is_redo_point (e ∷ es) place = (e.start == place) || list_any (is_redo_start place) (e ∷ es)

-- a summary is that of a history's entries in its range, from a redo point to another
pub record IsHonestSummary (history : List Entry) (sum : Summary) : Type 0 where
  pub starts : is_redo_point history sum.start.0 ≡ true
  pub ends : is_redo_point history sum.end.0 ≡ true
  pub says : IsSummary (summary_of history sum.start.0 sum.end.0) sum.forks

-- each file of an area that is a summary's, under the name of its range, is honest
abbrev pub IsHonest : List Entry → Files → Type 0
IsHonest history files =
    (name bytes : List ℕ) (sum : Summary) → get files name ≡ Some bytes
    → name ≡ summary_name_bytes sum.start.0 sum.end.0 → IsFileOf sum bytes
    → IsHonestSummary history sum
