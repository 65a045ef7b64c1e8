-- What holds of areas in which several workers publish summaries.
use Rattle.std.specs.Prelude.{◌≡◌, ◌<◌, ◌≤◌, ℕ, true, List, [], ◌++◌, Some}
use Rattle.std.specs.List.{list_any}
use Rattle.lsn_core.specs.Files.{Files}
use Rattle.history.specs.Entry.{Entry}
use Rattle.history.specs.fuzzy_copies.Orderly.{IsOrderly}
use Rattle.history.specs.fuzzy_copies.Summary.{summary_of}
use Rattle.wal_summary.specs.declared.summary.Summary.{Summary}
use Rattle.wal_summary.specs.Summary.{IsSummary}
use Rattle.wal_summary.specs.Kept.{IsCovering}
use Rattle.summary_store.specs.Expiry.{AreHeld, unexpired}
use Rattle.summary_store.specs.Honest.{is_redo_start, IsHonest}
use Rattle.shared_summaries.specs.summary_publish.Published.{ArePublished}
use Rattle.shared_summaries.specs.summary_publish.Partly.{AdvancesPartly}
use Rattle.shared_summaries.specs.summary_publish.True.{IsTrue}

-- where a run begins an area that is honest is true; a true one is honest
abbrev pub RunsBeginTrue : Type 0
RunsBeginTrue =
    (found : List Entry) (files : Files) → IsHonest found files → IsTrue found [] files

abbrev pub TrueIsHonest : Type 0
TrueIsHonest =
    (found own : List Entry) (files : Files)
    → IsTrue found own files → IsHonest (found ++ own) files

-- it stays so as other workers' entries are added
abbrev pub TrueStays : Type 0
TrueStays =
    (found own more : List Entry) (files : Files) → IsOrderly 0 (found ++ (own ++ more))
    → IsTrue found own files → IsTrue found (own ++ more) files

-- and as summaries are published there and old ones removed, wholly or in part
abbrev pub PublishingKeepsTrue : Type 0
PublishingKeepsTrue =
    (found own : List Entry) (made limit : ℕ) (old new : Files) (kept now : List Summary)
    → IsOrderly 0 (found ++ own) → IsTrue found own old → AreHeld old kept
    → AdvancesPartly (Unit {0}) (found ++ own) made limit (Some old) (Some new) kept now
    → IsTrue found own new

-- what then covers a range up to a redo point of the run's own entries, whichever worker published
-- it, ends there, and is the summary from its start to there
abbrev pub CrewSumsUp : Type 0
CrewSumsUp =
    (found own : List Entry) (made limit : ℕ) (files : Files) (kept sums : List Summary)
    (from to : ℕ) (sum : Summary)
    → IsOrderly 0 (found ++ own) → list_any (is_redo_start to) own ≡ true
    → IsTrue found own files → ArePublished (found ++ own) made files kept sums
    → from < to → IsCovering (unexpired limit (kept ++ sums)) from to sum
    → (sum.end.0 ≡ to) × (sum.start.0 ≤ from)
    × IsSummary (summary_of (found ++ own) sum.start.0 to) sum.forks
