-- What holds of kept summaries.
use Rattle.std.specs.Prelude.{ℕ, List}
use Rattle.lsn_core.specs.Files.{Files}
use Rattle.history.specs.Entry.{Entry}
use Rattle.history.specs.fuzzy_copies.Orderly.{IsOrderly}
use Rattle.history.specs.fuzzy_copies.Summary.{summary_of}
use Rattle.wal_summary.specs.declared.summary.Summary.{Summary}
use Rattle.wal_summary.specs.Summary.{IsSummary}
use Rattle.wal_summary.specs.Kept.{AreHonest, IsCovering}
use Rattle.summary_store.specs.Kept.{AreKept}
use Rattle.summary_store.specs.Honest.{IsHonest}

-- what is kept of an honest area is honest
abbrev pub HonestFilesAreKept : Type 0
HonestFilesAreKept =
    (history : List Entry) (files : Files) (sums : List Summary)
    → IsHonest history files → AreKept files sums → AreHonest history sums

-- and so is what covers a range: it is the summary of the entries from its start to its end
abbrev pub HonestCoversSumUp : Type 0
HonestCoversSumUp =
    (history : List Entry) (files : Files) (sums : List Summary) (from to : ℕ) (sum : Summary)
    → IsOrderly 0 history → IsHonest history files → AreKept files sums
    → IsCovering sums from to sum
    → IsSummary (summary_of history sum.start.0 sum.end.0) sum.forks
