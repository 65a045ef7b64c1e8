-- Laws of summaries.
use Rattle.std.specs.Prelude.{◌≡◌, ◌≤◌, ℕ, List, [], ◌++◌, map}
use Rattle.std.specs.List.{AllByRecursion}
use Rattle.wal_record.specs.declared.record.Record.{Record}
use Rattle.history.specs.Entry.{Entry}
use Rattle.history.specs.Whole.{entry_of}
use Rattle.history.specs.fuzzy_copies.Logged.{history_of, log_of, AreLogged}
use Rattle.history.specs.fuzzy_copies.Orderly.{IsOrderly}
use Rattle.history.specs.fuzzy_copies.Sound.{entries_before}
use Rattle.history.specs.fuzzy_copies.Summary.{BlockRefTable, SayTheSame, both_summed, summed, summary_of}
use Rattle.wal_summary.specs.declared.summary.ForkSummary.{ForkSummary}
use Rattle.wal_summary.specs.declared.summary.Summary.{Summary}
use Rattle.wal_summary.specs.Summary.{AreSorted, IsSummary, table_of_forks, table_of_summary}
use Rattle.wal_summary.specs.Kept.{AreHonest, AreNeighbours, IsCovering}

-- a table has one summary at most
abbrev pub SummariesAreOne : Type 0
SummariesAreOne =
    (table : BlockRefTable) (a b : List ForkSummary)
    → IsSummary table a → IsSummary table b → a ≡ b

-- forks in order are the summary of a table that says the same, fork by fork and block by block
abbrev pub SameTablesAreSummedUp : Type 0
SameTablesAreSummedUp =
    (table : BlockRefTable) (forks : List ForkSummary)
    → AreSorted forks → SayTheSame (table_of_forks forks) table → IsSummary table forks

-- the merge of the summaries of two adjoining ranges is the summary of both
abbrev pub MergesSumUpBoth : Type 0
MergesSumUpBoth =
    (history : List Entry) (from between to : ℕ) (first next both : List ForkSummary)
    → IsOrderly 0 history → from ≤ between → between ≤ to
    → IsSummary (summary_of history from between) first
    → IsSummary (summary_of history between to) next
    → IsSummary (both_summed (table_of_forks first) (table_of_forks next)) both
    → IsSummary (summary_of history from to) both

-- so is the merge of the summaries of neighbouring ranges
abbrev pub NeighboursAreMerged : Type 0
NeighboursAreMerged =
    (history : List Entry) (sums : List Summary) (from to : ℕ) (forks : List ForkSummary)
    → IsOrderly 0 history → AreHonest history sums → AreNeighbours from sums to
    → IsSummary (summed (map table_of_summary sums)) forks
    → IsSummary (summary_of history from to) forks

-- and so is what covers a range, where the kept summaries are honest: from its start to its end
abbrev pub CoveringsSumUp : Type 0
CoveringsSumUp =
    (history : List Entry) (kept : List Summary) (from to : ℕ) (sum : Summary)
    → IsOrderly 0 history → AreHonest history kept → IsCovering kept from to sum
    → IsSummary (summary_of history sum.start.0 sum.end.0) sum.forks

-- the summary of a range of a log's records is that of the history
abbrev pub LogsAreSummedUp : Type 0
LogsAreSummedUp =
    (mib : ℕ) (found : List Record) (own : List Entry) (from to : ℕ) (forks : List ForkSummary)
    → AreLogged mib found own
    → IsSummary (summary_of (map entry_of (log_of mib found own)) from to) forks
    → IsSummary (summary_of (history_of found own) from to) forks

-- honest summaries stay so when entries are added that start at their ends or past them
abbrev pub AddedEntriesKeepHonesty : Type 0
AddedEntriesKeepHonesty =
    (history more : List Entry) (sums : List Summary) (place : ℕ)
    → entries_before more place ≡ [] → AllByRecursion (λ sum. sum.end.0 ≤ place) sums
    → AreHonest history sums → AreHonest (history ++ more) sums
