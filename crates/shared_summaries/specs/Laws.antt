-- What holds of an area of summaries that workers share.
use Rattle.std.specs.Prelude.{◌≡◌, ◌<◌, ◌≤◌, ℕ, Bool, true, List, ◌++◌, Option, Some, IfSome}
use Rattle.std.specs.List.{list_any}
use mathlib.Core.List.{IsPrefix}
use Rattle.lsn_core.specs.Files.{Files}
use Rattle.history.specs.Entry.{Entry}
use Rattle.history.specs.fuzzy_copies.Orderly.{IsOrderly}
use Rattle.history.specs.fuzzy_copies.Summary.{summary_of}
use Rattle.wal_summary.specs.declared.summary.Summary.{Summary}
use Rattle.wal_summary.specs.Summary.{IsSummary}
use Rattle.wal_summary.specs.Kept.{IsCovering, IsGap}
use Rattle.summary_store.specs.Kept.{end_behind}
use Rattle.summary_store.specs.Expiry.{young, unexpired}
use Rattle.summary_store.specs.Honest.{is_redo_start, IsHonest}
use Rattle.shared_summaries.specs.summary_publish.Entries.{first_start}
use Rattle.shared_summaries.specs.summary_publish.Published.{AreNext, ArePublished}
use Rattle.shared_summaries.specs.Grown.{HasGrown, IsOldGap}
use Rattle.shared_summaries.specs.Shelf.{IsTrueFor, AreShelved}

-- what a worker was answered for a range up to the redo point of its own checkpoint, over an area
-- that was true for what it has seen: it ends there, and is the summary from its start to there
abbrev pub AnswersSumUp : Type 0
AnswersSumUp =
    (found own : List Entry) (begun : Option Files) (made limit : ℕ) (files : Files)
    (kept sums : List Summary) (from to : ℕ) (sum : Summary)
    → IsOrderly 0 (found ++ own) → IfSome begun (IsHonest found)
    → IsTrueFor found begun (found ++ own) (Some files)
    → list_any (is_redo_start to) own ≡ true
    → ArePublished (found ++ own) made files kept sums
    → from < to → IsCovering (unexpired limit (kept ++ sums)) from to sum
    → (sum.end.0 ≡ to) × (sum.start.0 ≤ from)
    × IsSummary (summary_of (found ++ own) sum.start.0 to) sum.forks

-- where workers are done and the lock is open, an area that was honest when the run began is honest
-- for every history that goes on from what the last pass has seen
abbrev pub CrewsKeepHonest : Type 0
CrewsKeepHonest =
    (tells : Bool) (found list history : List Entry) (begun files : Option Files)
    → tells ≡ true → IsOrderly 0 history → IsPrefix found list
    → AreShelved (tells ≡ true) found begun list files → IsPrefix list history
    → IfSome begun (IsHonest found) → IfSome files (IsHonest history)

-- ---- what is kept

abbrev pub RunsBeginGrown : Type 0
RunsBeginGrown = (first limit : ℕ) (begun : List Summary) → HasGrown first limit begun begun

-- it stays so as summaries are published that aren't old, and as old ones are removed
abbrev pub PublishingGrows : Type 0
PublishingGrows =
    (limit : ℕ) (history : List Entry) (made : ℕ) (begun kept sums now : List Summary)
    → limit ≤ made → HasGrown (first_start history) limit begun kept
    → AreNext history made (end_behind (first_start history) kept) sums
    → young limit now ≡ young limit (kept ++ sums)
    → ((low : ℕ) → end_behind low now ≡ end_behind low (kept ++ sums))
    → HasGrown (first_start history) limit begun now

-- and a place that nothing covers is an old one, where what is kept reaches the range's end
abbrev pub GapsAreOld : Type 0
GapsAreOld =
    (first limit : ℕ) (begun now : List Summary) (from to place : ℕ)
    → HasGrown first limit begun now → to ≤ end_behind first now
    → IsGap now from to place → IsOldGap first limit begun from to place
