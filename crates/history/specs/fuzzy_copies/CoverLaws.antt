-- Laws of disks that are behind their store, of summaries, and of incremental copies.
use Rattle.std.specs.Prelude.{◌≡◌, ◌<◌, ◌≤◌, ℕ, Bool, true, false, List, [], ◌++◌, map, Some}
use Rattle.std.specs.List.{list_any}
use Rattle.std.specs.Option.{is_some}
use Rattle.std.specs.FinMap.{empty}
use Rattle.lsn_core.specs.declared.ids.ForkId.{ForkId}
use Rattle.lsn_core.specs.Store.{Store}
use Rattle.lsn_core.specs.Blocks.{block_of, block_count}
use Rattle.wal_record.specs.declared.record.Record.{Record}
use Rattle.history.specs.Entry.{Entry}
use Rattle.history.specs.Apply.{apply_all}
use Rattle.history.specs.Whole.{entry_of}
use Rattle.history.specs.fuzzy_copies.Touches.{resets, settles}
use Rattle.history.specs.fuzzy_copies.Orderly.{IsOrderly}
use Rattle.history.specs.fuzzy_copies.Sound.{entries_before, IsSoundCopy}
use Rattle.history.specs.fuzzy_copies.Taken.{since, IsBlockCopied, IsListed, IsRunning}
use Rattle.history.specs.fuzzy_copies.Logged.{history_of, log_of, AreLogged}
use Rattle.history.specs.fuzzy_copies.Covers.{AreTidy, AreTidyFrom, Covers, Lags, IsRewritten}
use Rattle.history.specs.fuzzy_copies.Summary.{summed_up, summary_of, both_summed, SayTheSame}
use Rattle.history.specs.fuzzy_copies.Increment.{ForkOrigin}

-- a history that makes this store, and whose entries from a place on are tidy
pub record MakesTidily (history : List Entry) (from : ℕ) (now : Store) : Type 0 where
  pub orderly : IsOrderly 0 history
  pub made : apply_all empty history ≡ Some now
  pub tidy : AreTidyFrom from history

-- a disk that is behind its store by the entries from a place on covers the history from there on;
-- the store as it is does so from each place from which on the entries are tidy
abbrev pub LaggingDisksCover : Type 0
LaggingDisksCover =
    (ours : ForkId → Bool) (disk now : Store) (history : List Entry) (from : ℕ)
    → MakesTidily history from now → Lags ours disk now history from
    → Covers ours disk history from

-- a disk covers still when entries are added
abbrev pub AddedEntriesKeepCovers : Type 0
AddedEntriesKeepCovers =
    (ours : ForkId → Bool) (disk : Store) (history more : List Entry) (from : ℕ)
    → entries_before more from ≡ [] → Covers ours disk history from
    → Covers ours disk (history ++ more) from

-- and when blocks and forks are written
abbrev pub WritesKeepCovers : Type 0
WritesKeepCovers =
    (ours : ForkId → Bool) (old new now : Store) (history : List Entry) (from : ℕ)
    → MakesTidily history from now → IsRewritten ours old new now (since from history)
    → Covers ours old history from → Covers ours new history from

-- what a covering disk answers a copier that asks as of the same place or an earlier one
pub record AnswersCopier (seen : List Entry) (from : ℕ) (fork : ForkId) (disk : Store)
    : Type 0 where
  pub listed : IsListed seen from fork (block_count disk fork)
  pub copied : (block : ℕ) → IsBlockCopied seen from fork block (block_of disk fork block)

abbrev pub CoveringDisksAnswer : Type 0
CoveringDisksAnswer =
    (ours : ForkId → Bool) (disk : Store) (seen : List Entry) (from place : ℕ) (fork : ForkId)
    → IsOrderly 0 seen → AreTidyFrom from seen → from ≤ place → Covers ours disk seen place
    → ours fork ≡ true → AnswersCopier seen from fork disk

-- the summary of a range is made of those of its two parts
abbrev pub SummariesMeet : Type 0
SummariesMeet =
    (history : List Entry) (first between last : ℕ)
    → IsOrderly 0 history → first ≤ between → between ≤ last
    → SayTheSame (summary_of history first last)
    (both_summed (summary_of history first between) (summary_of history between last))

-- a log is summed up as its history is
abbrev pub LogsAreSummedAlike : Type 0
LogsAreSummedAlike =
    (mib : ℕ) (found : List Record) (own : List Entry) (first last : ℕ) → AreLogged mib found own
    → SayTheSame (summary_of (map entry_of (log_of mib found own)) first last)
    (summary_of (history_of found own) first last)

-- and its entries are tidy where those of its history are
abbrev pub LogsAreTidy : Type 0
LogsAreTidy =
    (mib : ℕ) (found : List Record) (own : List Entry) (store : Store) → AreLogged mib found own
    → apply_all empty (history_of found own) ≡ Some store
    → AreTidy empty (history_of found own) → AreTidy empty (map entry_of (log_of mib found own))

-- tidy entries make one store of another
pub record Makes (store : Store) (entries : List Entry) (next : Store) : Type 0 where
  pub tidy : AreTidy store entries
  pub made : apply_all store entries ≡ Some next

-- a block that is there after entries, and that their summary doesn't list, was neither touched nor
-- cut by them
abbrev pub UnlistedBlocksStand : Type 0
UnlistedBlocksStand =
    (store next : Store) (entries : List Entry) (fork : ForkId) (block : ℕ)
    → Makes store entries next → (summed_up entries).listed fork block ≡ false
    → is_some (block_of next fork block) ≡ true → list_any (resets fork block) entries ≡ false

-- they don't create a fork of which their summary has another limit than 0, or none
abbrev pub LimitsTellSettled : Type 0
LimitsTellSettled =
    (entries : List Entry) (fork : ForkId) → ((summed_up entries).limit fork ≡ Some 0 → ⊥)
    → list_any (settles fork) entries ≡ false

-- a block below the fork's limit is there after them
abbrev pub BlocksBelowLimitsAreThere : Type 0
BlocksBelowLimitsAreThere =
    (store next : Store) (entries : List Entry) (fork : ForkId) (block limit : ℕ)
    → Makes store entries next → (summed_up entries).limit fork ≡ Some limit → block < limit
    → is_some (block_of next fork block) ≡ true

-- an incremental copy over a sound one is sound. Its summary begins at the earlier copy's start or
-- before it, and the earlier copy ends by its start
abbrev pub IncrementsAreSound : Type 0
IncrementsAreSound =
    (copy prior : Store) (history : List Entry) (first start stop from to : ℕ)
    → IsRunning history from → AreTidy empty history → IsSoundCopy prior history start stop
    → first ≤ start → stop ≤ from
    → ((fork : ForkId) → ForkOrigin copy prior history first from to fork)
    → IsSoundCopy copy history from to
