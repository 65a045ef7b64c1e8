-- Laws of data areas that a stop left: replay makes of them what the survivors make.
use Rattle.std.specs.Prelude.{◌≡◌, ◌≤◌, ℕ, Bool, List, [], ◌++◌, Some}
use Rattle.lsn_core.specs.declared.ids.ForkId.{ForkId}
use Rattle.lsn_core.specs.Store.{Store}
use Rattle.wal_record.specs.declared.record.Record.{Record}
use Rattle.history.specs.Entry.{Entry}
use Rattle.history.specs.Apply.{apply_all}
use Rattle.history.specs.Whole.{whole}
use Rattle.history.specs.fuzzy_copies.Orderly.{IsOrderly}
use Rattle.history.specs.fuzzy_copies.Sound.{state_before, entries_before}
use Rattle.history.specs.fuzzy_copies.Covers.{AreTidy, AreTidyFrom, AgreesUnlessChanged, Covers}
use Rattle.history.specs.fuzzy_copies.CoverLaws.{MakesTidily}
use Rattle.history.specs.fuzzy_copies.Recovered.{recovered_records}
use Rattle.restart_laws.specs.Restart.{LeaveAlone, AreTidyBehind, IsCopyOf, AreRestorable}

-- a disk that covers entries covers more of them, where those that start below the place change
-- nothing of its forks
abbrev pub MoreEntriesKeepCovers : Type 0
MoreEntriesKeepCovers =
    (ours : ForkId → Bool) (disk last : Store) (known more : List Entry) (from : ℕ)
    → Covers ours disk known from
    → state_before (known ++ more) from ≡ Some last
    → AreTidyBehind known (entries_before more from) from
    → LeaveAlone ours (entries_before more from)
    → Covers ours disk (known ++ more) from

-- and covers from each earlier place on from which the entries are tidy
abbrev pub EarlierPlacesAreCovered : Type 0
EarlierPlacesAreCovered =
    (ours : ForkId → Bool) (disk base : Store) (history : List Entry) (from place : ℕ)
    → IsOrderly 0 history → AreTidyFrom from history → from ≤ place
    → state_before history from ≡ Some base
    → Covers ours disk history place → Covers ours disk history from

-- a disk that was cleaned as of a place which the entries that survived don't reach covers them:
-- those that are lost change nothing of its forks
abbrev pub LostEntriesKeepCovers : Type 0
LostEntriesKeepCovers =
    (ours : ForkId → Bool) (disk now base : Store) (history lost : List Entry) (from : ℕ)
    → MakesTidily history from now → apply_all now lost ≡ Some base → AreTidy now lost
    → LeaveAlone ours lost → AgreesUnlessChanged ours disk base []
    → Covers ours disk history from

-- replay of the records from there on makes of the disks what all records make from nothing
abbrev pub RestartsAreWhole : Type 0
RestartsAreWhole =
    (records : List Record) (disks : ℕ → Store) (copy : Store) (from to place : ℕ)
    → AreRestorable records disks from to → IsCopyOf disks copy → to ≤ place
    → recovered_records copy records from place ≡ whole records place
