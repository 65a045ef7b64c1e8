-- What functions inside the crate answer. No public contract cites these.
use Rattle.std.specs.Prelude.{◌≡◌, nat_le, ◌⊎◌, ℕ, ◌-◌, ◌^◌, ◌<◌, ◌≤◌, List, [], ◌∷◌, ◌++◌, length, Option, Some, None}
use Rattle.std.specs.Option.{option_map}
use Rattle.std.specs.List.{AllByRecursion, filter}
use Rattle.lsn_core.specs.Files.{Files}
use Rattle.lsn_core.specs.declared.lsn.Lsn.{Lsn}
use Rattle.lsn_core.specs.declared.fault.AreaFault.{AreaFault}
use Rattle.lsn_core.specs.declared.fault.AreaFault.TheVariants as area
use Rattle.lsn_core.specs.declared.fault.StoreArea.TheVariants.{Sums as SumsArea}
use Rattle.lsn_core.specs.declared.fault.StoreFault.{StoreFault}
use Rattle.lsn_core.specs.declared.fault.StoreFault.TheVariants as store
use Rattle.vault.specs.Area.{Related}
use Rattle.vault.specs.Frame.{IsDurable}
use Rattle.vault.specs.declared.area.Vault.{Ghosts}
use Rattle.wal_record.specs.declared.record.Record.{Record}
use Rattle.wal_record.specs.declared.record.Kind.{Kind}
use Rattle.wal_record.specs.declared.record.Kind.TheVariants as kind
use Rattle.wal_record.specs.Sound.{IsSound}
use Rattle.history.specs.Entry.{Entry}
use Rattle.history.specs.Whole.{says, entry_of}
use Rattle.history.specs.Written.{is_redo}
use Rattle.history.specs.fuzzy_copies.Summary.{table_of}
use Rattle.history.specs.fuzzy_copies.Sound.{window}
use Rattle.wal_summary.specs.declared.summary.Summary.{Summary}
use Rattle.wal_summary.specs.declared.kept.CoverFault.{CoverFault}
use Rattle.wal_summary.specs.declared.kept.CoverFault.TheVariants as cover
use Rattle.summary_store.specs.Kept.{end_behind}
use Rattle.store_locks.specs.Records.{IsPlaceOf}
use Rattle.shared_summaries.specs.summary_publish.Entries.{next_redo}
use Rattle.shared_summaries.specs.summary_publish.Published.{IsNext, AreNext, IsWhole, CanFollow, AreFollowing, with_file, with_files}
use Rattle.shared_summaries.specs.summary_publish.Partly.{MayWriteSummary}
use Rattle.store_faults.specs.declared.advance_fault.AdvanceFault.{AdvanceFault}
use Rattle.store_faults.specs.declared.advance_fault.AdvanceFault.TheVariants as advance

-- the entries that start at a place or past it
abbrev pub from_place : ℕ → List Entry → List Entry
from_place place history = filter (λ e. nat_le place e.start) history

-- a record is that of an entry: it starts and ends where that does, and says the same of the start
-- of a checkpoint, of blocks and of limits
pub record IsRecordOf (r : Record) (e : Entry) : Type 0 where
  pub start : r.start.0 ≡ e.start
  pub end : r.end.0 ≡ e.end
  pub redo : is_redo (says r) ≡ is_redo e.act
  pub table : table_of (entry_of r) ≡ table_of e

-- records are those of entries, one by one
abbrev pub AreRecordsOf : List Record → List Entry → Type 0
AreRecordsOf [] [] = Unit {0}
AreRecordsOf [] (e ∷ es) = ⊥
AreRecordsOf (r ∷ rs) [] = ⊥
AreRecordsOf (r ∷ rs) (e ∷ es) = IsRecordOf r e × AreRecordsOf rs es

-- sound records that end one behind the other, the first of them past a place
abbrev pub RiseBehind : ℕ → List Record → Type 0
RiseBehind place [] = Unit {0}
RiseBehind place (r ∷ rs) = (place < r.end.0) × IsSound r.kind × RiseBehind r.end.0 rs

-- the end of the last one of some records; where there is none, a place before them
abbrev pub last_end : ℕ → List Record → ℕ
last_end low [] = low
last_end low (r ∷ rs) = last_end r.end.0 rs

-- a place that was found, or else one past all
abbrev pub place_or : Option Lsn → ℕ
place_or None = 2 ^ 64 - 1
place_or (Some at) = at.0

-- the number of blocks that a truncation leaves is one of 32 bits
abbrev pub HasCount : Kind → Type 0
HasCount (kind.Shutdown redo) = Unit {0}
HasCount (kind.Online redo) = Unit {0}
HasCount (kind.RedoMark n) = Unit {0}
HasCount kind.NoOp = Unit {0}
HasCount (kind.BackupEnd start) = Unit {0}
HasCount (kind.Commit time rels) = Unit {0}
HasCount (kind.Images blocks) = Unit {0}
HasCount (kind.Generic blocks) = Unit {0}
HasCount (kind.Create fork) = Unit {0}
HasCount (kind.Truncate rel count flags) = count < 2 ^ 32

-- so are those of some records
abbrev pub HaveCounts : List Record → Type 0
HaveCounts [] = Unit {0}
HaveCounts (r ∷ rs) = HasCount r.kind × HaveCounts rs

-- what is read from a place on has all entries from another one on: that place is one where an
-- entry starts or ends, and none starts between the two
pub record CanStart (history : List Entry) (from at : ℕ) : Type 0 where
  pub place : IsPlaceOf history at
  pub between : window history from at ≡ []

-- a place stays, which isn't past a bound, or it is moved to the first one
abbrev pub StartsBy : Lsn → Lsn → Lsn → Lsn → Type 0
StartsBy old new bound first = ((new ≡ old) × (old.0 ≤ bound.0)) ⊎ (new ≡ first)

-- so it has behind a range that was found
abbrev pub MayGoOn : List Entry → Option Summary → ℕ → Type 0
MayGoOn history None at = Unit {0}
MayGoOn history (Some sum) at = CanStart history sum.end.0 at

-- the summary of the next range, where there is one
abbrev pub NextAnswer : List Entry → ℕ → ℕ → Option Summary → Type 0
NextAnswer history made place None = next_redo place history ≡ None
NextAnswer history made place (Some sum) = IsNext history made place sum

-- one more summary was published, which ends there, or there is none
abbrev pub PublishesNext : {V : Type 0} → Ghosts V → Type 0 → List Entry → ℕ → ℕ → V → V
    → Option Summary → Type 0
PublishesNext g told history place made old new (Some sum) =
    CanFollow place sum × (told → IsNext history made place sum) × IsWhole sum
    × (g.files new ≡ option_map (with_file sum) (g.files old))
PublishesNext g told history place made old new None =
    (new ≡ old) × (told → next_redo place history ≡ None)

-- what publishing the next one leaves, whatever it answers, where the area tells its files: it is
-- written, or a part of it
pub record LeavesOne (told : Type 0) (history : List Entry) (made place : ℕ) (old new : Files)
    : Type 0 where
  pub left : (new ≡ old)
      ⊎ ((sum : Summary) × CanFollow place sum × (told → IsNext history made place sum)
      × IsWhole sum × MayWriteSummary sum old new)

abbrev pub LeavesNext :
    Type 0 → List Entry → ℕ → ℕ → Option Files → Option Files → Type 0
LeavesNext told history made place old new =
    Related (LeavesOne told history made place) old new

-- summaries were published behind those that are kept, up to a place, and are kept
pub record PublishesTo {V : Type 0} (g : Ghosts V) (told : Type 0) (history : List Entry)
    (first made : ℕ) (old new : V) (kept now : List Summary) (at : ℕ) : Type 0 where
  pub sums : List Summary
  pub now_is : now ≡ kept ++ sums
  pub follow : AreFollowing (end_behind first kept) sums
  pub next : told → AreNext history made (end_behind first kept) sums
  pub whole : AllByRecursion IsWhole sums
  pub ends : at ≡ end_behind (end_behind first kept) sums
  pub files : g.files new ≡ option_map (with_files sums) (g.files old)

-- summaries were published behind those that are kept, up to the last redo point, durably, and are
-- kept: none lies past their end
pub record Publishes {V : Type 0} (g : Ghosts V) (told : Type 0) (history : List Entry)
    (first made : ℕ) (old new : V) (kept now : List Summary) (count : ℕ) : Type 0 where
  pub sums : List Summary
  pub now_is : now ≡ kept ++ sums
  pub follow : AreFollowing (end_behind first kept) sums
  pub next : told → AreNext history made (end_behind first kept) sums
  pub whole : AllByRecursion IsWhole sums
  pub last : told → next_redo (end_behind (end_behind first kept) sums) history ≡ None
  pub counted : count ≡ length sums
  pub files : g.files new ≡ option_map (with_files sums) (g.files old)
  pub durable : IsDurable (g.files new) (g.past new)

-- the fault of the area of the summaries
abbrev pub sums_fault : AreaFault → StoreFault
sums_fault area.Failed = store.Failed SumsArea
sums_fault area.NoMemory = store.NoMemory

-- the fault of an advance for one of covering
abbrev pub cover_fault : CoverFault → AdvanceFault
cover_fault (cover.Gap place) = advance.Gap place
cover_fault cover.NoMemory = advance.Store store.NoMemory
