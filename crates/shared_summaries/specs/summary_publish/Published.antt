-- Which summaries are published of a history, and what that leaves of their area.
use Rattle.std.specs.Prelude.{◌≡◌, ◌⊎◌, ℕ, List, [], ◌∷◌, ◌++◌, length, Option, Some, None, IfSome, Result, Ok, Err}
use Rattle.std.specs.Global.{Vec}
use Rattle.std.specs.Option.{option_map}
use Rattle.std.specs.List.{AllByRecursion}
use Rattle.std.specs.FinMap.{insert}
use mathlib.Core.List.{IsPrefix}
use Rattle.lsn_core.specs.Files.{Files}
use Rattle.lsn_core.specs.Causes.{Rose}
use Rattle.lsn_core.specs.declared.fault.StoreArea.TheVariants.{Sums as SumsArea}
use Rattle.lsn_core.specs.declared.fault.StoreFault.{StoreFault}
use Rattle.lsn_core.specs.declared.fault.StoreFault.TheVariants as store
use Rattle.vault.specs.Frame.{IsDurable}
use Rattle.vault.specs.declared.area.Vault.{Ghosts}
use Rattle.history.specs.Entry.{Entry}
use Rattle.history.specs.fuzzy_copies.Summary.{summary_of}
use Rattle.wal_summary.specs.declared.summary.Summary.{Summary}
use Rattle.wal_summary.specs.Summary.{IsSummary}
use Rattle.wal_summary.specs.Kept.{IsCovering, IsGap}
use Rattle.summary_file.specs.File.{IsFileOf, IsWritable, summary_bytes}
use Rattle.summary_file.specs.Name.{summary_name_bytes}
use Rattle.wal_summary.specs.Kept.{AreInOrder}
use Rattle.summary_store.specs.Kept.{AreKept, end_behind}
use Rattle.summary_store.specs.Expiry.{AreHeld, expired, unexpired, without}
use Rattle.store_locks.specs.Seen.{Seen, SharesStay, TakesFault}
use Rattle.store_locks.specs.Locked.{IsOfWal}
use Rattle.store_locks.specs.Records.{IsPlaceOf}
use Rattle.shared_summaries.specs.summary_publish.Entries.{first_start, next_redo}
use Rattle.shared_summaries.specs.declared.summary_publish.known.Known.{Known}
use Rattle.store_faults.specs.declared.advance_fault.AdvanceFault.{AdvanceFault}
use Rattle.store_faults.specs.declared.advance_fault.AdvanceFault.TheVariants.{Gap, Store}

-- the summary of a history's entries from a place up to the next redo point
pub record IsNext (history : List Entry) (made place : ℕ) (sum : Summary) : Type 0 where
  pub starts : sum.start.0 ≡ place
  pub ends : next_redo place history ≡ Some sum.end.0
  pub at : sum.made ≡ made
  pub says : IsSummary (summary_of history place sum.end.0) sum.forks

-- the summaries of one such range behind the other
abbrev pub AreNext : List Entry → ℕ → ℕ → List Summary → Type 0
AreNext history made place [] = Unit {0}
AreNext history made place (sum ∷ sums) =
    IsNext history made place sum × AreNext history made sum.end.0 sums

-- the files with that of a summary, and with those of several, each in the place of one of its name
abbrev pub with_file : Summary → Files → Files
with_file sum files = insert files (summary_name_bytes sum.start.0 sum.end.0) (summary_bytes sum)

abbrev pub with_files : List Summary → Files → Files
with_files [] files = files
with_files (sum ∷ sums) files = with_files sums (with_file sum files)

-- the bytes that are written of a summary are its file
abbrev pub IsWhole : Summary → Type 0
IsWhole sum = IsFileOf sum (summary_bytes sum)

-- a summary that can be kept and written behind a place
pub record CanFollow (place : ℕ) (sum : Summary) : Type 0 where
  pub starts : sum.start.0 ≡ place
  pub written : IsWritable sum

-- and several, one behind the other
abbrev pub AreFollowing : ℕ → List Summary → Type 0
AreFollowing place [] = Unit {0}
AreFollowing place (sum ∷ sums) = CanFollow place sum × AreFollowing sum.end.0 sums

-- summaries are kept of an area: each has its file there, and their ranges are in order
pub record AreListed (files : Option Files) (kept : List Summary) : Type 0 where
  pub held : IfSome files (λ m. AreHeld m kept)
  pub order : AreInOrder 0 kept

-- where publishing goes on: the WAL is read from a place on; and these are kept of an area, where
-- they are known
pub record GoesOnFrom (told : Type 0) (history : List Entry) (files : Option Files) (known : Known)
    : Type 0 where
  pub at : told → IsPlaceOf history known.place.0
  pub kept : IfSome known.kept (λ v. AreListed files v.items)

-- those are kept that were known, or else those that are kept of all files
abbrev pub AreThose : Option Files → List Summary → Option (Vec Summary) → Type 0
AreThose files kept None = IfSome files (λ m. AreKept m kept)
AreThose files kept (Some v) = kept ≡ v.items

abbrev pub AreKnown : Option Files → Known → List Summary → Type 0
AreKnown files known kept = AreThose files kept known.kept

-- and these are known then
abbrev pub AreNow : Known → List Summary → Type 0
AreNow known kept = option_map (λ v. v.items) known.kept ≡ Some kept

-- summaries to publish of a history behind those that are kept of an area's files: from the
-- greatest kept end on, or from the first entry's start where none is kept, up to the last redo
-- point
pub record ArePublished (history : List Entry) (made : ℕ) (files : Files)
    (kept sums : List Summary) : Type 0 where
  pub held : AreHeld files kept
  pub next : AreNext history made (end_behind (first_start history) kept) sums
  pub last : next_redo (end_behind (end_behind (first_start history) kept) sums) history ≡ None
  pub whole : AllByRecursion IsWhole sums

-- files with those of the summaries that were published, and without those of the ones that are
-- expired then
abbrev pub files_then : ℕ → List Summary → List Summary → Files → Files
files_then limit kept sums files = without (expired limit (kept ++ sums)) (with_files sums files)

-- these were published, and the expired ones were removed: the files of an area are those that were
-- there, with those of the one and without those of the other, durably. The number is that of those
-- that were published
pub record Advances {V : Type 0} (g : Ghosts V) (told : Type 0) (history : List Entry)
    (made limit : ℕ) (old new : V) (kept now : List Summary) (count : ℕ) : Type 0 where
  pub sums : List Summary
  pub published : told → IfSome (g.files old) (λ m. ArePublished history made m kept sums)
  pub counted : count ≡ length sums
  pub kept_is : now ≡ unexpired limit (kept ++ sums)
  pub files : g.files new ≡ option_map (files_then limit kept sums) (g.files old)
  pub durable : IsDurable (g.files new) (g.past new)

-- so it was, behind what was known, and this is known then
pub record IsAdvanced {V : Type 0} (g : Ghosts V) (told : Type 0) (history : List Entry)
    (made limit : ℕ) (old new : V) (before known : Known) (count : ℕ) : Type 0 where
  pub kept : List Summary
  pub known_before : AreKnown (g.files old) before kept
  pub listed : AreListed (g.files old) kept
  pub now : List Summary
  pub known_now : AreNow known now
  pub advances : Advances g told history made limit old new kept now count

-- so it was, and this holds of the summaries that are kept then
pub record AdvancesTo {V : Type 0} (g : Ghosts V) (told : Type 0) (history : List Entry)
    (made limit : ℕ) (old new : V) (before known : Known) (P : List Summary → Type 0) : Type 0 where
  pub count : ℕ
  pub advanced : IsAdvanced g told history made limit old new before known count
  pub so : P advanced.now

-- what covers a range then, or else the least place of it that nothing covers
abbrev pub AdvanceAnswers : {V : Type 0} → Ghosts V → Type 0 → List Entry → ℕ → ℕ → ℕ → ℕ → V → V
    → Known → Known → Result Summary AdvanceFault → Type 0
AdvanceAnswers g told history made limit from to old new before known (Ok sum) =
    AdvancesTo g told history made limit old new before known (λ kept. IsCovering kept from to sum)
AdvanceAnswers g told history made limit from to old new before known (Err (Gap place)) =
    AdvancesTo g told history made limit old new before known (λ kept. IsGap kept from to place.0)
AdvanceAnswers g told history made limit from to old new before known (Err (Store fault)) =
    Unit {0}

-- a pass only looked on: nothing that it had seen is lost, the worker stays, no command of it is
-- counted and no mark, and no fault that it was answered is forgotten
pub record LooksOn (old new : Seen) : Type 0 where
  pub seen : IsPrefix old.list new.list
  pub worker : new.worker ≡ old.worker
  pub accepted : new.accepted ≡ old.accepted
  pub marks : new.marks ≡ old.marks
  pub shares : SharesStay old.faults new.faults

-- ---- faults

-- the WAL was read, and its area failed: that is booked; want of memory may come at any time
abbrev pub WalCause : Seen → Seen → StoreFault → Type 0
WalCause old new fault = IsOfWal fault × TakesFault old new fault

-- the area of the summaries failed, only where its count rose
abbrev pub SumsCause : ℕ → ℕ → StoreFault → Type 0
SumsCause before now (store.Failed area) = (area ≡ SumsArea) × Rose before now
SumsCause before now store.NoMemory = Unit {0}

-- one of the two failed. A fault of the area of the summaries is left to book
abbrev pub PublishCause : ℕ → ℕ → Seen → Seen → StoreFault → Type 0
PublishCause before now old new fault =
    WalCause old new fault ⊎ (SumsCause before now fault × (new.faults ≡ old.faults))

-- the faults that a reading of the WAL booked, and those that a publishing did
abbrev pub ReadTakes : {T : Type 0} → Seen → Seen → Result T StoreFault → Type 0
ReadTakes old new (Ok x) = new.faults ≡ old.faults
ReadTakes old new (Err fault) = WalCause old new fault

abbrev pub PublishTakes :
    {T : Type 0} → ℕ → ℕ → Seen → Seen → Result T StoreFault → Type 0
PublishTakes before now old new (Ok x) = new.faults ≡ old.faults
PublishTakes before now old new (Err fault) = PublishCause before now old new fault

abbrev pub AdvanceTakes :
    {T : Type 0} → ℕ → ℕ → Seen → Seen → Result T AdvanceFault → Type 0
AdvanceTakes before now old new (Ok x) = new.faults ≡ old.faults
AdvanceTakes before now old new (Err (Gap place)) = new.faults ≡ old.faults
AdvanceTakes before now old new (Err (Store fault)) = PublishCause before now old new fault
