-- What lies under the lock of the summaries. No public contract cites these.
use Rattle.std.specs.Prelude.{◌≡◌, ℕ, ◌+◌, List, Option, Some, None, Result, Ok, Err}
use Rattle.std.specs.Global.{Vec}
use Rattle.lsn_core.specs.Files.{Files}
use Rattle.lsn_core.specs.Segment.{StoreSettings}
use Rattle.lsn_core.specs.declared.fault.StoreArea.TheVariants.{Wal, Data, Sums}
use Rattle.lsn_core.specs.declared.fault.StoreFault.{StoreFault}
use Rattle.lsn_core.specs.declared.fault.StoreFault.TheVariants as store
use Rattle.vault.specs.declared.area.Vault.{Ghosts}
use Rattle.history.specs.Entry.{Entry}
use Rattle.journal.specs.Lawful.{IsLawful}
use Rattle.store_locks.specs.Seen.{Seen, Booked, with_fault}
use Rattle.store_locks.specs.Locked.{RunsOn, HasRisen}
use Rattle.store_locks.specs.Records.{IsPlaceOf}
use Rattle.wal_summary.specs.declared.summary.Summary.{Summary}
use Rattle.shared_summaries.specs.declared.summary_publish.known.Known.{Known}
use Rattle.store_faults.specs.declared.advance_fault.AdvanceFault.{AdvanceFault}
use Rattle.store_faults.specs.declared.advance_fault.AdvanceFault.TheVariants.{Gap, Store}
use Rattle.shared_summaries.specs.Shelf.{AreShelved, AreKeptOn}

-- what the lock holds: the area, the beginning of the history that its summaries were made of,
-- where publishing goes on there, and the faults of the area that are booked
pub record Shelf (V : Type 0) : Type 0 where
  pub area : V
  pub list : List Entry
  pub known : Known
  pub limit : ℕ
  pub booked : ℕ

-- what is known to be kept has grown since the run began; where nothing is known, the area has
-- still the files that it had then
abbrev pub AreKeptThere : Type 0 → List Entry → Option Files → ℕ → Option Files
    → Option (Vec Summary) → Type 0
AreKeptThere tells found begun limit files None = files ≡ begun
AreKeptThere tells found begun limit files (Some v) =
    AreKeptOn tells found begun limit files v.items

-- what it keeps: that beginning goes on from what was found, lawfully, the area is true for it,
-- what is kept of it has grown, and it failed at least as often as is booked
pub record IsShelf {V : Type 0} (g : Ghosts V) (tells : Type 0) (s : StoreSettings)
    (found : List Entry) (begun : Option Files) (limit start : ℕ) (shelf : Shelf V)
    : Type 0 where
  pub begins : RunsOn found shelf.list
  pub lawful : tells → IsLawful s.segment shelf.list
  pub shelved : AreShelved tells found begun shelf.list (g.files shelf.area)
  pub kept : AreKeptThere tells found begun limit (g.files shelf.area) shelf.known.kept
  pub limit_is : shelf.limit ≡ limit
  pub at : tells → IsPlaceOf shelf.list shelf.known.place.0
  pub risen : HasRisen start shelf.booked (g.faults shelf.area)

-- the fault that a call answers, if any
abbrev pub fault_of : {T : Type 0} → Result T StoreFault → Option StoreFault
fault_of (Ok x) = None
fault_of (Err fault) = Some fault

abbrev pub advance_fault : {T : Type 0} → Result T AdvanceFault → Option StoreFault
advance_fault (Ok x) = None
advance_fault (Err (Gap place)) = None
advance_fault (Err (Store fault)) = Some fault

-- one of the area of summaries is booked; another one was booked before
abbrev pub sums_failures : Option StoreFault → ℕ
sums_failures None = 0
sums_failures (Some (store.Failed Wal)) = 0
sums_failures (Some (store.Failed (Data q))) = 0
sums_failures (Some (store.Failed Sums)) = 1
sums_failures (Some store.NoMemory) = 0

abbrev pub with_sums : Option StoreFault → Booked → Booked
with_sums None b = b
with_sums (Some (store.Failed Wal)) b = b
with_sums (Some (store.Failed (Data q))) b = b
with_sums (Some (store.Failed Sums)) b = with_fault Sums b
with_sums (Some store.NoMemory) b = b

-- a pass that this was booked of, and the book's total
pub record HasBooked (fault : Option StoreFault) (old new : Seen) (book now : ℕ) : Type 0 where
  pub list : new.list ≡ old.list
  pub worker : new.worker ≡ old.worker
  pub accepted : new.accepted ≡ old.accepted
  pub marks : new.marks ≡ old.marks
  pub faults : new.faults ≡ with_sums fault old.faults
  pub total : now ≡ book + sums_failures fault
