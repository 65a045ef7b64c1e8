-- The area of summaries that workers share, as it is when one of them holds its lock.
use Rattle.std.specs.Prelude.{◌≡◌, ◌<◌, ℕ, List, ◌++◌, length, Option, Some, IfSome, IsSome, Result, Ok, Err}
use Rattle.lsn_core.specs.Files.{Files}
use Rattle.vault.specs.Site.{AreaState}
use Rattle.vault.specs.declared.area.Vault.{Ghosts}
use Rattle.history.specs.Entry.{Entry}
use Rattle.history.specs.fuzzy_copies.Orderly.{IsOrderly}
use Rattle.wal_summary.specs.declared.summary.Summary.{Summary}
use Rattle.wal_summary.specs.Kept.{IsCovering, IsGap}
use Rattle.summary_store.specs.Kept.{AreKept}
use Rattle.summary_store.specs.Honest.{IsHonest}
use Rattle.store_locks.specs.Seen.{Seen, TakesFault}
use Rattle.shared_summaries.specs.summary_publish.Entries.{first_start}
use Rattle.shared_summaries.specs.summary_publish.Published.{Advances, AreListed}
use Rattle.shared_summaries.specs.summary_publish.True.{IsTrue}
use Rattle.store_faults.specs.declared.advance_fault.AdvanceFault.{AdvanceFault}
use Rattle.store_faults.specs.declared.advance_fault.AdvanceFault.TheVariants.{Gap, Store}
use Rattle.shared_summaries.specs.Grown.{HasGrown}

-- an area's files are true for a history that goes on from what a run found, where they were honest
-- for that when it began
abbrev pub IsTrueFor : List Entry → Option Files → List Entry → Option Files → Type 0
IsTrueFor found begun history files =
    IsOrderly 0 history → IfSome begun (IsHonest found)
    → (own : List Entry) → history ≡ found ++ own → IfSome files (IsTrue found own)

-- what is kept of an area has grown so since it had the files that a run began with
abbrev pub HasGrownFor : List Entry → Option Files → ℕ → List Summary → Type 0
HasGrownFor found begun limit kept =
    0 < length found → (m : Files) (first : List Summary) → begun ≡ Some m → AreKept m first
    → HasGrown (first_start found) limit first kept

-- the area tells its files where it told them when the run began, and they are true for a history
pub record AreShelved (tells : Type 0) (found : List Entry) (begun : Option Files)
    (now : List Entry) (files : Option Files) : Type 0 where
  pub told : IsSome begun → IsSome files
  pub true_for : tells → IsTrueFor found begun now files

-- these are kept of it, by neighbours behind what was kept when the run began but for old ones
pub record AreKeptOn (tells : Type 0) (found : List Entry) (begun : Option Files) (limit : ℕ)
    (files : Option Files) (kept : List Summary) : Type 0 where
  pub listed : AreListed files kept
  pub grown : tells → HasGrownFor found begun limit kept

-- areas as they are known at home
abbrev pub states : Ghosts AreaState
states = record {
  files = λ area. area.files;
  faults = λ area. area.faults;
  past = λ area. area.past;
}

-- a worker held the lock: of what it has seen now so many summaries were published, behind those
-- that were kept, and the old ones were removed
pub record HasPublished (tells : Type 0) (found : List Entry) (begun : Option Files)
    (now : List Entry) (when limit count : ℕ) : Type 0 where
  pub old : AreaState
  pub new : AreaState
  pub kept : List Summary
  pub rest : List Summary
  pub shelved : AreShelved tells found begun now old.files
  pub keeps : AreKeptOn tells found begun limit old.files kept
  pub advances : Advances states tells now when limit old new kept rest count
  pub stays : AreShelved tells found begun now new.files
  pub goes_on : AreKeptOn tells found begun limit new.files rest

-- what covers a range among those that are kept, or else the least place of it that nothing covers
abbrev pub CoversThen : List Summary → ℕ → ℕ → Result Summary AdvanceFault → Type 0
CoversThen kept from to (Ok sum) = IsCovering kept from to sum
CoversThen kept from to (Err (Gap place)) = IsGap kept from to place.0
CoversThen kept from to (Err (Store fault)) = ⊥

-- so it did, and this covers a range then, or else this is the least place of it that nothing
-- covers
pub record HasCoveredSo (tells : Type 0) (found : List Entry) (begun : Option Files)
    (now : List Entry) (when limit from to : ℕ) (answer : Result Summary AdvanceFault)
    : Type 0 where
  pub count : ℕ
  pub published : HasPublished tells found begun now when limit count
  pub covers : CoversThen published.rest from to answer

-- or a call failed
abbrev pub HasCovered : Type 0 → List Entry → Option Files → List Entry → ℕ → ℕ → ℕ → ℕ
    → Result Summary AdvanceFault → Type 0
HasCovered tells found begun now when limit from to (Ok sum) =
    HasCoveredSo tells found begun now when limit from to (Ok sum)
HasCovered tells found begun now when limit from to (Err (Gap place)) =
    HasCoveredSo tells found begun now when limit from to (Err (Gap place))
HasCovered tells found begun now when limit from to (Err (Store fault)) = Unit {0}

-- the fault that a call answers is booked, that of the area of summaries too, and no other
abbrev pub TakesAdvanceFaults : {T : Type 0} → Seen → Seen → Result T AdvanceFault → Type 0
TakesAdvanceFaults old new (Ok x) = new.faults ≡ old.faults
TakesAdvanceFaults old new (Err (Gap place)) = new.faults ≡ old.faults
TakesAdvanceFaults old new (Err (Store fault)) = TakesFault old new fault
