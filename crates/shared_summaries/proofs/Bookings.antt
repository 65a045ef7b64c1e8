-- Faults of the area of summaries, booked behind a call.
use Rattle.std.proofs.Common.{◌≡◌, inl, inr, ℕ, ◌≤◌, Option, Some, None, Result, Ok, Err, sym, ap, ◌∙◌, subst, arith}
use Rattle.lsn_core.specs.declared.fault.StoreArea.TheVariants.{Wal, Data, Sums}
use Rattle.lsn_core.specs.declared.fault.StoreFault.{StoreFault}
use Rattle.lsn_core.specs.declared.fault.StoreFault.TheVariants as store
use mathlib.Core.List.{IsPrefix}
use Rattle.store_locks.specs.Seen.{Seen, SharesStay, TakesFault, with_fault}
use Rattle.shared_store.proofs.Booked.{one_stays}
use Rattle.shared_store.specs.Shared.{TakesFaults}
use Rattle.store_locks.specs.Locked.{HasRisen}
use Rattle.shared_summaries.specs.summary_publish.Published.{LooksOn, PublishCause, PublishTakes, AdvanceTakes}
use Rattle.shared_summaries.proofs.summary_publish.Adding.{stays_same}
use Rattle.shared_summaries.proofs.summary_publish.Later.{prefix_self}
use Rattle.store_faults.specs.declared.advance_fault.AdvanceFault.{AdvanceFault}
use Rattle.store_faults.specs.declared.advance_fault.AdvanceFault.TheVariants.{Gap, Store}
use Rattle.shared_summaries.specs.Shelf.{TakesAdvanceFaults}
use Rattle.shared_summaries.specs.Inside.{HasBooked, fault_of, advance_fault, with_sums}

-- ---- the fault that is answered is booked

taken : (before now book total : ℕ) (old mid new : Seen) (fault : StoreFault) → PublishCause before now old mid fault → HasBooked (Some fault) mid new book total → TakesFault old new fault
taken before now book total old mid new store.NoMemory (inl wal) b = b.faults ∙ wal.1
taken before now book total old mid new store.NoMemory (inr sums) b = b.faults ∙ sums.1
taken before now book total old mid new (store.Failed Wal) (inl wal) b = (wal.1.0, b.faults ∙ wal.1.1)
taken before now book total old mid new (store.Failed Wal) (inr sums) b = absurd (let e = sums.0.0 in cc)
taken before now book total old mid new (store.Failed (Data q)) (inl wal) b = absurd (let e = wal.0 in cc)
taken before now book total old mid new (store.Failed (Data q)) (inr sums) b = absurd (let e = sums.0.0 in cc)
taken before now book total old mid new (store.Failed Sums) (inl wal) b = absurd (let e = wal.0 in cc)
taken before now book total old mid new (store.Failed Sums) (inr sums) b = (tt, b.faults ∙ ap (with_fault Sums) sums.1)

pub all_taken : (before now book total : ℕ) (old mid new : Seen) (r : Result ℕ StoreFault) → PublishTakes before now old mid r → HasBooked (fault_of r) mid new book total → TakesFaults old new r
all_taken before now book total old mid new (Ok count) takes b = b.faults ∙ takes
all_taken before now book total old mid new (Err fault) takes b = taken before now book total old mid new fault takes b

pub advance_taken : {T : Type 0} (before now book total : ℕ) (old mid new : Seen) (r : Result T AdvanceFault) → AdvanceTakes before now old mid r → HasBooked (advance_fault r) mid new book total → TakesAdvanceFaults old new r
advance_taken before now book total old mid new (Ok x) takes b = b.faults ∙ takes
advance_taken before now book total old mid new (Err (Gap place)) takes b = b.faults ∙ takes
advance_taken before now book total old mid new (Err (Store fault)) takes b = taken before now book total old mid new fault takes b

-- ---- and the area's count has risen by it

risen : (start before now book total : ℕ) (old mid new : Seen) (fault : StoreFault) → HasRisen start book before → before ≤ now → PublishCause before now old mid fault → HasBooked (Some fault) mid new book total → HasRisen start total now
risen start before now book total old mid new store.NoMemory is later cause b = let t = b.total in let a = is.0 in let up = is.1 in (omega (arith, a, later), omega (arith, up, later, t))
risen start before now book total old mid new (store.Failed Wal) is later cause b = let t = b.total in let a = is.0 in let up = is.1 in (omega (arith, a, later), omega (arith, up, later, t))
risen start before now book total old mid new (store.Failed (Data q)) is later cause b = let t = b.total in let a = is.0 in let up = is.1 in (omega (arith, a, later), omega (arith, up, later, t))
risen start before now book total old mid new (store.Failed Sums) is later (inl wal) b = absurd (let e = wal.0 in cc)
risen start before now book total old mid new (store.Failed Sums) is later (inr sums) b = let t = b.total in let rose = sums.0.1 in let a = is.0 in let up = is.1 in (omega (arith, a, later), omega (arith, up, rose, t))

stood : (start before now book total : ℕ) (old new : Seen) → HasRisen start book before → before ≤ now → HasBooked None old new book total → HasRisen start total now
stood start before now book total old new is later b = let t = b.total in let a = is.0 in let up = is.1 in (omega (arith, a, later), omega (arith, up, later, t))

pub all_risen : (start before now book total : ℕ) (old mid new : Seen) (r : Result ℕ StoreFault) → HasRisen start book before → before ≤ now → PublishTakes before now old mid r → HasBooked (fault_of r) mid new book total → HasRisen start total now
all_risen start before now book total old mid new (Ok count) is later takes b = stood start before now book total mid new is later b
all_risen start before now book total old mid new (Err fault) is later takes b = risen start before now book total old mid new fault is later takes b

pub advance_risen : {T : Type 0} (start before now book total : ℕ) (old mid new : Seen) (r : Result T AdvanceFault) → HasRisen start book before → before ≤ now → AdvanceTakes before now old mid r → HasBooked (advance_fault r) mid new book total → HasRisen start total now
advance_risen start before now book total old mid new (Ok x) is later takes b = stood start before now book total mid new is later b
advance_risen start before now book total old mid new (Err (Gap place)) is later takes b = stood start before now book total mid new is later b
advance_risen start before now book total old mid new (Err (Store fault)) is later takes b = risen start before now book total old mid new fault is later takes b

-- ---- behind a call that answered no fault

fault_before : (a b new : Seen) (fault : StoreFault) → b.faults ≡ a.faults → TakesFault b new fault → TakesFault a new fault
fault_before a b new (store.Failed area) same takes = (takes.0, takes.1 ∙ ap (with_fault area) same)
fault_before a b new store.NoMemory same takes = takes ∙ same

pub takes_before : {T : Type 0} (a b new : Seen) (r : Result T StoreFault) → b.faults ≡ a.faults → TakesFaults b new r → TakesFaults a new r
takes_before a b new (Ok x) same takes = takes ∙ same
takes_before a b new (Err fault) same takes = fault_before a b new fault same takes

pub advance_before : {T : Type 0} (a b new : Seen) (r : Result T AdvanceFault) → b.faults ≡ a.faults → TakesAdvanceFaults b new r → TakesAdvanceFaults a new r
advance_before a b new (Ok x) same takes = takes ∙ same
advance_before a b new (Err (Gap place)) same takes = takes ∙ same
advance_before a b new (Err (Store fault)) same takes = fault_before a b new fault same takes

-- ---- booking forgets nothing

shares_stay : (fault : Option StoreFault) (old new : Seen) → new.faults ≡ with_sums fault old.faults → SharesStay old.faults new.faults
shares_stay None old new same = stays_same old.faults new.faults same
shares_stay (Some (store.Failed Wal)) old new same = stays_same old.faults new.faults same
shares_stay (Some (store.Failed (Data q))) old new same = stays_same old.faults new.faults same
shares_stay (Some (store.Failed Sums)) old new more = one_stays Sums old new (tt, more)
shares_stay (Some store.NoMemory) old new same = stays_same old.faults new.faults same

pub booked_looks : (fault : Option StoreFault) (old new : Seen) (book total : ℕ) → HasBooked fault old new book total → LooksOn old new
booked_looks fault old new book total b = record {
  seen = subst (IsPrefix old.list) (sym b.list) (prefix_self old.list);
  worker = b.worker;
  accepted = b.accepted;
  marks = b.marks;
  shares = shares_stay fault old new b.faults;
}
