-- What the fault that a call booked says of its worker's shares.
use Rattle.std.proofs.Common.{◌≡◌, ℕ, zero, suc, ◌+◌, ◌<◌, ◌≤◌, Bool, true, false, cond, Option, Some, None, Result, Ok, Err, ap, subst, sym, arith}
use Rattle.std.specs.Prelude.{◌==◌}
use Rattle.lsn_core.specs.declared.fault.StoreArea.{StoreArea}
use Rattle.lsn_core.specs.declared.fault.StoreArea.TheVariants.{Wal, Data, Sums}
use Rattle.lsn_core.specs.declared.fault.StoreFault.{StoreFault}
use Rattle.lsn_core.specs.declared.fault.StoreFault.TheVariants as store
use Rattle.lsn_core.specs.declared.fault.MarkFault.{MarkFault}
use Rattle.lsn_core.specs.declared.fault.MarkFault.TheVariants as mark
use Rattle.store_locks.specs.declared.receipt.Receipt.{Receipt}
use Rattle.store_faults.specs.declared.insert_fault.InsertFault.{InsertFault}
use Rattle.store_locks.specs.Seen.{Seen, Booked, SharesStay, ShareRose, BooksOne, BooksIf, IsThere, failed_area, share_of, share_of_data, with_fault, with_data}
use Rattle.shared_store.specs.Shared.{TakesFaults, TakesInsertFault, TakesMarkFault}

-- ---- one more of an area

data_more : (q : ℕ) (b : Booked) → q < 4 → share_of_data q (with_data q b) ≡ share_of_data q b + 1
data_more zero b lt = omega arith
data_more (suc zero) b lt = omega arith
data_more (suc (suc zero)) b lt = omega arith
data_more (suc (suc (suc zero))) b lt = omega arith
data_more (suc (suc (suc (suc n)))) b lt = absurd (omega (arith, lt))

fault_more : (area : StoreArea) (b : Booked) → IsThere area → share_of area (with_fault area b) ≡ share_of area b + 1
fault_more Wal b there = omega arith
fault_more (Data q) b there = data_more q b there
fault_more Sums b there = omega arith

pub takes_rose : (area : StoreArea) (old new : Seen) → BooksOne area old new → ShareRose area old new
takes_rose area old new books = omega (arith, ap (share_of area) books.1, fault_more area old.faults books.0)

-- ---- none of any is lost

record AreLater (b c : Booked) : Type 0 where
  wal : b.wal ≤ c.wal
  data0 : b.data0 ≤ c.data0
  data1 : b.data1 ≤ c.data1
  data2 : b.data2 ≤ c.data2
  data3 : b.data3 ≤ c.data3
  sums : b.sums ≤ c.sums

abbrev picked : (p q r s : Bool) → Booked → ℕ
picked p q r s b = cond p b.data0 (cond q b.data1 (cond r b.data2 (cond s b.data3 0)))

picked_later : (p q r s : Bool) (b c : Booked) → AreLater b c → picked p q r s b ≤ picked p q r s c
picked_later true q r s b c l = l.data0
picked_later false true r s b c l = l.data1
picked_later false false true s b c l = l.data2
picked_later false false false true b c l = l.data3
picked_later false false false false b c l = omega arith

all_stay : (b c : Booked) → AreLater b c → (area : StoreArea) → share_of area b ≤ share_of area c
all_stay b c l Wal = l.wal
all_stay b c l (Data q) = picked_later (q == 0) (q == 1) (q == 2) (q == 3) b c l
all_stay b c l Sums = l.sums

same_later : (b : Booked) → AreLater b b
same_later b = record { wal = omega arith; data0 = omega arith; data1 = omega arith; data2 = omega arith; data3 = omega arith; sums = omega arith }

abbrev more_of : (p q r s : Bool) → Booked → Booked
more_of p q r s b =
    cond p (record b { data0 = b.data0 + 1 }) (cond q (record b { data1 = b.data1 + 1 }) (cond r (record b { data2 = b.data2 + 1 }) (cond s (record b { data3 = b.data3 + 1 }) b)))

more_later : (p q r s : Bool) (b : Booked) → AreLater b (more_of p q r s b)
more_later true q r s b = record { wal = omega arith; data0 = omega arith; data1 = omega arith; data2 = omega arith; data3 = omega arith; sums = omega arith }
more_later false true r s b = record { wal = omega arith; data0 = omega arith; data1 = omega arith; data2 = omega arith; data3 = omega arith; sums = omega arith }
more_later false false true s b = record { wal = omega arith; data0 = omega arith; data1 = omega arith; data2 = omega arith; data3 = omega arith; sums = omega arith }
more_later false false false true b = record { wal = omega arith; data0 = omega arith; data1 = omega arith; data2 = omega arith; data3 = omega arith; sums = omega arith }
more_later false false false false b = same_later b

fault_later : (area : StoreArea) (b : Booked) → AreLater b (with_fault area b)
fault_later Wal b = record { wal = omega arith; data0 = omega arith; data1 = omega arith; data2 = omega arith; data3 = omega arith; sums = omega arith }
fault_later (Data q) b = more_later (q == 0) (q == 1) (q == 2) (q == 3) b
fault_later Sums b = record { wal = omega arith; data0 = omega arith; data1 = omega arith; data2 = omega arith; data3 = omega arith; sums = omega arith }

none_stays : (old new : Seen) → new.faults ≡ old.faults → SharesStay old.faults new.faults
none_stays old new same =
    record { later = all_stay old.faults new.faults (subst (AreLater old.faults) (sym same) (same_later old.faults)) }

pub one_stays : (area : StoreArea) (old new : Seen) → BooksOne area old new → SharesStay old.faults new.faults
one_stays area old new books =
    record { later = all_stay old.faults new.faults (subst (AreLater old.faults) (sym books.1) (fault_later area old.faults)) }

-- whatever a call on the store answers
pub takes_stays : {T : Type 0} (old new : Seen) (r : Result T StoreFault) → TakesFaults old new r → SharesStay old.faults new.faults
takes_stays old new (Ok x) takes = none_stays old new takes
takes_stays old new (Err (store.Failed area)) takes = one_stays area old new takes
takes_stays old new (Err store.NoMemory) takes = none_stays old new takes

if_stays : (area : Option StoreArea) (old new : Seen) → BooksIf area old new → SharesStay old.faults new.faults
if_stays None old new books = none_stays old new books
if_stays (Some area) old new books = one_stays area old new books

pub insert_stays : (old new : Seen) (r : Result Receipt InsertFault) → TakesInsertFault old new r → SharesStay old.faults new.faults
insert_stays old new (Ok receipt) takes = none_stays old new takes
insert_stays old new (Err fault) takes = if_stays (failed_area fault) old new takes

pub mark_stays : {T : Type 0} (old new : Seen) (r : Result T MarkFault) → TakesMarkFault old new r → SharesStay old.faults new.faults
mark_stays old new (Ok x) takes = none_stays old new takes
mark_stays old new (Err (mark.Failed area)) takes = one_stays area old new takes
mark_stays old new (Err (mark.WalFull n)) takes = none_stays old new takes
mark_stays old new (Err mark.NoMemory) takes = none_stays old new takes

pub shares_on : (a b c : Booked) → SharesStay a b → SharesStay b c → SharesStay a c
shares_on a b c one two = record { later = λ area. omega (arith, one.later area, two.later area) }
