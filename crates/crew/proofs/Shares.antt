-- The faults that a worker's pass books.
use Rattle.std.proofs.Common.{◌≡◌, ap, subst, arith}
use Rattle.std.specs.Prelude.{Err}
use Rattle.lsn_core.specs.declared.fault.StoreArea.{StoreArea}
use Rattle.lsn_core.specs.declared.fault.StoreFault.{StoreFault}
use Rattle.lsn_core.specs.declared.fault.StoreFault.TheVariants as store
use Rattle.store_faults.specs.declared.insert_fault.InsertFault.{InsertFault}
use Rattle.store_faults.specs.declared.insert_fault.InsertFault.TheVariants as insert
use Rattle.store_locks.specs.Seen.{Seen, Booked, SharesStay, ShareRose, BooksIf, TakesFault, share_of, failed_area}
use Rattle.shared_store.proofs.Booked.{takes_rose, takes_stays, insert_stays}

-- ---- one call behind another

pub shares_same : (a b : Booked) → b ≡ a → SharesStay a b
shares_same a b same = record { later = λ area. omega (arith, ap (share_of area) same) }

pub rose_on : (area : StoreArea) (a b c : Seen) → ShareRose area a b → SharesStay b.faults c.faults → ShareRose area a c
rose_on area a b c rose stays = omega (arith, rose, stays.later area)

pub rose_from : (area : StoreArea) (a b c : Seen) → SharesStay a.faults b.faults → ShareRose area b c → ShareRose area a c
rose_from area a b c stays rose = omega (arith, stays.later area, rose)

-- ---- what calls book

pub fault_stays : (old new : Seen) (fault : StoreFault) → TakesFault old new fault → SharesStay old.faults new.faults
fault_stays old new fault takes = takes_stays {T = Unit {0}} old new (Err fault) takes

pub fault_rose : (old new : Seen) (fault : StoreFault) (area : StoreArea) → TakesFault old new fault → fault ≡ store.Failed area → ShareRose area old new
fault_rose old new fault area takes is = takes_rose area old new (subst (λ (f : StoreFault). TakesFault old new f) is takes)

pub refusal_stays : (old new : Seen) (why : InsertFault) → BooksIf (failed_area why) old new → SharesStay old.faults new.faults
refusal_stays old new why books = insert_stays old new (Err why) books

pub refusal_rose : (old new : Seen) (why : InsertFault) (area : StoreArea) → BooksIf (failed_area why) old new → why ≡ insert.Failed area → ShareRose area old new
refusal_rose old new why area books is = takes_rose area old new (subst (λ (w : InsertFault). BooksIf (failed_area w) old new) is books)
