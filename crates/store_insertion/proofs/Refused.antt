-- A command that is refused before it is judged on its pages.
use Rattle.std.proofs.Common.{ℕ, List, Err}
use Rattle.lsn_core.specs.declared.fault.StoreFault.{StoreFault}
use Rattle.lsn_core.specs.declared.fault.StoreFault.TheVariants as store
use Rattle.history.specs.declared.op.Op.{Op}
use Rattle.history.specs.Entry.{Entry}
use Rattle.history.specs.Written.{tip_of}
use Rattle.journal.specs.Lawful.{IsLawful}
use Rattle.store_locks.specs.Refusals.{IsRefused, IsRefusedBehind}
use Rattle.store_locks.specs.Inside.{insert_fault}
use Rattle.store_locks.specs.Locked.{Standing, Follows, Inserts}

pub fault_refuses : (mib : ℕ) (history : List Entry) (command : Op) (f : StoreFault) → IsLawful mib history → IsRefusedBehind mib history command (insert_fault f)
fault_refuses mib history command f lawful = record { store = lawful.store; state = lawful.made; why = free f }
  where
    free : (f : StoreFault) → IsRefused mib lawful.store (tip_of mib history) command (insert_fault f)
    free (store.Failed area) = tt
    free store.NoMemory = tt

pub fault_answers : (tells : Type 0) (mib : ℕ) (command : Op) (old new : Standing) (f : StoreFault) → (tells → IsLawful mib new.list) → Follows old new → Inserts tells mib command old new (Err (insert_fault f))
fault_answers tells mib command old new f lawful was = (
  record {
    past = was.seen;
    refused = λ t. fault_refuses mib new.list command f (lawful t);
    counted = was.accepted;
  },
  was.worker,
)
