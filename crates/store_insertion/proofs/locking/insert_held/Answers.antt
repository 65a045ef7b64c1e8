use Rattle.std.proofs.Common.{◌≡◌, true, Err, sym, subst}
use Rattle.store_faults.specs.declared.insert_fault.InsertFault.{InsertFault}
use Rattle.store_locks.specs.Locked.{Inserts}
use Rattle.store_insertion.proofs.Refused.{fault_answers}
use Rattle.store_insertion.proofs.locking.insert_held.Goals as goal

pub returns-in-Err-clause-inserts : goal.returns-in-Err-clause-inserts
returns-in-Err-clause-inserts g c =
    subst (λ (f : InsertFault). Inserts (g.J.OfStore.tells ≡ true) g.J.OfCrew.settings.segment c.args.op.now c.args.own.now c.make_room.new.own (Err f)) (sym c.insert_fault.ensures)
    (fault_answers (g.J.OfStore.tells ≡ true) g.J.OfCrew.settings.segment c.args.op.now c.args.own.now c.make_room.new.own c.in-Err.fault c.make_room.ensures.lawful c.make_room.ensures.was)
