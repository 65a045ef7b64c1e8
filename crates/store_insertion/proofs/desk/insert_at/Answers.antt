use Rattle.std.proofs.Common.{◌≡◌, true, List, sym, subst, ◌∙◌}
use mathlib.Core.List.{IsPrefix}
use Rattle.history.specs.Entry.{Entry}
use Rattle.shared_store.proofs.Checkpoints.{inserts_of}
use Rattle.store_insertion.proofs.desk.insert_at.Goals as goal

pub returns-clause-inserts : goal.returns-clause-inserts
returns-clause-inserts g c =
    let done = c.insert_up_to_date-inserted.ensures in
    inserts_of (g.J.OfStore.tells ≡ true) g.J.OfCrew.settings.segment c.args.op.now c.args.own.now c.meet.new.own c.insert_up_to_date-inserted.new.own c.meet.new.self c.insert_up_to_date-inserted.new.desk c.insert_up_to_date-inserted.result
    (subst (λ (l : List Entry). IsPrefix c.args.own.now.list l) (c.meet.ensures.whole ∙ sym c.meet.ensures.same) c.meet.ensures.was.seen)
    c.meet.ensures.was.worker c.meet.ensures.was.accepted done.accepted done.taken done.refused done.same done.whole done.worker done.counted done.uncounted
