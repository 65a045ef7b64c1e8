use Rattle.std.proofs.Common.{ℕ, refl, sym, ap, subst, ◌∙◌, inl}
use Rattle.history.specs.Entry.{RedoMark}
use Rattle.store_locks.specs.Inside.{HasMark}
use Rattle.store_locks.specs.Locked.{Standing}
use Rattle.store_locks.proofs.Desks.{desk_marked, desk_same, more_marks, runs_on_mark}
use Rattle.store_locks.proofs.desk.Desk.append_start.Goals as goal

pub invariant_of-self : goal.invariant_of-self
invariant_of-self g c =
    let d = c.self.inside in
    desk_same g.W.Vault _ _ _ _ _ _ d.journal c.append_start.new.journal d.mark.to.0 d.faults.total d.counts.items d.counts.items d.entries d.made.total c.in_err-place.ensures.same refl c.self.invariant

pub mark-requires-clause-segment : goal.mark-requires-clause-segment
mark-requires-clause-segment g c = λ κs lives. c.append_start.ensures.adds.segment ∙ c.self.invariant.wal.segment

pub mark-requires-clause-grown : goal.mark-requires-clause-grown
mark-requires-clause-grown g c = λ κs lives.
    runs_on_mark g.J.OfCrew.found c.self.inside.journal.pen c.append_start.new.journal.pen c.own.inside.worker (RedoMark 1) c.in_ok-place.place c.self.invariant.grown c.in_ok-place.ensures.marked

pub mark-requires-clause-more : goal.mark-requires-clause-more
mark-requires-clause-more g c = λ κs lives.
    more_marks c.args.own.now c.self.inside.journal.pen c.append_start.new.journal.pen (RedoMark 1) c.in_ok-place.place
    (c.requires ∙ sym c.self.view_is)
    (subst (λ (n : ℕ). HasMark n (RedoMark 1) c.self.inside.journal.pen c.append_start.new.journal.pen c.in_ok-place.place) (ap (λ (p : Standing). p.worker) c.own.view_is) c.in_ok-place.ensures.marked)

pub invariant_of-self-2 : goal.invariant_of-self-2
invariant_of-self-2 g c =
    let d = c.self.inside in
    desk_marked g.W.Vault _ _ _ _ _ _ c.own.inside.worker (RedoMark 1) c.in_ok-place.place d.journal c.append_start.new.journal c.mark.new.journal d.mark.to.0 d.faults.total d.counts.items d.entries d.made.total c.mark.new.made.total
    c.own.invariant.0 (λ e is. inl is) c.self.invariant c.in_ok-place.ensures.marked c.append_start.ensures.adds c.mark.ensures.same c.mark.ensures.booked
