use Rattle.std.proofs.Common.{◌≡◌, true, ap, sym, subst, ◌∙◌, arith, List, length}
use mathlib.Core.List.{IsPrefix}
use Rattle.timeline.proofs.Prefixes.{prefix_refl}
use Rattle.history.specs.Entry.{Entry}
use Rattle.journal.specs.Lawful.{IsLawful}
use Rattle.store_locks.specs.Calls.{IsTaken}
use Rattle.store_locks.specs.Seen.{accepted_by, marks_by}
use Rattle.journal.specs.Journal.{Written}
use Rattle.page_pool.specs.Facts.{IsPartOf}
use Rattle.store_locks.specs.Locked.{Standing, Shown, RunsOn, HasRisen}
use Rattle.store_locks.proofs.Kept.{resized}
use Rattle.store_locks.proofs.Keeping.{held_with}
use Rattle.store_locks.proofs.Tallies.{tally_fits}
use Rattle.store_locks.proofs.Desks.{desk_same, desk_inserted, held_inserted, accepted_more, no_fewer_marks, runs_next}
use Rattle.store_insertion.proofs.desk.insert_up_to_date.Goals as goal

pub invariant_of-desk : goal.invariant_of-desk
invariant_of-desk g c =
    let d = c.desk.inside in
    desk_same g.W.Vault _ _ _ _ _ _ d.journal c.insert_prepared.new.journal d.mark.to.0 d.faults.total d.counts.items c.insert_prepared.new.counts.items d.entries d.made.total c.in_err-receipt.ensures.same (ap (λ v. v.items) c.in_err-receipt.ensures.uncounted) c.desk.invariant

pub invariant_of-part : goal.invariant_of-part
invariant_of-part g c =
    let d = c.desk.inside in
    let p = c.part.inside in
    let new = c.insert_prepared.new.part in
    let tells = g.J.OfStore.tells ≡ true in
    let up = ap (λ (s : Shown). s.list) c.part.view_is ∙ (c.requires.part ∙ sym c.desk.view_is) in
    let pen = ap (λ (j : Written _). j.pen) c.in_err-receipt.ensures.same in
    held_with g.row.Q _ _ _ _ p.note.list p.part new p.share p.faults.total p.faults.total c.part.invariant
    (subst (λ (l : List Entry). IsPartOf g.row.Q g.J.OfCrew.settings.relseg tells l new) (pen ∙ sym up)
    (resized g.row.Q p.part.relseg g.J.OfCrew.settings.relseg tells c.insert_prepared.new.journal.pen new c.part.invariant.is.relseg_is c.insert_prepared.ensures.part))
    (subst (λ n. HasRisen (g.J.OfCrew.starts g.row.Q) p.faults.total n) (sym c.insert_prepared.ensures.faults) c.part.invariant.risen)

pub overflow_add-own : goal.overflow_add-own
overflow_add-own g c =
    let o = c.own.inside in
    let pen = c.desk.inside.journal.pen in
    let same = ap (λ (s : Standing). s.list) c.own.view_is ∙ (c.requires.seen ∙ sym c.desk.view_is) in
    tally_fits c.desk.inside.journal.wal.tail o.worker o.accepted o.note.list pen c.tip-tip.ensures.known c.tip-tip.ensures.ended (subst (λ l. IsPrefix o.note.list l) same (prefix_refl o.note.list)) c.own.invariant.1

pub invariant_of-desk-2 : goal.invariant_of-desk-2
invariant_of-desk-2 g c =
    let d = c.desk.inside in
    let new = c.insert_prepared.new.journal in
    let ok = c.in_ok-receipt.ensures in
    desk_inserted g.W.Vault _ _ _ _ _ _ g.row.Q c.args.op.now c.own.inside.worker c.in_ok-receipt.receipt d.journal new c.meet-2.new.self d.mark.to.0 d.faults.total d.counts.items c.insert_prepared.new.counts.items d.entries c.add.new.self d.made.total c.add-2.new.self.total
    c.desk.invariant c.insert_prepared.ensures.adds ok.next c.requires.number c.requires.items c.requires.alone c.own.invariant.0 ok.accepted c.insert_prepared.ensures.counts c.insert_prepared.ensures.crew c.add.ensures.books c.add-2.ensures.total (c.meet-2.ensures.same ∙ c.meet.ensures.same)

pub invariant_of-part-2 : goal.invariant_of-part-2
invariant_of-part-2 g c =
    let d = c.desk.inside in
    let p = c.part.inside in
    let new = c.insert_prepared.new.journal in
    let ok = c.in_ok-receipt.ensures in
    let up = ap (λ (s : Shown). s.list) c.part.view_is ∙ (c.requires.part ∙ sym c.desk.view_is) in
    held_inserted g.row.Q _ _ _ _ p.note.list d.journal.pen new.pen c.meet.new.note.list c.args.op.now p.part c.insert_prepared.new.part p.share c.add.new.share p.faults.total c.requires.number c.part.invariant up
    c.desk.invariant.grown ok.next c.requires.items c.requires.alone c.insert_prepared.ensures.part
    (λ tell. subst (λ n. IsLawful n new.pen) (c.insert_prepared.ensures.adds.segment ∙ c.desk.invariant.wal.segment) (c.know.ensures tell).lawful)
    c.insert_prepared.ensures.faults c.add.ensures.amounts c.add.ensures.parts c.meet.ensures.list

pub invariant_of-own : goal.invariant_of-own
invariant_of-own g c =
    let o = c.own.inside in
    let d = c.desk.inside in
    let new = c.insert_prepared.new.journal in
    let ok = c.in_ok-receipt.ensures in
    let same = ap (λ (s : Standing). s.list) c.own.view_is ∙ (c.requires.seen ∙ sym c.desk.view_is) in
    let last = c.meet-2.ensures.list ∙ ap (λ j. j.pen) c.meet.ensures.same in (
      c.own.invariant.0,
      omega (arith, c.own.invariant.1, ap (λ (l : List Entry). length (accepted_by o.worker l)) same, accepted_more o.worker c.args.op.now d.journal.pen new.pen c.in_ok-receipt.receipt ok.accepted, ap (λ (l : List Entry). length (accepted_by o.worker l)) last),
      omega (arith, c.own.invariant.2, c.own.invariant.3, c.add-2.ensures.amount, ap (λ (l : List Entry). length (marks_by o.worker l)) same, no_fewer_marks o.worker c.args.op.now d.journal.pen new.pen c.in_ok-receipt.receipt ok.accepted, ap (λ (l : List Entry). length (marks_by o.worker l)) last),
      omega (arith, c.own.invariant.3, c.add-2.ensures.amount),
      c.add-2.ensures.parts ∙ c.own.invariant.4,
      c.own.invariant.5,
      subst (λ (l : List Entry). RunsOn g.J.OfCrew.found l) (sym last) (runs_next g.J.OfCrew.found d.journal.pen new.pen c.args.op.now c.desk.invariant.grown ok.next),
      λ tell. subst (IsLawful g.J.OfCrew.settings.segment) (sym last) (subst (λ n. IsLawful n new.pen) (c.insert_prepared.ensures.adds.segment ∙ c.desk.invariant.wal.segment) (c.know.ensures tell).lawful),
    )

pub returns-clause-taken : goal.returns-clause-taken
returns-clause-taken g c =
    λ tell. subst (λ (l : List Entry). IsTaken g.J.OfCrew.settings.segment c.args.op.now l c.in_ok-receipt.receipt) c.desk.view_is
    (subst (λ n. IsTaken n c.args.op.now c.desk.inside.journal.pen c.in_ok-receipt.receipt) c.desk.invariant.wal.segment (c.in_ok-receipt.ensures.taken tell))
