-- What the values under the locks kept, and what ending the store left.
use Rattle.std.proofs.Common.{◌≡◌, true, List, sym, ap, subst, ◌∙◌, arith}
use Rattle.std.specs.List.{All}
use mathlib.Core.List.{IsPrefix}
use Rattle.lsn_core.specs.Segment.{StoreSettings}
use Rattle.history.specs.Entry.{Entry}
use Rattle.journal.specs.Lawful.{IsLawful}
use Rattle.vault.specs.Boxed.{on_heap}
use Rattle.store_areas.specs.declared.areas.StoreAreas.{StoreAreas}
use Rattle.store_locks.specs.Seen.{Seen}
use Rattle.shared_store.specs.Shared.{CountsItsOwn}
use Rattle.store_locks.specs.Locked.{AllHeld, empty_shares}
use Rattle.store_lifecycle.specs.Ended.{opened_of}
use Rattle.store_lifecycle.specs.Close.{IsClosed}
use Rattle.store_lifecycle.specs.Ended.{IsEnded}
use Rattle.store_lifecycle.proofs.HandedBack.{closed_shared, all_gathered, sums_gathered}
use Rattle.store_lifecycle.proofs.closing.close.Goals as goal

pub returns-clause-closed : goal.returns-clause-closed
returns-clause-closed g c =
    let v = g.V.Vault in
    let tells = g.J.OfStore.tells ≡ true in
    let s = g.J.OfCrew.settings in
    let passes = c.args.passes.items in
    let d = c.desk.inside in
    let shares = c.shares.inside in
    let p0 = c.up_to_date-part0.result in
    let p1 = c.up_to_date-part1.result in
    let p2 = c.up_to_date-part2.result in
    let p3 = c.up_to_date-part3.result in
    let held = c.shares.view_is ∙ c.settle.ensures.all in
    let parts = c.shares.invariant.0 ∙ (ap (λ (a : AllHeld). a.parts) c.shares.view_is ∙ c.settle.ensures.full) in
    let pen = c.desk.view_is ∙ (c.up_to_date-part3.ensures.same ∙ (c.up_to_date-part2.ensures.same ∙ (c.up_to_date-part1.ensures.same ∙ (c.up_to_date-part0.ensures.same ∙ c.settle.ensures.same)))) in
    let wal = sym (c.audit-2.ensures.whole parts) ∙ (ap (λ (a : AllHeld). a.faults.wal) held ∙ all_gathered 4 passes (omega arith)) in
    subst (λ (a : StoreAreas g.row.V.Denot). IsClosed {V = g.row.V.Denot} v tells s g.J.OfCrew.found g.J.OfCrew.wal g.J.OfCrew.starts passes a c.end-areas.result.1) (sym c.unboxed_all.ensures)
    (closed_shared v tells s g.J.OfCrew.found g.J.OfCrew.workers g.J.OfCrew.wal g.J.OfCrew.starts passes d.journal p0 p1 p2 p3 d.mark.to.0 d.counts.items d.entries d.made.total d.faults.total
    shares.others.data0.amount shares.others.data1.amount shares.others.data2.amount shares.others.data3.amount c.desk.invariant wal
    c.up_to_date-part0.ensures.risen c.up_to_date-part1.ensures.risen c.up_to_date-part2.ensures.risen c.up_to_date-part3.ensures.risen
    (ap (λ (a : AllHeld). a.faults.data0) held ∙ all_gathered 0 passes (omega arith)) (ap (λ (a : AllHeld). a.faults.data1) held ∙ all_gathered 1 passes (omega arith))
    (ap (λ (a : AllHeld). a.faults.data2) held ∙ all_gathered 2 passes (omega arith)) (ap (λ (a : AllHeld). a.faults.data3) held ∙ all_gathered 3 passes (omega arith))
    c.end-areas.result.0 c.end-areas.result.1 c.requires.many
    (λ t. subst (IsLawful s.segment) (sym pen) (c.know.ensures t))
    (subst (λ (l : List Entry). All (λ (p : Seen). IsPrefix p.list l) passes) (sym pen) c.settle.ensures.seen)
    (subst (λ (l : List Entry). All (CountsItsOwn l) passes) (sym pen) c.settle.ensures.counted)
    c.end-areas.ensures.within
    (subst (λ (x : StoreSettings). IsEnded (on_heap v) tells (opened_of (on_heap v) x d.journal p0 p1 p2 p3) c.end-areas.result.0 c.end-areas.result.1) c.args.store.settings_are c.end-areas.ensures.ended))

pub returns-clause-booked : goal.returns-clause-booked
returns-clause-booked g c =
    let held = c.shares.view_is ∙ c.settle.ensures.all in
    let parts = c.shares.invariant.5 ∙ (ap (λ (a : AllHeld). a.parts) c.shares.view_is ∙ c.settle.ensures.full) in
    c.audit.ensures.total ∙ (sym (c.audit.ensures.whole parts) ∙ (ap (λ (a : AllHeld). a.faults.sums) held ∙ omega (arith, sums_gathered (empty_shares 0) c.args.passes.items)))
