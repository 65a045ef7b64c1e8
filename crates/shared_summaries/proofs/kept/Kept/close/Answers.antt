use Rattle.std.proofs.Common.{◌≡◌, true, box_value, sym, subst}
use Rattle.store_locks.specs.Locked.{HasRisen}
use Rattle.shared_summaries.proofs.summary_publish.Adding.{stays_same}
use Rattle.shared_summaries.specs.Shelf.{AreShelved}
use Rattle.shared_summaries.proofs.Shelves.{begins_so, shelved_later}
use Rattle.shared_summaries.proofs.kept.Kept.close.Goals as goal

pub returns-clause-shelved : goal.returns-clause-shelved
returns-clause-shelved g c =
    let told = g.J.OfStore.tells ≡ true in
    let found = g.J.OfCrew.found in
    let begun = g.J.OfCrew.sums in
    let list = c.kept.inside.note.list in
    let now = c.learn.new.pass.list in
    subst (λ v. AreShelved told found begun now (g.V.Vault.files v)) (sym c.into_inner.ensures)
    (shelved_later told found list now begun (g.V.Vault.files (box_value c.kept.inside.area)) (begins_so found list c.kept.invariant.begins) c.kept.invariant.shelved c.learn.ensures.that)

pub returns-clause-risen : goal.returns-clause-risen
returns-clause-risen g c = subst (λ v. HasRisen (g.J.OfCrew.starts 5) c.kept.inside.book.total (g.V.Vault.faults v)) (sym c.into_inner.ensures) c.kept.invariant.risen

pub returns-clause-looks : goal.returns-clause-looks
returns-clause-looks g c = record {
  seen = c.learn.ensures.seen.seen;
  worker = c.learn.ensures.seen.worker;
  accepted = c.learn.ensures.accepted;
  marks = c.learn.ensures.marks;
  shares = stays_same c.args.pass.now.faults c.learn.new.pass.faults c.learn.ensures.faults;
}
