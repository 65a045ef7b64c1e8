use Rattle.std.proofs.Common.{◌≡◌, true, subst, sym, ◌∙◌, arith}
use mathlib.Core.List.{IsPrefix}
use Rattle.journal.specs.Lawful.{IsLawful}
use Rattle.store_locks.specs.Locked.{RunsOn}
use Rattle.store_locks.specs.Records.{IsPlaceOf}
use Rattle.shared_summaries.specs.summary_publish.Published.{LooksOn, AdvanceAnswers}
use Rattle.shared_summaries.specs.summary_publish.Partly.{MayAdvance}
use Rattle.shared_summaries.proofs.summary_publish.Going.{goes_later}
use Rattle.shared_summaries.proofs.summary_publish.Adding.{looks_on}
use Rattle.shared_summaries.proofs.summary_publish.Later.{prefix_trans}
use Rattle.shared_summaries.specs.Shelf.{AreShelved, HasCovered, TakesAdvanceFaults}
use Rattle.shared_summaries.specs.Inside.{HasBooked, AreKeptThere, advance_fault}
use Rattle.shared_summaries.proofs.Shelves.{begins_so, goes_there, shelved_on, covered_so}
use Rattle.shared_summaries.proofs.Bookings.{advance_taken, advance_risen, advance_before, booked_looks}
use Rattle.shared_summaries.proofs.kept.cover_in.Goals as goal

pub advance_covering-answer-requires-clause-known : goal.advance_covering-answer-requires-clause-known
advance_covering-answer-requires-clause-known g c = λ κs lives. goes_later (g.J.OfStore.tells ≡ true) c.args.note.now.list c.learn.new.pass.list (g.V.Vault.files c.args.area.now) c.args.known.now c.learn.ensures.learnt
    (goes_there (g.J.OfStore.tells ≡ true) g.J.OfCrew.found g.J.OfCrew.sums g.J.OfRetention.limit c.args.note.now.list (g.V.Vault.files c.args.area.now) c.args.known.now c.requires.shelf.at c.requires.shelf.kept)

pub returns-clause-shelf : goal.returns-clause-shelf
returns-clause-shelf g c =
    let told = g.J.OfStore.tells ≡ true in
    let found = g.J.OfCrew.found in
    let begun = g.J.OfCrew.sums in
    let list = c.args.note.now.list in
    let now = c.advance_covering-answer.new.pass.list in
    let was = g.V.Vault.files c.args.area.now in
    let is = g.V.Vault.files c.advance_covering-answer.new.area in
    let prefix : IsPrefix list now = prefix_trans list c.learn.new.pass.list now c.learn.ensures.learnt c.advance_covering-answer.ensures.looks.seen in
    let booked : HasBooked (advance_fault c.advance_covering-answer.result) c.advance_covering-answer.new.pass c.book_fault.new.pass c.args.book.now.total c.book_fault.new.book.total =
    subst (λ f. HasBooked f c.advance_covering-answer.new.pass c.book_fault.new.pass c.args.book.now.total c.book_fault.new.book.total) c.advance_fault.ensures c.book_fault.ensures in
    let left : AreShelved told found begun now is × AreKeptThere told found begun g.J.OfRetention.limit is c.advance_covering-answer.new.known.kept =
    subst (λ n. AreShelved told found begun now is × AreKeptThere told found begun n is c.advance_covering-answer.new.known.kept) c.requires.shelf.limit_is
    (shelved_on told found list now c.args.when c.args.limit begun was is c.args.known.now c.advance_covering-answer.new.known (omega (arith, c.requires.young, c.requires.shelf.limit_is)) (begins_so found list c.requires.shelf.begins) c.requires.shelf.shelved
    (subst (λ n. AreKeptThere told found begun n was c.args.known.now.kept) (sym c.requires.shelf.limit_is) c.requires.shelf.kept) prefix c.advance_covering-answer.ensures.left) in
    let whole : c.renew.new.note.list ≡ now = c.renew.ensures.renewed ∙ booked.list in
    record {
      begins = subst (RunsOn found) (sym c.renew.ensures.renewed) c.renew.ensures.begins;
      lawful = λ t. subst (IsLawful g.J.OfCrew.settings.segment) (sym c.renew.ensures.renewed) (c.renew.ensures.lawful t);
      shelved = subst (λ l. AreShelved told found begun l is) (sym whole) left.0;
      kept = left.1;
      limit_is = c.requires.shelf.limit_is;
      at = λ t. subst (λ l. IsPlaceOf l c.advance_covering-answer.new.known.place.0) (sym whole) (c.advance_covering-answer.ensures.known.at t);
      risen = advance_risen (g.J.OfCrew.starts 5) (g.V.Vault.faults c.args.area.now) (g.V.Vault.faults c.advance_covering-answer.new.area) c.args.book.now.total c.book_fault.new.book.total c.learn.new.pass c.advance_covering-answer.new.pass c.book_fault.new.pass c.advance_covering-answer.result
          c.requires.shelf.risen c.advance_covering-answer.ensures.changes.faults c.advance_covering-answer.ensures.cause booked;
    }

pub returns-clause-covered : goal.returns-clause-covered
returns-clause-covered g c =
    let told = g.J.OfStore.tells ≡ true in
    let found = g.J.OfCrew.found in
    let begun = g.J.OfCrew.sums in
    let list = c.args.note.now.list in
    let now = c.advance_covering-answer.new.pass.list in
    let prefix : IsPrefix list now = prefix_trans list c.learn.new.pass.list now c.learn.ensures.learnt c.advance_covering-answer.ensures.looks.seen in
    let booked : HasBooked (advance_fault c.advance_covering-answer.result) c.advance_covering-answer.new.pass c.book_fault.new.pass c.args.book.now.total c.book_fault.new.book.total =
    subst (λ f. HasBooked f c.advance_covering-answer.new.pass c.book_fault.new.pass c.args.book.now.total c.book_fault.new.book.total) c.advance_fault.ensures c.book_fault.ensures in
    let limit = g.J.OfRetention.limit in
    let was = g.V.Vault.files c.args.area.now in
    let is = g.V.Vault.files c.advance_covering-answer.new.area in
    let same = c.requires.shelf.limit_is in
    let starts = begins_so found list c.requires.shelf.begins in
    let may : MayAdvance told now c.args.when limit was is c.args.known.now c.advance_covering-answer.new.known = subst (λ n. MayAdvance told now c.args.when n was is c.args.known.now c.advance_covering-answer.new.known) same c.advance_covering-answer.ensures.left in
    let left = shelved_on told found list now c.args.when limit begun was is c.args.known.now c.advance_covering-answer.new.known c.requires.young starts c.requires.shelf.shelved c.requires.shelf.kept prefix may in
    subst (λ p. HasCovered told found begun p.list c.args.when limit c.args.from.0 c.args.to.0 c.advance_covering-answer.result) (sym c.renew.ensures.same)
    (subst (λ l. HasCovered told found begun l c.args.when limit c.args.from.0 c.args.to.0 c.advance_covering-answer.result) (sym booked.list)
    (covered_so g.V.Vault told found list now begun c.args.when limit c.args.from.0 c.args.to.0 c.args.area.now c.advance_covering-answer.new.area c.args.known.now c.advance_covering-answer.new.known c.advance_covering-answer.result c.requires.young starts c.requires.shelf.shelved c.requires.shelf.kept prefix left
    (subst (λ n. AdvanceAnswers g.V.Vault told now c.args.when n c.args.from.0 c.args.to.0 c.args.area.now c.advance_covering-answer.new.area c.args.known.now c.advance_covering-answer.new.known c.advance_covering-answer.result) same c.advance_covering-answer.ensures.covers)))

pub returns-clause-lawful : goal.returns-clause-lawful
returns-clause-lawful g c = subst (λ p. g.J.OfStore.tells ≡ true → IsLawful g.J.OfCrew.settings.segment p.list) (sym c.renew.ensures.same) c.renew.ensures.lawful

pub returns-clause-looks : goal.returns-clause-looks
returns-clause-looks g c =
    subst (LooksOn c.args.pass.now) (sym c.renew.ensures.same)
    (looks_on c.args.pass.now c.advance_covering-answer.new.pass c.book_fault.new.pass
    (looks_on c.args.pass.now c.learn.new.pass c.advance_covering-answer.new.pass c.learn.ensures.looks c.advance_covering-answer.ensures.looks)
    (booked_looks c.advance_fault.result c.advance_covering-answer.new.pass c.book_fault.new.pass c.args.book.now.total c.book_fault.new.book.total c.book_fault.ensures))

pub returns-clause-faults : goal.returns-clause-faults
returns-clause-faults g c =
    let booked : HasBooked (advance_fault c.advance_covering-answer.result) c.advance_covering-answer.new.pass c.book_fault.new.pass c.args.book.now.total c.book_fault.new.book.total =
    subst (λ f. HasBooked f c.advance_covering-answer.new.pass c.book_fault.new.pass c.args.book.now.total c.book_fault.new.book.total) c.advance_fault.ensures c.book_fault.ensures in
    subst (λ p. TakesAdvanceFaults c.args.pass.now p c.advance_covering-answer.result) (sym c.renew.ensures.same)
    (advance_before c.args.pass.now c.learn.new.pass c.book_fault.new.pass c.advance_covering-answer.result c.learn.ensures.faults
    (advance_taken (g.V.Vault.faults c.args.area.now) (g.V.Vault.faults c.advance_covering-answer.new.area) c.args.book.now.total c.book_fault.new.book.total c.learn.new.pass c.advance_covering-answer.new.pass c.book_fault.new.pass c.advance_covering-answer.result c.advance_covering-answer.ensures.cause booked))
