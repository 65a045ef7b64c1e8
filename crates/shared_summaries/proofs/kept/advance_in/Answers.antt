use Rattle.std.proofs.Common.{◌≡◌, true, IfOk, subst, sym, ◌∙◌, arith}
use mathlib.Core.List.{IsPrefix}
use Rattle.journal.specs.Lawful.{IsLawful}
use Rattle.store_locks.specs.Locked.{RunsOn}
use Rattle.shared_store.specs.Shared.{TakesFaults}
use Rattle.store_locks.specs.Records.{IsPlaceOf}
use Rattle.shared_summaries.specs.summary_publish.Published.{LooksOn, IsAdvanced}
use Rattle.shared_summaries.specs.summary_publish.Partly.{MayAdvance}
use Rattle.shared_summaries.proofs.summary_publish.Going.{goes_later}
use Rattle.shared_summaries.proofs.summary_publish.Adding.{looks_on, ok_on}
use Rattle.shared_summaries.proofs.summary_publish.Later.{prefix_trans}
use Rattle.shared_summaries.specs.Shelf.{AreShelved, HasPublished}
use Rattle.shared_summaries.specs.Inside.{HasBooked, AreKeptThere, fault_of}
use Rattle.shared_summaries.proofs.Shelves.{begins_so, goes_there, shelved_on, published_so}
use Rattle.shared_summaries.proofs.Bookings.{all_taken, all_risen, takes_before, booked_looks}
use Rattle.shared_summaries.proofs.kept.advance_in.Goals as goal

pub advance-answer-requires-clause-known : goal.advance-answer-requires-clause-known
advance-answer-requires-clause-known g c = λ κs lives. goes_later (g.J.OfStore.tells ≡ true) c.args.note.now.list c.learn.new.pass.list (g.V.Vault.files c.args.area.now) c.args.known.now c.learn.ensures.learnt
    (goes_there (g.J.OfStore.tells ≡ true) g.J.OfCrew.found g.J.OfCrew.sums g.J.OfRetention.limit c.args.note.now.list (g.V.Vault.files c.args.area.now) c.args.known.now c.requires.shelf.at c.requires.shelf.kept)

pub returns-clause-shelf : goal.returns-clause-shelf
returns-clause-shelf g c =
    let told = g.J.OfStore.tells ≡ true in
    let found = g.J.OfCrew.found in
    let begun = g.J.OfCrew.sums in
    let list = c.args.note.now.list in
    let now = c.advance-answer.new.pass.list in
    let was = g.V.Vault.files c.args.area.now in
    let is = g.V.Vault.files c.advance-answer.new.area in
    let prefix : IsPrefix list now = prefix_trans list c.learn.new.pass.list now c.learn.ensures.learnt c.advance-answer.ensures.looks.seen in
    let booked : HasBooked (fault_of c.advance-answer.result) c.advance-answer.new.pass c.book_fault.new.pass c.args.book.now.total c.book_fault.new.book.total =
    subst (λ f. HasBooked f c.advance-answer.new.pass c.book_fault.new.pass c.args.book.now.total c.book_fault.new.book.total) c.fault_of.ensures c.book_fault.ensures in
    let left : AreShelved told found begun now is × AreKeptThere told found begun g.J.OfRetention.limit is c.advance-answer.new.known.kept =
    subst (λ n. AreShelved told found begun now is × AreKeptThere told found begun n is c.advance-answer.new.known.kept) c.requires.shelf.limit_is
    (shelved_on told found list now c.args.when c.args.limit begun was is c.args.known.now c.advance-answer.new.known (omega (arith, c.requires.young, c.requires.shelf.limit_is)) (begins_so found list c.requires.shelf.begins) c.requires.shelf.shelved
    (subst (λ n. AreKeptThere told found begun n was c.args.known.now.kept) (sym c.requires.shelf.limit_is) c.requires.shelf.kept) prefix c.advance-answer.ensures.left) in
    let whole : c.renew.new.note.list ≡ now = c.renew.ensures.renewed ∙ booked.list in
    record {
      begins = subst (RunsOn found) (sym c.renew.ensures.renewed) c.renew.ensures.begins;
      lawful = λ t. subst (IsLawful g.J.OfCrew.settings.segment) (sym c.renew.ensures.renewed) (c.renew.ensures.lawful t);
      shelved = subst (λ l. AreShelved told found begun l is) (sym whole) left.0;
      kept = left.1;
      limit_is = c.requires.shelf.limit_is;
      at = λ t. subst (λ l. IsPlaceOf l c.advance-answer.new.known.place.0) (sym whole) (c.advance-answer.ensures.known.at t);
      risen = all_risen (g.J.OfCrew.starts 5) (g.V.Vault.faults c.args.area.now) (g.V.Vault.faults c.advance-answer.new.area) c.args.book.now.total c.book_fault.new.book.total c.learn.new.pass c.advance-answer.new.pass c.book_fault.new.pass c.advance-answer.result
          c.requires.shelf.risen c.advance-answer.ensures.changes.faults c.advance-answer.ensures.cause booked;
    }

pub returns-clause-published : goal.returns-clause-published
returns-clause-published g c =
    let told = g.J.OfStore.tells ≡ true in
    let found = g.J.OfCrew.found in
    let begun = g.J.OfCrew.sums in
    let list = c.args.note.now.list in
    let now = c.advance-answer.new.pass.list in
    let prefix : IsPrefix list now = prefix_trans list c.learn.new.pass.list now c.learn.ensures.learnt c.advance-answer.ensures.looks.seen in
    let booked : HasBooked (fault_of c.advance-answer.result) c.advance-answer.new.pass c.book_fault.new.pass c.args.book.now.total c.book_fault.new.book.total =
    subst (λ f. HasBooked f c.advance-answer.new.pass c.book_fault.new.pass c.args.book.now.total c.book_fault.new.book.total) c.fault_of.ensures c.book_fault.ensures in
    let limit = g.J.OfRetention.limit in
    let was = g.V.Vault.files c.args.area.now in
    let is = g.V.Vault.files c.advance-answer.new.area in
    let same = c.requires.shelf.limit_is in
    let starts = begins_so found list c.requires.shelf.begins in
    let may : MayAdvance told now c.args.when limit was is c.args.known.now c.advance-answer.new.known = subst (λ n. MayAdvance told now c.args.when n was is c.args.known.now c.advance-answer.new.known) same c.advance-answer.ensures.left in
    let left = shelved_on told found list now c.args.when limit begun was is c.args.known.now c.advance-answer.new.known c.requires.young starts c.requires.shelf.shelved c.requires.shelf.kept prefix may in
    subst (λ p. IfOk c.advance-answer.result (HasPublished told found begun p.list c.args.when limit)) (sym c.renew.ensures.same)
    (subst (λ l. IfOk c.advance-answer.result (HasPublished told found begun l c.args.when limit)) (sym booked.list)
    (ok_on c.advance-answer.result (IsAdvanced g.V.Vault told now c.args.when c.args.limit c.args.area.now c.advance-answer.new.area c.args.known.now c.advance-answer.new.known) (HasPublished told found begun now c.args.when limit)
    (λ count a. published_so g.V.Vault told found list now begun c.args.when limit count c.args.area.now c.advance-answer.new.area c.args.known.now c.advance-answer.new.known c.requires.young starts c.requires.shelf.shelved c.requires.shelf.kept prefix left
    (subst (λ n. IsAdvanced g.V.Vault told now c.args.when n c.args.area.now c.advance-answer.new.area c.args.known.now c.advance-answer.new.known count) same a))
    c.advance-answer.ensures.published))

pub returns-clause-lawful : goal.returns-clause-lawful
returns-clause-lawful g c = subst (λ p. g.J.OfStore.tells ≡ true → IsLawful g.J.OfCrew.settings.segment p.list) (sym c.renew.ensures.same) c.renew.ensures.lawful

pub returns-clause-looks : goal.returns-clause-looks
returns-clause-looks g c =
    subst (LooksOn c.args.pass.now) (sym c.renew.ensures.same)
    (looks_on c.args.pass.now c.advance-answer.new.pass c.book_fault.new.pass
    (looks_on c.args.pass.now c.learn.new.pass c.advance-answer.new.pass c.learn.ensures.looks c.advance-answer.ensures.looks)
    (booked_looks c.fault_of.result c.advance-answer.new.pass c.book_fault.new.pass c.args.book.now.total c.book_fault.new.book.total c.book_fault.ensures))

pub returns-clause-faults : goal.returns-clause-faults
returns-clause-faults g c =
    let booked : HasBooked (fault_of c.advance-answer.result) c.advance-answer.new.pass c.book_fault.new.pass c.args.book.now.total c.book_fault.new.book.total =
    subst (λ f. HasBooked f c.advance-answer.new.pass c.book_fault.new.pass c.args.book.now.total c.book_fault.new.book.total) c.fault_of.ensures c.book_fault.ensures in
    subst (λ p. TakesFaults c.args.pass.now p c.advance-answer.result) (sym c.renew.ensures.same)
    (takes_before c.args.pass.now c.learn.new.pass c.book_fault.new.pass c.advance-answer.result c.learn.ensures.faults
    (all_taken (g.V.Vault.faults c.args.area.now) (g.V.Vault.faults c.advance-answer.new.area) c.args.book.now.total c.book_fault.new.book.total c.learn.new.pass c.advance-answer.new.pass c.book_fault.new.pass c.advance-answer.result c.advance-answer.ensures.cause booked))
