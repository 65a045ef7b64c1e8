-- What a worker has seen, from one call to the next.
use Rattle.std.proofs.Common.{◌≡◌, ℕ, ◌≤◌, ◌+◌, List, [], ◌∷◌, ◌++◌, length, take, slice_get, Some, refl, ap, sym, subst, ◌∙◌, arith, append_assoc, append-nil, length-append}
use Rattle.std.specs.Prelude.{Ok, Err}
use Rattle.lsn_core.specs.declared.lsn.Lsn.{Lsn}
use Rattle.lsn_core.specs.declared.lsn.Place.{Place}
use Rattle.journal.specs.Lawful.{IsLawful}
use Rattle.history.specs.declared.op.Op.{Op}
use Rattle.history.specs.Entry.{Entry}
use Rattle.store_locks.specs.declared.receipt.Receipt.{Receipt}
use Rattle.store_faults.specs.declared.insert_fault.InsertFault.{InsertFault}
use Rattle.store_faults.specs.declared.insert_fault.InsertFault.TheVariants as insert
use Rattle.store_locks.specs.Seen.{Seen, StaysBy, SharesStay, BooksIf, failed_area, accepted_by}
use Rattle.shared_store.specs.Shared.{HasInserted, HasRefused}
use Rattle.store_locks.specs.Calls.{IsTaken}
use Rattle.crew.specs.Run.{IsMade, IsTakenAt}
use Rattle.crew.specs.Running.{WentOn, Inserts}
use Rattle.crew.proofs.Lists.{prefix_length, next_there, up_to_here}
use Rattle.shared_store.proofs.Booked.{shares_on}
use Rattle.crew.proofs.Shares.{shares_same, refusal_stays, refusal_rose}

-- ---- one step behind another

pub stays_trans : (a b c : Seen) → StaysBy a b → StaysBy b c → StaysBy a c
stays_trans a b c p q = record {
  seen = (p.seen.0 ++ q.seen.0, sym (append_assoc a.list p.seen.0 q.seen.0) ∙ (ap (λ (w : List Entry). w ++ q.seen.0) p.seen.1 ∙ q.seen.1));
  worker = q.worker ∙ p.worker;
}

pub went_nowhere : (seen : Seen) → WentOn 0 seen seen []
went_nowhere seen = record {
  stays = record { seen = ([], append-nil seen.list); worker = refl };
  counted = omega arith;
  marked = omega arith;
  shares = shares_same seen.faults seen.faults refl;
}

pub went_further : {m n : ℕ} (old now new : Seen) (made more : List Entry) → WentOn m old now made → WentOn n now new more → WentOn (m + n) old new (made ++ more)
went_further {m} {n} old now new made more one two = record {
  stays = stays_trans old now new one.stays two.stays;
  counted = omega (arith, one.counted, two.counted, length-append made more);
  marked = omega (arith, one.marked, two.marked);
  shares = shares_on old.faults now.faults new.faults one.shares two.shares;
}

-- a call that did no command
pub went_still : {most : ℕ} (old new : Seen) → StaysBy old new → new.accepted ≡ old.accepted → new.marks ≤ old.marks + most → SharesStay old.faults new.faults → WentOn most old new []
went_still old new stays accepted marked shares = record { stays = stays; counted = omega (arith, accepted); marked = marked; shares = shares }

-- none that made no mark
pub none_marked : (old new : ℕ) → new ≡ old → new ≤ old + 0
none_marked old new same = omega (arith, same)

-- ---- a command's entry

same_place : (p : Place) (a b : ℕ) → p.start.0 ≡ a → p.end.0 ≡ b → p ≡ record { start = record { 0 = a }; end = record { 0 = b } }
same_place p a b e f = ap (λ (n : ℕ). record { start = record { 0 = n }; end = p.end }) e ∙ ap (λ (n : ℕ). record { start = record { 0 = a }; end = record { 0 = n } }) f

taken_there : (mib : ℕ) (history : List Entry) (asked : Op) (receipt : Receipt) (e : Entry) → IsTaken mib asked history receipt → receipt.place.start.0 ≡ e.start → receipt.place.end.0 ≡ e.end → IsTakenAt mib history asked e
taken_there mib history asked receipt e t start end = record {
  store = t.store;
  state = t.state;
  taken = t.taken;
  start = sym start ∙ ap (λ (l : Lsn). l.0) t.start;
  end = sym end ∙ ap (λ (l : Lsn). l.0) t.end;
}

pub inserted : (tells : Type 0) (mib : ℕ) (asked : Op) (old new : Seen) (receipt : Receipt) → HasInserted tells mib asked old new receipt → StaysBy old new → new.marks ≡ old.marks → new.faults ≡ old.faults → Inserts tells mib asked old new (Ok receipt.place)
inserted tells mib asked old new receipt i stays marks faults =
    let r = i.receipt_is in
    let e : Entry = r.entry in
    let cut : take (length i.before) new.list ≡ i.before = ap (take (length i.before)) r.grown ∙ up_to_here i.before (e ∷ []) in
    let made : IsMade tells mib old.worker new.list (length i.before) asked e = record {
      there = ap (λ (xs : List Entry). slice_get xs (length i.before)) r.grown ∙ next_there i.before e [];
      act = r.act;
      by = r.by;
      seq = r.seq ∙ ap (λ (n : ℕ). Some n) r.next ∙ ap (λ (xs : List Entry). Some (length (accepted_by old.worker xs))) (sym cut);
      told = λ t. subst (λ (xs : List Entry). IsTakenAt mib xs asked e) (sym cut) (taken_there mib i.before asked receipt e (i.taken t) r.start r.end);
    } in
    let went : WentOn 0 old new (e ∷ []) = record { stays = stays; counted = i.counted; marked = none_marked old.marks new.marks marks; shares = shares_same old.faults new.faults faults } in
    (e, length i.before, prefix_length old.list i.before i.past, made, went, same_place receipt.place e.start e.end r.start r.end)

pub refused : (tells : Type 0) (mib : ℕ) (asked : Op) (old new : Seen) (why : InsertFault) → HasRefused tells mib asked old new why → StaysBy old new → new.marks ≡ old.marks → BooksIf (failed_area why) old new → Inserts tells mib asked old new (Err why)
refused tells mib asked old new why r stays marks books = (
  went_still old new stays r.counted (none_marked old.marks new.marks marks) (refusal_stays old new why books),
  r.refused,
  λ area is. refusal_rose old new why area books is,
)

-- a command that was not made for want of memory
pub not_made : (tells : Type 0) (mib : ℕ) (asked : Op) (seen : Seen) → (tells → IsLawful mib seen.list) → Inserts tells mib asked seen seen (Err insert.NoMemory)
not_made tells mib asked seen lawful = (
  went_nowhere seen,
  λ t. record { store = (lawful t).store; state = (lawful t).made; why = tt },
  λ area is. absurd (cc is),
)
