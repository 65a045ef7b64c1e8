-- Checkpoints between which other workers write.
use Rattle.std.proofs.Common.{◌≡◌, ℕ, ◌≤◌, List, [], ◌∷◌, ◌++◌, sym, ap, subst, ◌∙◌, arith, append_assoc, Some, Result, Ok, Err, IfOk, OnOk, OnErr, IfErr, ◌+◌}
use Rattle.history.specs.declared.op.Op.{Op}
use Rattle.store_locks.specs.declared.receipt.Receipt.{Receipt}
use Rattle.store_faults.specs.declared.insert_fault.InsertFault.{InsertFault}
use Rattle.store_locks.specs.Calls.{IsReceipt, IsTaken}
use Rattle.store_locks.specs.Refusals.{IsRefusedBehind}
use mathlib.Core.List.{IsPrefix}
use Rattle.timeline.proofs.Prefixes.{prefix_trans}
use Rattle.lsn_core.specs.declared.lsn.Place.{Place}
use Rattle.lsn_core.specs.declared.lsn.Lsn.{Lsn}
use Rattle.wal_writer.specs.declared.state.Flushed.{Flushed}
use Rattle.history.specs.Entry.{Entry, Mark, RedoMark, Online, BackupEnd}
use Rattle.page_pool.specs.Facts.{history_end}
use Rattle.store_locks.specs.declared.receipt.Redo.{Redo}
use Rattle.store_locks.specs.Locked.{Standing, Follows, HasMarked, Inserts}
use Rattle.shared_store.specs.Shared.{HasCheckpointIn, HasEnded}
use Rattle.store_locks.proofs.Kept.{history_ends}

-- a start, writing, and an end are a checkpoint
pub checkpoint_in : (a b c d : Standing) (start end : Place) (redo : Redo) (flushed : Flushed) → HasMarked (RedoMark 1) a b start → Follows b c → HasMarked (Online start.start.0) c d end → end.end.0 ≤ flushed.to.0
    → redo.redo ≡ start.start → redo.at ≡ end.start → HasCheckpointIn a.worker a.list d.list redo flushed
checkpoint_in a b c d start end redo flushed one mid two reached redo_is at_is =
    let p = prefix_trans b.list c.list two.before mid.seen two.past in
    let first : Entry = one.mark.entry in
    let last : Entry = two.mark.entry in
    let front : two.before ≡ one.before ++ (first ∷ p.0) = sym p.1 ∙ (ap (λ (l : List Entry). l ++ p.0) one.mark.grown ∙ append_assoc one.before (first ∷ []) p.0) in
    let same : redo.redo.0 ≡ start.start.0 = ap (λ (l : Lsn). l.0) redo_is in
    let by : c.worker ≡ a.worker = mid.worker ∙ one.worker in
    record {
      before = one.before;
      between = p.0;
      first = first;
      last = last;
      past = one.past;
      grown = two.mark.grown ∙ (ap (λ (l : List Entry). l ++ (last ∷ [])) front ∙ append_assoc one.before (first ∷ p.0) (last ∷ []));
      starts = one.mark.is;
      ends = (two.mark.is.0 ∙ ap (λ n. Mark (Online n)) (sym same), two.mark.is.1 ∙ ap (λ w. Some w) by, two.mark.is.2);
      redo_is = same ∙ one.mark.start;
      at_is = ap (λ (l : Lsn). l.0) at_is ∙ two.mark.start;
      rises = omega (arith, same, one.mark.start, one.mark.long, history_ends one.before first, ap history_end one.mark.grown, mid.ends, two.ends, two.mark.late);
      reached = omega (arith, reached, two.mark.end);
    }

pub ended_in : (a b : Standing) (start : ℕ) (place : Place) (flushed : Flushed) → HasMarked (BackupEnd start) a b place → place.end.0 ≤ flushed.to.0 → HasEnded a.worker start a.list b.list place.end flushed
ended_in a b start place flushed one reached = record {
  before = one.before;
  entry = one.mark.entry;
  past = one.past;
  grown = one.mark.grown;
  is = one.mark.is;
  end_is = one.mark.end;
  reached = reached;
}

-- a command in a partition that is brought up to date
pub inserts_of : (tells : Type 0) (mib : ℕ) (command : Op) (old mid new : Standing) (before now : List Entry) (r : Result Receipt InsertFault) → IsPrefix old.list before → mid.worker ≡ old.worker → mid.accepted ≡ old.accepted → IfOk r (IsReceipt mid.worker command before now)
    → (tells → IfOk r (IsTaken mib command before)) → (tells → IfErr r (IsRefusedBehind mib before command)) → OnErr r (now ≡ before) → new.list ≡ now → new.worker ≡ mid.worker → OnOk r (new.accepted ≡ mid.accepted + 1) → OnErr r (new.accepted ≡ mid.accepted)
    → Inserts tells mib command old new r
inserts_of tells mib command old mid new before now (Ok receipt) past by count is taken refused same whole worker more stays = (
  record {
    before = before;
    past = past;
    receipt_is = subst (λ (l : List Entry). IsReceipt old.worker command before l receipt) (sym whole) (subst (λ w. IsReceipt w command before now receipt) by is);
    taken = taken;
    counted = more ∙ ap (λ n. n + 1) count;
  },
  worker ∙ by,
)
inserts_of tells mib command old mid new before now (Err fault) past by count is taken refused same whole worker more stays = (
  record {
    past = subst (λ (l : List Entry). IsPrefix old.list l) (sym (whole ∙ same)) past;
    refused = λ t. subst (λ (l : List Entry). IsRefusedBehind mib l command fault) (sym (whole ∙ same)) (refused t);
    counted = stays ∙ count;
  },
  worker ∙ by,
)
