-- Checkpoints and flushes.
use Rattle.std.proofs.Common.{◌≡◌, ℕ, ◌+◌, ◌≤◌, List, [], ◌∷◌, ◌++◌, length, slice_get, Some, refl, ap, sym, subst, ◌∙◌, arith, append_assoc, length-append, inl}
use Rattle.std.specs.Prelude.{Err}
use Rattle.lsn_core.specs.declared.fault.MarkFault.{MarkFault}
use Rattle.lsn_core.specs.declared.fault.MarkFault.TheVariants as mark
use Rattle.lsn_core.specs.declared.fault.StoreArea.{StoreArea}
use Rattle.lsn_core.specs.declared.fault.StoreFault.{StoreFault}
use Rattle.lsn_core.specs.declared.fault.StoreFault.TheVariants as store
use Rattle.lsn_core.specs.Segment.{StoreSettings}
use Rattle.history.specs.Entry.{Entry}
use Rattle.wal_writer.specs.declared.state.Flushed.{Flushed}
use Rattle.store_locks.specs.declared.receipt.Redo as receipt
use Rattle.store_locks.specs.Seen.{Seen, StaysBy, ShareRose, TakesFault}
use Rattle.shared_store.specs.Shared.{HasCheckpointIn, MayFindNoRoom, TakesMarkFault}
use Rattle.backup_sending.specs.Entries.{HasCheckpointAt}
use Rattle.scripts.specs.declared.script.Command.TheVariants as command
use Rattle.run_answers.specs.declared.answer.Answer.TheVariants.{Redo, CheckpointRefused, Wrote, CallFailed}
use Rattle.run_answers.specs.declared.answer.Stop.TheVariants as stop
use Rattle.crew.specs.Run.{IsCheckpointRefused}
use Rattle.run_answers.specs.Stopping.{mark_stop}
use Rattle.crew.specs.Running.{WentOn, CommandRuns}
use Rattle.crew.proofs.Lists.{prefix_length, next_there}
use Rattle.shared_store.proofs.Booked.{takes_rose, mark_stays}
use Rattle.crew.proofs.Shares.{shares_same, rose_from, fault_rose}
use Rattle.crew.proofs.Steps.{went_further, went_still}

-- ---- checkpoints

pub redone : (tells : Type 0) (settings : StoreSettings) (old new : Seen) (redo : receipt.Redo) (flushed : Flushed) → HasCheckpointIn old.worker old.list new.list redo flushed → StaysBy old new → new.accepted ≡ old.accepted → new.marks ≤ old.marks + 2 → new.faults ≡ old.faults
    → CommandRuns tells settings command.Checkpoint old new (Redo redo.redo)
redone tells settings old new redo flushed c stays accepted marked faults = λ when found sums limit held.
    let cut : new.list ≡ (c.before ++ (c.first ∷ c.between)) ++ (c.last ∷ []) = c.grown ∙ sym (append_assoc c.before (c.first ∷ c.between) (c.last ∷ [])) in
    let there : HasCheckpointAt old.worker (length old.list) new.list redo.redo.0 = record {
      first = c.first;
      number = length c.before;
      later = prefix_length old.list c.before c.past;
      there = ap (λ (xs : List Entry). slice_get xs (length c.before)) c.grown ∙ next_there c.before c.first (c.between ++ (c.last ∷ []));
      starts = c.starts;
      redo_is = sym c.redo_is;
      last = c.last;
      number_last = length (c.before ++ (c.first ∷ c.between));
      behind = omega (arith, length-append c.before (c.first ∷ c.between));
      there_last = ap (λ (xs : List Entry). slice_get xs (length (c.before ++ (c.first ∷ c.between)))) cut ∙ next_there (c.before ++ (c.first ∷ c.between)) c.last [];
      ends = c.ends;
    } in
    record {
      made = [];
      went = went_still old new stays accepted marked (shares_same old.faults new.faults faults);
      answered = (refl, refl, there, refl);
      risen = λ area t. absurd cc;
      run = refl;
    }

-- ---- checkpoints that fail

mark_risen : (T : Type 0) (old new : Seen) (why : MarkFault) (area : StoreArea) → TakesMarkFault {T = T} old new (Err why) → mark_stop why ≡ Some (stop.Store (store.Failed area)) → ShareRose area old new
mark_risen T old new (mark.Failed other) area takes e =
    let same : other ≡ area = cc in
    subst (λ (a : StoreArea). ShareRose a old new) same (takes_rose other old new takes)
mark_risen T old new (mark.WalFull n) area takes e = absurd cc
mark_risen T old new mark.NoMemory area takes e = absurd cc

why_not : (mib worker before : ℕ) (now : List Entry) (why : MarkFault) → MayFindNoRoom mib worker before now why → IsCheckpointRefused mib worker before now why
why_not mib worker before now (mark.Failed area) full = tt
why_not mib worker before now (mark.WalFull n) full = full
why_not mib worker before now mark.NoMemory full = tt

pub not_redone : (T : Type 0) (tells : Type 0) (settings : StoreSettings) (old new : Seen) (why : MarkFault) → MayFindNoRoom settings.segment old.worker (length old.list) new.list why → TakesMarkFault {T = T} old new (Err why) → StaysBy old new
    → new.accepted ≡ old.accepted → new.marks ≤ old.marks + 2 → CommandRuns tells settings command.Checkpoint old new (CheckpointRefused why)
not_redone T tells settings old new why full takes stays accepted marked = λ when found sums limit held. record {
  made = [];
  went = went_still old new stays accepted marked (mark_stays {T = T} old new (Err why) takes);
  answered = (refl, refl, why_not settings.segment old.worker (length old.list) new.list why full, refl);
  risen = λ area t. mark_risen T old new why area takes t;
  run = refl;
}

-- ---- flushes

pub told_fault : (why : StoreFault) (area : StoreArea) → Some (stop.Store why) ≡ Some (stop.Store (store.Failed area)) → why ≡ store.Failed area
told_fault why area e = cc e

pub not_written : (tells : Type 0) (settings : StoreSettings) (old now new : Seen) (count : ℕ) (why : StoreFault) → WentOn 0 old now [] → WentOn 0 now new [] → TakesFault now new why → CommandRuns tells settings (command.Flush count) old new (CallFailed why)
not_written tells settings old now new count why w v takes = λ when found sums limit held. record {
  made = [];
  went = went_further old now new [] [] w v;
  answered = (refl, inl (count, refl), refl);
  risen = λ area t. rose_from area old now new w.shares (fault_rose now new why area takes (told_fault why area t));
  run = refl;
}

pub written : (tells : Type 0) (settings : StoreSettings) (old new : Seen) (count wrote : ℕ) → WentOn 0 old new [] → wrote ≤ count → CommandRuns tells settings (command.Flush count) old new (Wrote wrote)
written tells settings old new count wrote w few = λ when found sums limit held. record { made = []; went = w; answered = (count, refl, refl, few, refl); risen = λ area t. absurd cc; run = refl }
