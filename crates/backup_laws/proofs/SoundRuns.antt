-- The backups that a run answered are sound for the records of its WAL.
use Rattle.std.proofs.Common.{◌≡◌, ℕ, suc, List, [], ◌∷◌, ◌++◌, map, length, take, drop, Some, sym, ap, subst, ◌∙◌, arith, inr}
use Rattle.std.specs.List.{All}
use Rattle.std.specs.FinMap.{empty}
use Rattle.std.proofs.lemmas.List.{map-append, length-map, take-append-drop}
use Rattle.std.proofs.Math.Seq.{take-append_seam}
use mathlib.Core.List.{IsPrefix}
use Rattle.lsn_core.specs.Segment.{StoreSettings}
use Rattle.lsn_core.specs.Store.{Store}
use Rattle.wal_record.specs.declared.record.Record.{Record}
use Rattle.history.specs.Apply.{apply_all}
use Rattle.history.specs.Entry.{Entry}
use Rattle.history.specs.Whole.{entry_of}
use Rattle.history.specs.Written.{wal_of}
use Rattle.history.specs.fuzzy_copies.Logged.{history_of, log_of}
use Rattle.history.specs.fuzzy_copies.Orderly.{IsOrderly}
use Rattle.history.specs.fuzzy_copies.Sound.{IsSoundCopy}
use Rattle.history.specs.fuzzy_copies.Taken.{IsTaken}
use Rattle.history.proofs.fuzzy_copies.Restored.{logged_sound}
use Rattle.history.proofs.fuzzy_copies.Taken.{taken_sound}
use Rattle.journal.specs.Lawful.{IsLawful}
use Rattle.journal.proofs.Stands.{lawful_orderly}
use Rattle.store_locks.specs.Calls.{IsOfRun}
use Rattle.store_locks.specs.Copied.{HasRedoPoint}
use Rattle.store_locks.proofs.RedoPoints.{redo_runs}
use Rattle.run_answers.specs.declared.answer.Answer.TheVariants.{Backup}
use Rattle.backup_sending.specs.Entries.{HasBackupAt}
use Rattle.backup_sending.proofs.Marks.{checkpoint_on, checkpoints_have_redo_points}
use Rattle.backup_sending.proofs.Sound.{backup_checkpoint, taken_on}
use Rattle.crew.specs.Run.{Basis, HoldsBackup}
use Rattle.run_command.specs.Run.{AreTold, run_basis}
use Rattle.run_command.proofs.OwnEntries.{AreOwn, of_worker, written_own, parted}
use Rattle.backup_laws.specs.Runs.{BackupsOfRunsAreSound}
use Rattle.backup_laws.proofs.Lines.{line_stands}

-- ---- where it begins

-- the start of a backup's checkpoint is a redo point
pub begins_at : (worker before : ℕ) (now history : List Entry) (start checkpoint end : ℕ) → IsPrefix now history → HasBackupAt worker before now start checkpoint end → HasRedoPoint history start
begins_at worker before now history start checkpoint end p h =
    checkpoints_have_redo_points worker before history start (checkpoint_on worker before now history start p (backup_checkpoint worker before now start checkpoint end h))

-- ---- a history that goes on

-- a copy that was taken while a beginning of a history was written is sound for all of it
pub taken_in : (mib : ℕ) (copy : Store) (now history : List Entry) (from to : ℕ) → IsLawful mib history → HasRedoPoint history from → IsPrefix now history → IsTaken copy now from to → IsSoundCopy copy history from to
taken_in mib copy now history from to law redo p taken =
    taken_sound copy history from to (redo_runs mib from history law redo) (subst (λ (es : List Entry). IsTaken copy es from to) p.1 (taken_on copy now p.0 from to taken))

-- ---- the records of the WAL

pub own_entries : (workers : ℕ) (es : List Entry) → All (IsOfRun workers) es → AreOwn es
own_entries workers [] all = tt
own_entries workers (e ∷ es) all =
    let by : IsOfRun workers e = all 0 e (omega arith) in
    (of_worker by.0 e by.2, own_entries workers es (λ k d within. all (suc k) d (omega arith)))

-- entries that were found, before own ones, are the same however they are told
pub found_alike : (rs qs : List Record) (es os : List Entry) → AreOwn es → AreOwn os → map entry_of rs ++ es ≡ map entry_of qs ++ os → map entry_of rs ≡ map entry_of qs
found_alike rs qs es os own other same =
    let part = parted rs qs es os own other same in
    let many : length (map entry_of rs) ≡ length (map entry_of qs) = length-map rs entry_of ∙ (part.0 ∙ sym (length-map qs entry_of)) in
    sym (take-append_seam (map entry_of rs) es)
    ∙ (ap (take (length (map entry_of rs))) same
    ∙ (ap (λ (n : ℕ). take n (map entry_of qs ++ os)) many ∙ take-append_seam (map entry_of qs) os))

-- so the WAL's records are read as the entries of a lawful history's log
pub log_alike : (mib : ℕ) (found : List Record) (own history : List Entry) (law : IsLawful mib history) → history ≡ map entry_of found ++ own → AreOwn own → map entry_of (log_of mib law.found law.own) ≡ map entry_of (found ++ wal_of mib history)
log_alike mib found own history law grown owns =
    let alike : map entry_of law.found ≡ map entry_of found = found_alike law.found found law.own own (written_own mib _ law.own law.logged.written) owns (sym law.grown ∙ grown) in
    map-append entry_of law.found (wal_of mib (history_of law.found law.own))
    ∙ (ap (λ (es : List Entry). es ++ map entry_of (wal_of mib (history_of law.found law.own))) alike
    ∙ (ap (λ (es : List Entry). map entry_of found ++ map entry_of (wal_of mib es)) (sym law.grown)
    ∙ sym (map-append entry_of found (wal_of mib history))))

pub sound_logged : (mib : ℕ) (copy : Store) (found : List Record) (own history : List Entry) (from to : ℕ) → IsLawful mib history → history ≡ map entry_of found ++ own → AreOwn own → IsSoundCopy copy history from to → IsSoundCopy copy (map entry_of (found ++ wal_of mib history)) from to
sound_logged mib copy found own history from to law grown owns sound =
    subst (λ (es : List Entry). IsSoundCopy copy es from to) (log_alike mib found own history law grown owns)
    (logged_sound mib law.found law.own law.store copy from to
    (subst (λ (es : List Entry). IsOrderly 0 es) law.grown (lawful_orderly mib history law)) law.logged
    (subst (λ (es : List Entry). apply_all empty es ≡ Some law.store) law.grown law.made)
    (subst (λ (es : List Entry). IsSoundCopy copy es from to) law.grown sound))

-- ---- the law

pub runs_sound : BackupsOfRunsAreSound
runs_sound when old new report run name start end taken told =
    let s : StoreSettings = run.settings in
    let b : Basis = run_basis s when run.limit run.found old in
    let law : IsLawful s.segment run.history = run.happened.lawful told in
    let stands = line_stands (AreTold old) b taken.worker run.history new taken.by.task.lines taken.by.answers taken.number taken.line taken.behind (Backup start end) taken.later (run.completed taken.worker taken.by taken.there) taken.lines taken.answers name taken.takes in
    let now : List Entry = take stands.0 run.history in
    let holds : HoldsBackup (AreTold old) b taken.worker 0 now name start end stands.1.files = stands.3 in
    let front : IsPrefix now run.history = (drop stands.0 run.history, take-append-drop stands.0 run.history) in
    let redo : HasRedoPoint run.history start.0 = begins_at taken.worker 0 now run.history start.0 holds.checkpoint end.0 front holds.entries in
    let sound : IsSoundCopy holds.copy run.history start.0 end.0 = taken_in s.segment holds.copy now run.history start.0 end.0 law redo front (holds.taken told) in (
      stands.1,
      record {
        copy = holds.copy;
        checkpoint = record { 0 = holds.checkpoint };
        count = holds.count;
        directory = holds.directory;
        sound = sound_logged s.segment holds.copy run.found run.happened.own run.history start.0 end.0 law run.happened.grown (own_entries _ run.happened.own run.happened.of_run) sound;
      },
      stands.4,
      λ last. stands.5 (inr last),
    )
