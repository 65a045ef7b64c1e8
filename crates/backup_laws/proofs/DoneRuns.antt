-- A script is run on a store whose WAL is sound and has an entry.
use Rattle.std.proofs.Common.{◌≡◌, ℕ, ◌+◌, ◌<◌, List, [], length, Option, Some, None, Result, Ok, Err, sym, subst, ◌∙◌, arith, inl, inr}
use Rattle.std.specs.Prelude.{take}
use Rattle.std.proofs.lemmas.List.{take_all}
use Rattle.lsn_core.specs.Files.{Files}
use Rattle.lsn_core.specs.declared.fault.StoreFault.{StoreFault}
use Rattle.lsn_core.specs.declared.fault.StoreFault.TheVariants as store
use Rattle.lsn_core.specs.declared.lsn.Lsn.{Lsn}
use Rattle.wal_record.specs.Tips.{first_tip}
use Rattle.wal_record.specs.declared.record.Record.{Record}
use Rattle.wal_reader.specs.Wal.{IsWal}
use Rattle.wal_reader.proofs.OneReading.{one_reading}
use Rattle.wal_reader.proofs.OneSettings.{one_settings}
use Rattle.recovery.specs.declared.fault.RecoveryFault.{RecoveryFault}
use Rattle.recovery.specs.declared.fault.RecoveryFault.TheVariants.{Damaged, Short, BadDelta, SettingsDamaged, Timeline, NotInit, Failed, NoMemory}
use Rattle.store_areas.specs.Begin.{BeginCause}
use Rattle.store_faults.specs.declared.begin_why.BeginWhy.TheVariants as begin
use Rattle.scripts.specs.Reasons.{script_limit}
use Rattle.scripts.specs.Script.{IsScript, IsRefusedAt}
use Rattle.scripts.specs.declared.script.Line.{Line}
use Rattle.scripts.specs.declared.script.Task.{Task}
use Rattle.scripts.specs.declared.why.Why.{Why}
use Rattle.command_base.specs.Areas.{wal_name}
use Rattle.command_base.specs.Faults.{wal_status, store_status}
use Rattle.command_base.proofs.Told.{at_told}
use Rattle.run_answers.specs.Report.{first_told}
use Rattle.run_answers.specs.Telling.{stop_status, ending_status}
use Rattle.run_answers.specs.declared.answer.Stop.{Stop}
use Rattle.run_answers.specs.declared.answer.Stop.TheVariants as stop
use Rattle.run_answers.specs.declared.outcome.RunFault.TheVariants as run
use Rattle.run_command.specs.Run.{run_workers}
use Rattle.backup_laws.specs.Success.{IsDoneOrFails, IsSoundWal, ScriptsAreRun}
use Rattle.backup_laws.proofs.DoneCommands.{area_fails}
use Rattle.backup_laws.proofs.NotRefused.{wal_not_refused}

-- ---- how a run ended

store_fails : (why : StoreFault) → IsDoneOrFails (store_status why)
store_fails (store.Failed which) = tt
store_fails store.NoMemory = tt

stop_fails : (why : Stop) → IsDoneOrFails (stop_status why)
stop_fails (stop.Store why) = store_fails why
stop_fails stop.Backup = tt
stop_fails stop.Prior = tt

ended : (first : Option (Line × Stop)) (closed : Result Lsn StoreFault) → IsDoneOrFails (ending_status first closed)
ended None (Ok end) = tt
ended None (Err why) = store_fails why
ended (Some first) closed = stop_fails first.1

-- ---- a WAL that can be begun on

some_entry : (rs : List Record) → rs ≡ [] → 0 < length rs → ⊥
some_entry rs none some = (let never : 0 < 0 = subst (λ (l : List Record). 0 < length l) none some in omega (arith, never))

module _ (end : Lsn) (files : Files) (wal : IsSoundWal end files) (some : 0 < length wal.replayable.records) where
  begun : (before now : ℕ) (why : RecoveryFault) → BeginCause (Some files) before now why → IsDoneOrFails (wal_status why)
  begun before now (Damaged mib d) cause = wal_not_refused end files wal None before now (Damaged mib d) tt cause
  begun before now (Short stop target) cause = wal_not_refused end files wal None before now (Short stop target) tt cause
  begun before now (BadDelta place) cause = wal_not_refused end files wal None before now (BadDelta place) tt cause
  begun before now SettingsDamaged cause = wal_not_refused end files wal None before now SettingsDamaged tt cause
  begun before now (Timeline name) cause = wal_not_refused end files wal None before now (Timeline name) tt cause
  begun before now NotInit cause = elim cause [
    | inl missing ↦ wal_not_refused end files wal None before now NotInit tt missing
    | inr none ↦
        let empty : IsWal wal.settings files [] (first_tip none.settings.segment) = subst (λ t. IsWal t files [] (first_tip none.settings.segment)) (one_settings files none.settings wal.settings none.given.given wal.given) none.archive in
        absurd (some_entry wal.replayable.records (one_reading wal.settings files wal.replayable.records [] wal.replayable.last (first_tip none.settings.segment) wal.replayable.read empty).0 some)
  ]
  begun before now Failed cause = tt
  begun before now NoMemory cause = tt

  begun_told : (o : Option Files) (before now : ℕ) (why : RecoveryFault) → o ≡ Some files → BeginCause o before now why → IsDoneOrFails (wal_status why)
  begun_told o before now why told cause = begun before now why (subst (λ (x : Option Files). BeginCause x before now why) told cause)

-- ---- the law

taken_or_refused : (bytes : List ℕ) (script : List Task) (line : ℕ) (why : Why) → IsScript run_workers bytes script → IsRefusedAt run_workers bytes line why → ⊥
taken_or_refused bytes script line why is refused = (let never : None ≡ Some why = sym (is.taken line refused.least refused.most) ∙ refused.here in cc)

pub scripts_run : ScriptsAreRun
scripts_run days old new bytes script wal end (Ok report) left few is told sound some does = ended (first_told report.told) report.closed
scripts_run days old new bytes script wal end (Err (run.Input why)) left few is told sound some does = area_fails why
scripts_run days old new bytes script wal end (Err (run.Script line why)) left few is told sound some does =
    let refused = does.6.1 in
    let read : refused.bytes ≡ bytes = at_told old.left bytes (λ whole. refused.bytes ≡ take (script_limit + 1) whole) left refused.input.bytes_are ∙ take_all (script_limit + 1) bytes (omega (arith, few)) in
    absurd (taken_or_refused bytes script line why is (subst (λ (b : List ℕ). IsRefusedAt run_workers b line why) read refused.refused))
scripts_run days old new bytes script wal end (Err run.NoMemory) left few is told sound some does = tt
scripts_run days old new bytes script wal end (Err (run.Site fault)) left few is told sound some does = area_fails fault.why
scripts_run days old new bytes script wal end (Err (run.Begin (begin.Wal why))) left few is told sound some does =
    begun_told end wal sound some (old.areas wal_name).files (old.areas wal_name).faults (new.areas wal_name).faults why told does.6.1.1.1
scripts_run days old new bytes script wal end (Err (run.Begin (begin.Replay why))) left few is told sound some does =
    begun_told end wal sound some (old.areas wal_name).files (old.areas wal_name).faults (new.areas wal_name).faults why told does.6.1.1.1.1
scripts_run days old new bytes script wal end (Err (run.Begin (begin.Data why))) left few is told sound some does = store_fails why
