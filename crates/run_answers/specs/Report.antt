-- The lines that the run of a script prints (profile).
use Rattle.std.specs.Prelude.{ℕ, List, [], ◌∷◌, ◌++◌, Option, Some, None, Result, Ok, Err, codes}
use Rattle.std.specs.List.{flat_map}
use Rattle.std.specs.Fmt.{decimal}
use Rattle.lsn_core.specs.Names.{lsn_bytes}
use Rattle.lsn_core.specs.declared.lsn.Lsn.{Lsn}
use Rattle.lsn_core.specs.declared.lsn.Place.{Place}
use Rattle.lsn_core.specs.declared.fault.AreaFault.TheVariants.{Failed}
use Rattle.lsn_core.specs.declared.fault.MarkFault.{MarkFault}
use Rattle.lsn_core.specs.declared.fault.MarkFault.TheVariants as mark
use Rattle.lsn_core.specs.declared.fault.StoreFault.{StoreFault}
use Rattle.store_faults.specs.declared.insert_fault.InsertFault.{InsertFault}
use Rattle.store_faults.specs.declared.insert_fault.InsertFault.TheVariants as insert_fault
use Rattle.store_faults.specs.declared.backup_fault.BackupFault.{BackupFault}
use Rattle.store_faults.specs.declared.backup_fault.BackupFault.TheVariants as backup
use Rattle.store_faults.specs.declared.incr_fault.IncrFault.{IncrFault}
use Rattle.store_faults.specs.declared.incr_fault.IncrFault.TheVariants as incr
use Rattle.scripts.specs.declared.script.Command.{Command}
use Rattle.scripts.specs.declared.script.Line.{Line}
use Rattle.run_answers.specs.declared.answer.Stop.{Stop}
use Rattle.run_answers.specs.declared.answer.Stop.TheVariants as stop
use Rattle.scripts.specs.Named.{backup_taken, prior_taken}
use Rattle.run_answers.specs.Stopping.{stop_of}
use Rattle.run_answers.specs.declared.answer.Answer.{Answer}
use Rattle.run_answers.specs.declared.answer.Answer.TheVariants as answer
use Rattle.command_base.specs.Areas.{area_name, sums_name, backup_name}
use Rattle.command_base.specs.Backups.{manifest_text, systems_text, overlap_text, gap_text}
use Rattle.command_base.specs.Faults.{refused_line, area_text, store_text, full_text, memory_text}
use Rattle.run_answers.specs.declared.told.Told.{Told}
use Rattle.run_answers.specs.declared.outcome.RunReport.{RunReport}

-- number and name of a refused command's fault, and its arguments
abbrev pub insert_fault_text : InsertFault → List ℕ
insert_fault_text (insert_fault.NoFork n) = codes "1 NoFork " ++ decimal n
insert_fault_text (insert_fault.ForkExists n) = codes "2 ForkExists " ++ decimal n
insert_fault_text (insert_fault.PastEnd n) = codes "3 PastEnd " ++ decimal n
insert_fault_text (insert_fault.NoBlock n) = codes "4 NoBlock " ++ decimal n
insert_fault_text (insert_fault.BadPage i n) =
    codes "5 BadPage " ++ (decimal i ++ (32 ∷ decimal n))
insert_fault_text (insert_fault.BadFragment i j) =
    codes "6 BadFragment " ++ (decimal i ++ (32 ∷ decimal j))
insert_fault_text insert_fault.BlockCount = codes "7 BlockCount"
insert_fault_text insert_fault.TwoRelations = codes "8 TwoRelations"
insert_fault_text (insert_fault.ForkFull n) = codes "9 ForkFull " ++ decimal n
insert_fault_text (insert_fault.StoreFull n) = codes "10 StoreFull " ++ decimal n
insert_fault_text (insert_fault.CutPastEnd n) = codes "11 CutPastEnd " ++ decimal n
insert_fault_text (insert_fault.Failed area) = codes "12 DeviceFault " ++ area_name area
insert_fault_text insert_fault.NoMemory = codes "13 NoMemory"
insert_fault_text (insert_fault.SameBlock i) = codes "14 SameBlock " ++ decimal i
insert_fault_text (insert_fault.WalFull n) = codes "15 WalFull " ++ decimal n

-- where an accepted command's entry stands
abbrev pub accepted_text : Place → List ℕ
accepted_text place = codes "ok " ++ (lsn_bytes place.start.0 ++ (32 ∷ lsn_bytes place.end.0))

-- so many commands were accepted, between these places
abbrev pub grown_text : ℕ → Place → List ℕ
grown_text k place =
    codes "ok " ++ (decimal k ++ (32 ∷ (lsn_bytes place.start.0 ++ (32 ∷ lsn_bytes place.end.0))))

-- why a checkpoint was not done
abbrev pub mark_fault_text : MarkFault → List ℕ
mark_fault_text (mark.Failed area) = area_text (area_name area) Failed
mark_fault_text (mark.WalFull n) = codes "17 WalFull " ++ decimal n
mark_fault_text mark.NoMemory = memory_text

-- a backup was taken, between these places
abbrev pub backup_text : Lsn → Lsn → List ℕ
backup_text start end = codes "backup " ++ (lsn_bytes start.0 ++ (32 ∷ lsn_bytes end.0))

-- why a full backup of this name was refused, or failed
abbrev pub backup_fault_text : List ℕ → BackupFault → List ℕ
backup_fault_text name backup.NotEmpty = full_text (backup_name name)
backup_fault_text name (backup.WalFull n) = codes "17 WalFull " ++ decimal n
backup_fault_text name (backup.StoreFailed area) = area_text (area_name area) Failed
backup_fault_text name backup.OutFailed = area_text (backup_name name) Failed
backup_fault_text name backup.NoMemory = memory_text

-- why an incremental backup of this name, on this prior one, was refused, or failed
abbrev pub incr_fault_text : List ℕ → List ℕ → IncrFault → List ℕ
incr_fault_text name prior incr.NotEmpty = full_text (backup_name name)
incr_fault_text name prior incr.NoManifest = codes "20 NoManifest " ++ prior
incr_fault_text name prior (incr.ManifestRefused why) = manifest_text prior why
incr_fault_text name prior (incr.SystemDiffers have expected) =
    systems_text prior have expected
incr_fault_text name prior (incr.Overlap start end) =
    overlap_text name start end
incr_fault_text name prior (incr.Gap place) = gap_text place
incr_fault_text name prior (incr.WalFull n) = codes "17 WalFull " ++ decimal n
incr_fault_text name prior (incr.StoreFailed area) = area_text (area_name area) Failed
incr_fault_text name prior incr.SumsFailed = area_text sums_name Failed
incr_fault_text name prior incr.PriorFailed = area_text (backup_name prior) Failed
incr_fault_text name prior incr.OutFailed = area_text (backup_name name) Failed
incr_fault_text name prior incr.NoMemory = memory_text

-- by what a line was stopped
abbrev pub stop_text : Command → Stop → List ℕ
stop_text line (stop.Store why) = store_text why
stop_text line stop.Backup = area_text (backup_name (backup_taken line)) Failed
stop_text line stop.Prior = area_text (backup_name (prior_taken line)) Failed

-- the answer to a line
abbrev pub answer_text : Command → Answer → List ℕ
answer_text line (answer.Accepted place) = accepted_text place
answer_text line (answer.Refused why) = codes "refused " ++ insert_fault_text why
answer_text line (answer.Grown k place) = grown_text k place
answer_text line (answer.Stopped k why) =
    codes "stopped " ++ (decimal k ++ (32 ∷ insert_fault_text why))
answer_text line (answer.Redo redo) = codes "redo " ++ lsn_bytes redo.0
answer_text line (answer.CheckpointRefused why) = codes "refused " ++ mark_fault_text why
answer_text line (answer.Wrote k) = codes "wrote " ++ decimal k
answer_text line (answer.Published k) = codes "published " ++ decimal k
answer_text line (answer.CallFailed why) = codes "refused " ++ store_text why
answer_text line (answer.Backup start end) = backup_text start end
answer_text line (answer.BackupRefused why) =
    codes "refused " ++ backup_fault_text (backup_taken line) why
answer_text line (answer.IncrRefused why) =
    codes "refused " ++ incr_fault_text (backup_taken line) (prior_taken line) why
answer_text line answer.NotRun = codes "not run"

-- the worker, the number of the line, and its answer
abbrev pub answer_line : List ℕ → Line → Answer → List ℕ
answer_line name line answer =
    name ++ (32 ∷ (decimal line.number
    ++ (32 ∷ (answer_text line.command answer ++ (10 ∷ [])))))

abbrev pub answer_lines : List ℕ → List Line → List Answer → List ℕ
answer_lines name [] answers = []
answer_lines name (line ∷ lines) [] = []
answer_lines name (line ∷ lines) (answer ∷ answers) =
    answer_line name line answer ++ answer_lines name lines answers

-- the lines of a worker
abbrev pub worker_lines : Told → List ℕ
worker_lines told = answer_lines told.task.name told.task.lines told.answers

-- the first line by whose answer a worker was stopped, and by what
abbrev pub stop_or : Line → Option Stop → Option (Line × Stop) → Option (Line × Stop)
stop_or line None rest = rest
stop_or line (Some why) rest = Some (line, why)

abbrev pub first_stop : List Line → List Answer → Option (Line × Stop)
first_stop [] answers = None
first_stop (line ∷ lines) [] = None
first_stop (line ∷ lines) (answer ∷ answers) =
    stop_or line (stop_of answer) (first_stop lines answers)

-- the same of all workers, in the order of the script
abbrev pub first_or : Option (Line × Stop) → Option (Line × Stop) → Option (Line × Stop)
first_or None rest = rest
first_or (Some first) rest = Some first

abbrev pub first_told : List Told → Option (Line × Stop)
first_told [] = None
first_told (t ∷ told) = first_or (first_stop t.task.lines t.answers) (first_told told)

-- how closing the store ended: where the WAL ends, or why it isn't known to be written
abbrev pub closed_line : Result Lsn StoreFault → List ℕ
closed_line (Ok end) = codes "wal " ++ (lsn_bytes end.0 ++ (10 ∷ []))
closed_line (Err why) = refused_line (store_text why)

-- a run ends with the line by which a worker was stopped first; where none was, as closing the
-- store did
abbrev pub ending_line : Option (Line × Stop) → Result Lsn StoreFault → List ℕ
ending_line None closed = closed_line closed
ending_line (Some first) closed =
    refused_line (stop_text first.0.command first.1)

-- the last line
abbrev pub last_line : RunReport → List ℕ
last_line report = ending_line (first_told report.told) report.closed

-- the first line: where the WAL ended before
abbrev pub opened_line : Lsn → List ℕ
opened_line opened = codes "opened " ++ (lsn_bytes opened.0 ++ (10 ∷ []))

abbrev pub report_text : RunReport → List ℕ
report_text report =
    opened_line report.opened ++ (flat_map worker_lines report.told ++ last_line report)
