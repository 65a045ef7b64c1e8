-- What `run` comes to, what it prints of that, and its status (profile).
use Rattle.std.specs.Prelude.{ℕ, List, ◌∷◌, ◌++◌, Option, Some, None, Result, Ok, Err, codes}
use Rattle.std.specs.Fmt.{decimal}
use Rattle.lsn_core.specs.declared.lsn.Lsn.{Lsn}
use Rattle.lsn_core.specs.declared.fault.StoreFault.{StoreFault}
use Rattle.scripts.specs.declared.script.Line.{Line}
use Rattle.scripts.specs.declared.why.Why.{Why}
use Rattle.scripts.specs.Reasons.{why_bytes}
use Rattle.command_base.specs.declared.status.Status.{Status}
use Rattle.command_base.specs.declared.status.Status.TheVariants as status
use Rattle.command_base.specs.Faults.{refused_line, area_text, take_text, memory_text, area_status, store_status}
use Rattle.run_answers.specs.declared.answer.Stop.{Stop}
use Rattle.run_answers.specs.declared.answer.Stop.TheVariants as stop
use Rattle.run_answers.specs.declared.outcome.RunReport.{RunReport}
use Rattle.run_answers.specs.declared.outcome.RunFault.{RunFault}
use Rattle.run_answers.specs.declared.outcome.RunFault.TheVariants as run
use Rattle.run_answers.specs.Begin.{begin_text, begin_status}
use Rattle.run_answers.specs.Report.{first_told, report_text, last_line}

abbrev pub RunResult : Type 0
RunResult = Result RunReport RunFault

-- ---- what it prints

abbrev pub script_text : ℕ → Why → List ℕ
script_text line why = codes "2 ScriptLine " ++ (decimal line ++ (32 ∷ why_bytes why))

abbrev pub run_fault_text : RunFault → List ℕ
run_fault_text (run.Input why) = area_text (codes "input") why
run_fault_text (run.Script line why) = script_text line why
run_fault_text run.NoMemory = memory_text
run_fault_text (run.Site fault) = take_text fault
run_fault_text (run.Begin why) = begin_text why

abbrev pub run_text : RunResult → List ℕ
run_text (Ok report) = report_text report
run_text (Err fault) = refused_line (run_fault_text fault)

-- the last of its lines
abbrev pub last_text : RunResult → List ℕ
last_text (Ok report) = last_line report
last_text (Err fault) = refused_line (run_fault_text fault)

-- the status of a run by how it ended: with the line by which a worker was stopped first; where
-- none was, as closing the store did
abbrev pub stop_status : Stop → Status
stop_status (stop.Store why) = store_status why
stop_status stop.Backup = status.Device
stop_status stop.Prior = status.Device

abbrev pub closed_status : Result Lsn StoreFault → Status
closed_status (Ok end) = status.Done
closed_status (Err why) = store_status why

abbrev pub ending_status : Option (Line × Stop) → Result Lsn StoreFault → Status
ending_status None closed = closed_status closed
ending_status (Some first) closed = stop_status first.1

abbrev pub run_status : RunResult → Status
run_status (Ok report) = ending_status (first_told report.told) report.closed
run_status (Err (run.Input why)) = area_status why
run_status (Err (run.Script line why)) = status.Usage
run_status (Err run.NoMemory) = status.Memory
run_status (Err (run.Site fault)) = area_status fault.why
run_status (Err (run.Begin why)) = begin_status why
