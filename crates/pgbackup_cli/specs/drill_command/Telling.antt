-- What `drill` prints, and its status (profile).
use Rattle.std.specs.Prelude.{ℕ, List, [], ◌∷◌, ◌++◌, Ok, Err, codes, bytes_eq, if◌then◌else◌}
use Rattle.std.specs.Fmt.{decimal}
use Rattle.command_base.specs.declared.status.Status.{Status}
use Rattle.command_base.specs.declared.status.Status.TheVariants as status
use Rattle.command_base.specs.Areas.{wal_name}
use Rattle.command_base.specs.Faults.{refused_line, area_text, full_text, memory_text, area_status}
use Rattle.store_commands.specs.Init.{init_text, init_status}
use Rattle.run_answers.specs.Telling.{last_text, run_status}
use Rattle.chain_commands.specs.Restore.{restore_text, restore_status}
use Rattle.pgbackup_cli.specs.declared.drill_command.clearing.Unclear.{Unclear}
use Rattle.pgbackup_cli.specs.declared.drill_command.clearing.Unclear.TheVariants as unclear
use Rattle.pgbackup_cli.specs.declared.drill_command.report.DrillReport.{DrillReport}
use Rattle.pgbackup_cli.specs.declared.drill_command.report.DrillFault.{DrillFault}
use Rattle.pgbackup_cli.specs.declared.drill_command.report.DrillFault.TheVariants as drill
use Rattle.pgbackup_cli.specs.drill_command.Drill.{DrillResult, drill_members, drill_out}

-- the number, how many workers and commands its script has, and what was restored
abbrev pub done_text : ℕ → DrillReport → List ℕ
done_text n report =
    codes "drill " ++ (decimal n
    ++ (codes " writers 4 commands 2084 forks " ++ (decimal report.forks
    ++ (codes " pages " ++ (decimal report.pages
    ++ (codes " contents " ++ (report.sum ++ (10 ∷ []))))))))

-- areas aren't empty
abbrev pub unclear_text : Unclear → List ℕ
unclear_text unclear.NoMemory = memory_text
unclear_text (unclear.Unread area why) = area_text area why
unclear_text (unclear.Full area) =
    if bytes_eq area wal_name then codes "42 AlreadyInit" else full_text area

abbrev pub unclear_status : Unclear → Status
unclear_status unclear.NoMemory = status.Memory
unclear_status (unclear.Unread area why) = area_status why
unclear_status (unclear.Full area) = status.Refused

-- a part that is refused prints the line that it prints of itself; a run its last line
abbrev pub drill_fault_text : DrillFault → List ℕ
drill_fault_text drill.NoMemory = refused_line memory_text
drill_fault_text (drill.Area why) = refused_line (unclear_text why)
drill_fault_text (drill.Init came) = init_text came
drill_fault_text (drill.Run came) = last_text came
drill_fault_text (drill.Restore came) = restore_text drill_members drill_out came
drill_fault_text (drill.Read why) = refused_line (area_text drill_out why)

abbrev pub drill_text : ℕ → DrillResult → List ℕ
drill_text n (Ok report) = done_text n report
drill_text n (Err fault) = drill_fault_text fault

abbrev pub drill_status : DrillResult → Status
drill_status (Ok report) = status.Done
drill_status (Err drill.NoMemory) = status.Memory
drill_status (Err (drill.Area why)) = unclear_status why
drill_status (Err (drill.Init came)) = init_status came
drill_status (Err (drill.Run came)) = run_status came
drill_status (Err (drill.Restore came)) = restore_status came
drill_status (Err (drill.Read why)) = area_status why
