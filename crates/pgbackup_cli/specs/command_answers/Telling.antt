-- The lines of what the program comes to, and its status. A command joins by one row in each of
-- these definitions.
use Rattle.std.specs.Prelude.{List, [], ℕ, Option, Some, Result, Ok, Err, codes}
use Rattle.lsn_core.specs.declared.fault.AreaFault.{AreaFault}
use Rattle.pgbackup_cli.specs.declared.command_answers.answer.Answer.{Answer}
use Rattle.pgbackup_cli.specs.declared.command_answers.answer.Answer.TheVariants as answer
use Rattle.command_base.specs.declared.status.Status.{Status}
use Rattle.command_base.specs.declared.status.Status.TheVariants as status
use Rattle.command_line.specs.Words.{Asked, Replay, Verify, Restore, Combine, Merge, Follow, Drill}
use Rattle.command_base.specs.Areas.{output_name}
use Rattle.command_base.specs.Faults.{refused_line, area_status}
use Rattle.store_commands.specs.Init.{init_text, init_status}
use Rattle.run_answers.specs.Telling.{run_text, run_status}
use Rattle.store_commands.specs.Replay.{replay_text, replay_status}
use Rattle.chain_commands.specs.Verify.{verify_text, verify_status}
use Rattle.chain_commands.specs.Restore.{restore_text, restore_status}
use Rattle.chain_commands.specs.Combine.{combine_text, combine_status}
use Rattle.chain_commands.specs.Merge.{merge_text}
use Rattle.store_commands.specs.Walsummary.{walsummary_text, walsummary_status}
use Rattle.store_commands.specs.Follow.{follow_text, follow_status}
use Rattle.restart_command.specs.Restart.{restart_text, restart_status}
use Rattle.pgbackup_cli.specs.drill_command.Telling.{drill_text, drill_status}

-- the area of the output that is asked for
abbrev pub output_asked : Option Asked → List ℕ
output_asked (Some (Replay upto name)) = output_name name
output_asked (Some (Restore upto out names)) = output_name out
output_asked (Some (Follow mib relseg name)) = output_name name
output_asked words = []

-- the name of the backup that is asked for
abbrev pub backup_asked : Option Asked → List ℕ
backup_asked (Some (Verify name)) = name
backup_asked (Some (Combine out names)) = out
backup_asked (Some (Merge out names)) = out
backup_asked words = []

-- the names of the members that are asked for
abbrev pub members_asked : Option Asked → List (List ℕ)
members_asked (Some (Restore upto out names)) = names
members_asked (Some (Combine out names)) = names
members_asked (Some (Merge out names)) = names
members_asked words = []

-- the number of the drill that is asked for
abbrev pub drill_asked : Option Asked → ℕ
drill_asked (Some (Drill n)) = n
drill_asked words = 0

-- the lines of an answer
abbrev pub text_of : Option Asked → Answer → List ℕ
text_of words answer.Usage = refused_line (codes "1 Usage")
text_of words answer.NoMemory = refused_line (codes "61 NoMemory")
text_of words (answer.Init r) = init_text r
text_of words (answer.Run r) = run_text r
text_of words (answer.Replay r) = replay_text (output_asked words) r
text_of words (answer.Verify r) = verify_text (backup_asked words) r
text_of words (answer.Restore r) = restore_text (members_asked words) (output_asked words) r
text_of words (answer.Combine r) = combine_text (members_asked words) (backup_asked words) r
text_of words (answer.Merge r) = merge_text (members_asked words) (backup_asked words) r
text_of words (answer.Walsummary r) = walsummary_text r
text_of words (answer.Follow r) = follow_text (output_asked words) r
text_of words (answer.Drill r) = drill_text (drill_asked words) r
text_of words (answer.Restart r) = restart_text r

-- the status of an answer
abbrev pub answer_status : Answer → Status
answer_status answer.Usage = status.Usage
answer_status answer.NoMemory = status.Memory
answer_status (answer.Init r) = init_status r
answer_status (answer.Run r) = run_status r
answer_status (answer.Replay r) = replay_status r
answer_status (answer.Verify r) = verify_status r
answer_status (answer.Restore r) = restore_status r
answer_status (answer.Combine r) = combine_status r
answer_status (answer.Merge r) = combine_status r
answer_status (answer.Walsummary r) = walsummary_status r
answer_status (answer.Follow r) = follow_status r
answer_status (answer.Drill r) = drill_status r
answer_status (answer.Restart r) = restart_status r

-- the status of an answer and of its printing: a sink that fails gives Device whatever else
-- happened
abbrev pub status_of : Answer → Result (Unit {0}) AreaFault → Status
status_of came (Ok told) = answer_status came
status_of came (Err why) = area_status why
