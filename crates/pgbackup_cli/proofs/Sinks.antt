-- What a command does is nothing to a sink.
use Rattle.std.proofs.Common.{ℕ, List, Option, Some, None}
use Rattle.pgbackup_cli.specs.declared.command_answers.answer.Answer.{Answer}
use Rattle.command_line.specs.Words.{Asked, Init, Run, Replay, Verify, Restore, Combine, Merge, Walsummary, Follow, Drill, Restart}
use Rattle.command_base.specs.Outside.{Outside}
use Rattle.pgbackup_cli.specs.Top.{DoesAsked}
use Rattle.pgbackup_cli.proofs.Drills.{Streams, drill_beside}

pub whatever_is_printed : (words : Option Asked) (old new : Outside) (printed after : Option (List ℕ)) (prints now : ℕ) (came : Answer) → DoesAsked words old new came
    → DoesAsked words (record old { printed = printed; prints = prints }) (record new { printed = after; prints = now }) came
whatever_is_printed None old new printed after prints now came does = does
whatever_is_printed (Some (Init options)) old new printed after prints now came does = does
whatever_is_printed (Some (Run frames days)) old new printed after prints now came does = does
whatever_is_printed (Some (Replay upto name)) old new printed after prints now came does = does
whatever_is_printed (Some (Verify name)) old new printed after prints now came does = does
whatever_is_printed (Some (Restore upto out names)) old new printed after prints now came does = does
whatever_is_printed (Some (Combine out names)) old new printed after prints now came does = does
whatever_is_printed (Some (Merge out names)) old new printed after prints now came does = does
whatever_is_printed (Some (Walsummary from to)) old new printed after prints now came does = does
whatever_is_printed (Some (Follow mib relseg name)) old new printed after prints now came does = does
whatever_is_printed (Some Restart) old new printed after prints now came does = does
whatever_is_printed (Some (Drill n)) old new printed after prints now came does =
    let before : Streams = record { left = old.left; reads = old.reads; printed = printed; prints = prints } in
    let behind : Streams = record { left = new.left; reads = new.reads; printed = after; prints = now } in
    (does.0, does.1, drill_beside n old new before behind does.0 does.2)
