-- What a drill does is nothing to the input and to a sink.
use Rattle.std.proofs.Common.{ℕ, List, Option, Ok, Err}
use Rattle.vault.specs.Lending.{Names}
use Rattle.command_base.specs.Outside.{Outside}
use Rattle.store_commands.specs.declared.replaying.ReplayReport.{ReplayReport}
use Rattle.pgbackup_cli.specs.declared.drill_command.clearing.Unclear.{Unclear}
use Rattle.pgbackup_cli.specs.declared.drill_command.clearing.Unclear.TheVariants as unclear
use Rattle.pgbackup_cli.specs.declared.drill_command.report.DrillFault.{DrillFault}
use Rattle.pgbackup_cli.specs.declared.drill_command.report.DrillFault.TheVariants as drill
use Rattle.pgbackup_cli.specs.declared.drill_command.report.DrillReport.{DrillReport}
use Rattle.pgbackup_cli.specs.drill_command.Clearing.{AreUnclear}
use Rattle.pgbackup_cli.specs.drill_command.Drill.{areas_cleared, HasLooked, HasBegun, HasRun, HasRestored, DrillDone, DrillRefused, DrillResult, DrillAnswer, DrillDoes}

-- what is known of the input and of the sink
pub record Streams : Type 0 where
  pub left : Option (List ℕ)
  pub reads : ℕ
  pub printed : Option (List ℕ)
  pub prints : ℕ

-- the outside with this beside it
abbrev pub beside : Outside → Streams → Outside
beside o s = record o { left = s.left; reads = s.reads; printed = s.printed; prints = s.prints }

looked_beside : (old looked : Outside) (s : Streams) → HasLooked old looked → HasLooked (beside old s) looked
looked_beside old looked s h = record { clear = h.clear; reads = h.reads }

begun_beside : (n : ℕ) (old begun : Outside) (s : Streams) → HasBegun n old begun → HasBegun n (beside old s) begun
begun_beside n old begun s h = record { looked = h.looked; before = looked_beside old h.looked s h.before; wrote = h.wrote; end = h.end; made = h.made }

run_beside : (n when : ℕ) (old ran : Outside) (s : Streams) → HasRun n when old ran → HasRun n when (beside old s) ran
run_beside n when old ran s h = record { begun = h.begun; before = begun_beside n old h.begun s h.before; wrote = h.wrote; run = h.run; done = h.done; ended = h.ended }

restored_beside : (n when : ℕ) (old left : Outside) (restored : ReplayReport) (s : Streams) → HasRestored n when old left restored → HasRestored n when (beside old s) left restored
restored_beside n when old left restored s h = record { ran = h.ran; before = run_beside n when old h.ran s h.before; wrote = h.wrote; made = h.made }

done_beside : (n when : ℕ) (old new : Outside) (report : DrillReport) (s t : Streams) → DrillDone n when old new report → DrillDone n when (beside old s) (beside new t) report
done_beside n when old new report s t h = record {
  left = h.left;
  restored = h.restored;
  before = restored_beside n when old h.left h.restored s h.before;
  reads = h.reads;
  forks = h.forks;
  pages = h.pages;
  sum = h.sum;
}

unclear_beside : (names : Names) (old new : Outside) (s t : Streams) (why : Unclear) → AreUnclear names old new why → AreUnclear names (beside old s) (beside new t) why
unclear_beside names old new s t unclear.NoMemory is = tt
unclear_beside names old new s t (unclear.Unread area why) is = is
unclear_beside names old new s t (unclear.Full area) is = is

refused_beside : (n when : ℕ) (old new : Outside) (s t : Streams) (fault : DrillFault) → DrillRefused n when old new fault → DrillRefused n when (beside old s) (beside new t) fault
refused_beside n when old new s t drill.NoMemory is = tt
refused_beside n when old new s t (drill.Area why) is = (is.0, unclear_beside areas_cleared old new s t why is.1)
refused_beside n when old new s t (drill.Init came) is = (is.0, looked_beside old is.0 s is.1, is.2, is.3, is.4)
refused_beside n when old new s t (drill.Run came) is = (is.0, begun_beside n old is.0 s is.1, is.2, is.3, is.4)
refused_beside n when old new s t (drill.Restore came) is = (is.0, run_beside n when old is.0 s is.1, is.2, is.3, is.4)
refused_beside n when old new s t (drill.Read why) is = (is.0, is.1, restored_beside n when old is.0 is.1 s is.2, is.3, is.4)

answer_beside : (n when : ℕ) (old new : Outside) (s t : Streams) (came : DrillResult) → DrillAnswer n when old new came → DrillAnswer n when (beside old s) (beside new t) came
answer_beside n when old new s t (Ok report) is = done_beside n when old new report s t is
answer_beside n when old new s t (Err fault) is = refused_beside n when old new s t fault is

pub drill_beside : (n : ℕ) (old new : Outside) (s t : Streams) (came : DrillResult) → DrillDoes n old new came → DrillDoes n (beside old s) (beside new t) came
drill_beside n old new s t came does =
    (does.0, does.1, does.2, answer_beside n does.0 old new s t came does.3)
