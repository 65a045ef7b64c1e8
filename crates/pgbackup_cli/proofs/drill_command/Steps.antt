-- The steps of a drill, one behind the other.
use Rattle.std.proofs.Common.{◌≡◌, ℕ, List, [], ◌∷◌, Option, Ok, Err, subst}
use Rattle.lsn_core.specs.declared.fault.AreaFault.{AreaFault}
use Rattle.lsn_core.specs.declared.fault.AreaFault.TheVariants as area
use Rattle.lsn_core.specs.declared.fault.StoreFault.{StoreFault}
use Rattle.lsn_core.specs.declared.fault.StoreFault.TheVariants as store
use Rattle.recovery.specs.declared.fault.RecoveryFault.{RecoveryFault}
use Rattle.recovery.specs.declared.fault.RecoveryFault.TheVariants as wal
use Rattle.vault.specs.Lending.{Names}
use Rattle.store_faults.specs.declared.begin_why.BeginWhy.{BeginWhy}
use Rattle.store_faults.specs.declared.begin_why.BeginWhy.TheVariants as begin
use Rattle.command_base.specs.Areas.{wal_name}
use Rattle.command_base.specs.Faults.{area_status, store_status, wal_status}
use Rattle.command_base.specs.Outside.{Outside, Works, with_moment}
use Rattle.command_base.specs.declared.status.Status.TheVariants as status
use Rattle.run_answers.specs.Begin.{begin_status}
use Rattle.run_answers.specs.Telling.{RunResult, run_status}
use Rattle.run_answers.specs.declared.outcome.RunFault.{RunFault}
use Rattle.run_answers.specs.declared.outcome.RunFault.TheVariants as run
use Rattle.run_answers.specs.declared.outcome.RunReport.{RunReport}
use Rattle.run_command.specs.Run.{others_asked, run_asks, store_asks, RunOfScript}
use Rattle.store_commands.specs.Init.{init_writes}
use Rattle.store_commands.specs.declared.replaying.ReplayReport.{ReplayReport}
use Rattle.scripts.specs.declared.script.Task.{Task}
use Rattle.drill_script.specs.Drill.{drilled}
use Rattle.pgbackup_cli.specs.declared.drill_command.clearing.Unclear.{Unclear}
use Rattle.pgbackup_cli.specs.declared.drill_command.clearing.Unclear.TheVariants as unclear
use Rattle.pgbackup_cli.specs.declared.drill_command.report.DrillFault.{DrillFault}
use Rattle.pgbackup_cli.specs.declared.drill_command.report.DrillFault.TheVariants as drill
use Rattle.pgbackup_cli.specs.drill_command.Clearing.{AreUnclear}
use Rattle.pgbackup_cli.specs.drill_command.Drill.{areas_cleared, drill_out, drill_writes, HasLooked, HasBegun, HasRun, HasRestored, DrillRefused}
use Rattle.pgbackup_cli.proofs.drill_command.Areas.{works_first, works_back, works_front}

-- ---- what the parts write

pub init_wrote : (n : ℕ) (a b : Outside) → Works init_writes a b → Works (drill_writes n) a b
init_wrote n a b works =
    works_front (run_asks (drilled n)) (drill_out ∷ []) a b
    (works_back (others_asked (drilled n)) store_asks a b (works_first wal_name _ a b works))

pub run_wrote : (n : ℕ) (a b : Outside) → Works (run_asks (drilled n)) a b → Works (drill_writes n) a b
run_wrote n a b works = works_front (run_asks (drilled n)) (drill_out ∷ []) a b works

pub restore_wrote : (n : ℕ) (a b : Outside) → Works (drill_out ∷ []) a b → Works (drill_writes n) a b
restore_wrote n a b works = works_back (run_asks (drilled n)) (drill_out ∷ []) a b works

-- ---- a run that ended well was done

area_fails : (why : AreaFault) → area_status why ≡ status.Done → ⊥
area_fails area.Failed e = cc
area_fails area.NoMemory e = cc

store_fails : (why : StoreFault) → store_status why ≡ status.Done → ⊥
store_fails (store.Failed which) e = cc
store_fails store.NoMemory e = cc

wal_fails : (why : RecoveryFault) → wal_status why ≡ status.Done → ⊥
wal_fails (wal.Damaged mib damage) e = cc
wal_fails (wal.Short end target) e = cc
wal_fails (wal.BadDelta place) e = cc
wal_fails wal.SettingsDamaged e = cc
wal_fails (wal.Timeline name) e = cc
wal_fails wal.NotInit e = cc
wal_fails wal.Failed e = cc
wal_fails wal.NoMemory e = cc

begin_fails : (why : BeginWhy) → begin_status why ≡ status.Done → ⊥
begin_fails (begin.Wal why) e = wal_fails why e
begin_fails (begin.Replay why) e = wal_fails why e
begin_fails (begin.Data why) e = store_fails why e

run_fails : (why : RunFault) → run_status (Err why) ≡ status.Done → ⊥
run_fails (run.Input why) e = area_fails why e
run_fails (run.Script line why) e = cc
run_fails run.NoMemory e = cc
run_fails (run.Site fault) e = area_fails fault.why e
run_fails (run.Begin why) e = begin_fails why e

pub record HasEnded (n when : ℕ) (old new : Outside) : Type 0 where
  pub run : RunReport
  pub done : RunOfScript when 0 (drilled n) old new (Ok run)
  pub ended : run_status (Ok run) ≡ status.Done

pub has_ended : (n when : ℕ) (old new : Outside) (came : RunResult) → RunOfScript when 0 (drilled n) old new came → run_status came ≡ status.Done → HasEnded n when old new
has_ended n when old new (Ok report) does ended = record { run = report; done = does; ended = ended }
has_ended n when old new (Err why) does ended = absurd (run_fails why ended)

pub of_drilled : (n when : ℕ) (script : List Task) (old new : Outside) (came : RunResult) → script ≡ drilled n → RunOfScript when 0 script old new came → RunOfScript when 0 (drilled n) old new came
of_drilled n when script old new came is does = subst (λ (s : List Task). RunOfScript when 0 s old new came) is does

pub asks_drilled : (n : ℕ) (script : List Task) (old new : Outside) → script ≡ drilled n → Works (run_asks script) old new → Works (run_asks (drilled n)) old new
asks_drilled n script old new is works = subst (λ (s : List Task). Works (run_asks s) old new) is works

-- ---- a clock beside the site

looked_at : (old looked : Outside) (m : Option ℕ) → HasLooked old looked → HasLooked (with_moment old m) looked
looked_at old looked m h = record { clear = h.clear; reads = h.reads }

begun_at : (n : ℕ) (old begun : Outside) (m : Option ℕ) → HasBegun n old begun → HasBegun n (with_moment old m) begun
begun_at n old begun m h = record { looked = h.looked; before = looked_at old h.looked m h.before; wrote = h.wrote; end = h.end; made = h.made }

run_at : (n when : ℕ) (old ran : Outside) (m : Option ℕ) → HasRun n when old ran → HasRun n when (with_moment old m) ran
run_at n when old ran m h = record { begun = h.begun; before = begun_at n old h.begun m h.before; wrote = h.wrote; run = h.run; done = h.done; ended = h.ended }

pub restored_at : (n when : ℕ) (old left : Outside) (restored : ReplayReport) (m : Option ℕ) → HasRestored n when old left restored → HasRestored n when (with_moment old m) left restored
restored_at n when old left restored m h = record { ran = h.ran; before = run_at n when old h.ran m h.before; wrote = h.wrote; made = h.made }

unclear_at : (names : Names) (old new : Outside) (a b : Option ℕ) (why : Unclear) → AreUnclear names old new why → AreUnclear names (with_moment old a) (with_moment new b) why
unclear_at names old new a b unclear.NoMemory is = tt
unclear_at names old new a b (unclear.Unread area why) is = is
unclear_at names old new a b (unclear.Full area) is = is

pub refused_at : (n when : ℕ) (old new : Outside) (a b : Option ℕ) (fault : DrillFault) → DrillRefused n when old new fault → DrillRefused n when (with_moment old a) (with_moment new b) fault
refused_at n when old new a b drill.NoMemory is = tt
refused_at n when old new a b (drill.Area why) is = (is.0, unclear_at areas_cleared old new a b why is.1)
refused_at n when old new a b (drill.Init came) is = (is.0, looked_at old is.0 a is.1, is.2, is.3, is.4)
refused_at n when old new a b (drill.Run came) is = (is.0, begun_at n old is.0 a is.1, is.2, is.3, is.4)
refused_at n when old new a b (drill.Restore came) is = (is.0, run_at n when old is.0 a is.1, is.2, is.3, is.4)
refused_at n when old new a b (drill.Read why) is = (is.0, is.1, restored_at n when old is.0 is.1 a is.2, is.3, is.4)
