-- Runs that closed their store are in turn, though others were stopped between them.
use Rattle.std.proofs.Common.{◌≡◌, List, [], ◌∷◌, map, Option, Some, None, IsSome, IfSome, Ok, refl, sym, subst, inl}
use Rattle.std.specs.FinMap.{empty}
use Rattle.lsn_core.specs.Files.{Files}
use Rattle.lsn_core.specs.declared.lsn.Lsn.{Lsn}
use Rattle.vault.specs.Area.{Related}
use Rattle.wal_record.specs.declared.record.Record.{Record}
use Rattle.history.specs.Whole.{entry_of}
use Rattle.history.specs.fuzzy_copies.Covers.{AreTidy}
use Rattle.summary_store.specs.Honest.{IsHonest}
use Rattle.command_base.specs.Areas.{wal_name, sums_name}
use Rattle.command_base.specs.Outside.{Outside}
use Rattle.command_line.specs.declared.options.InitOptions.{InitOptions}
use Rattle.store_commands.specs.Init.{InitDoes}
use Rattle.backup_laws.specs.Restores.{PastRun, GoesOnFrom}
use Rattle.backup_laws.specs.ChainRestores.{FoundOwn, RanOn, RanInTurn, EndedWell, AreAsLeft, CompletedChainsAreReplays}
use Rattle.backup_laws.specs.Stops.{PastStop, WasStopped, CameOnOwn, Turn, Closed, Stopped, runs_closed, BefellSince, RunsOverStopsAreInTurn, CompletedChainsAreReplaysOverStops}
use Rattle.backup_laws.proofs.Telling.{runs_tell}
use Rattle.backup_laws.proofs.WalsLeft.{stayed}
use Rattle.backup_laws.proofs.OwnLeft.{IsOwnStore, finds_just, finds_own, leaves_own, new_store}
use Rattle.backup_laws.proofs.StopsLeft.{stop_goes_on, stop_own}

-- ---- a WAL that goes on, and further

goes_far : (a b c : Option Files) → Related GoesOnFrom a b → Related GoesOnFrom b c → Related GoesOnFrom a c
goes_far None None None on far = tt
goes_far None None (Some c) on far = far
goes_far None (Some b) c on far = absurd on
goes_far (Some a) None c on far = absurd on
goes_far (Some a) (Some b) None on far = absurd far
goes_far (Some a) (Some b) (Some c) on far = λ s is.
    let last = far s is in
    let more = on s last.0 in
    (more.0, λ records tip read. last.1 records tip (more.1 records tip read))

-- ---- what a stopped run found

-- what it found there is this program's own
came_own : (stop : PastStop) (was : WasStopped stop) → IsOwnStore (stop.before.areas wal_name).files (stop.before.areas sums_name).files → CameOnOwn stop was
came_own stop was own =
    let wal : Option Files = (stop.before.areas wal_name).files in
    let sums : Option Files = (stop.before.areas sums_name).files in
    let is : was.come.found ≡ own.records = (finds_just own.settings was.come.settings own.records was.come.found wal wal own.log refl was.come.given was.come.archive).1 in
    record {
      tidy = subst (λ (rs : List Record). AreTidy empty (map entry_of rs)) (sym is) own.tidy;
      honest = subst (λ (rs : List Record). IfSome sums (IsHonest (map entry_of rs))) (sym is) own.honest;
    }

own_where : (wal sums here there : Option Files) → here ≡ wal → there ≡ sums → IsOwnStore wal sums → IsOwnStore here there
own_where wal sums here there same kept own =
    subst (λ (o : Option Files). IsOwnStore o there) (sym same) (subst (λ (o : Option Files). IsOwnStore wal o) (sym kept) own)

-- ---- runs in turn

-- runs are in turn, and what is there now goes on from what the latest of them left
abbrev Standing : List PastRun → Outside → Type 0
Standing [] now = Unit {0}
Standing (latest ∷ earlier) now = RanInTurn latest earlier × Related GoesOnFrom (latest.left.areas wal_name).files (now.areas wal_name).files

-- one more behind them
turn_on : (run : PastRun) (runs : List PastRun) → RanOn run → Standing runs run.before → RanInTurn run runs
turn_on run [] on stands = on
turn_on run (prior ∷ earlier) on stands = (on, stands.1, stands.0)

-- and what goes on later
stands_far : (runs : List PastRun) (then now : Outside) → Standing runs then → Related GoesOnFrom (then.areas wal_name).files (now.areas wal_name).files → Standing runs now
stands_far [] then now stands on = tt
stands_far (latest ∷ earlier) then now stands on =
    (stands.0, goes_far (latest.left.areas wal_name).files (then.areas wal_name).files (now.areas wal_name).files stands.1 on)

-- ---- all that befell a store

module _ (options : InitOptions) (clear made : Outside) (begin : Lsn) (did : InitDoes options clear made (Ok begin)) where
  abbrev Own : Outside → Type 0
  Own now = IsSome (now.areas wal_name).files → IsOwnStore (now.areas wal_name).files (now.areas sums_name).files

  own_as : (left now : Outside) → AreAsLeft left now → Own left → Own now
  own_as left now still own some =
      own_where (left.areas wal_name).files (left.areas sums_name).files (now.areas wal_name).files (now.areas sums_name).files still.wal still.sums
      (own (subst (λ (o : Option Files). IsSome o) still.wal some))

  -- what a run finds over it
  found_own : (run : PastRun) (well : EndedWell run) → Own run.before → FoundOwn run well.ran
  found_own run well own =
      finds_own (run.before.areas wal_name).files (run.before.areas sums_name).files run well.ran (own (well.ran.told wal_name (inl refl))) refl refl

  own_at : (turns : List Turn) (now : Outside) → BefellSince made turns now → Own now
  own_at [] now at = own_as made now at (λ some. new_store options clear made begin did some)
  own_at (Closed run ∷ turns) now at = own_as run.left now at.1 (λ some. leaves_own run at.0.ran (found_own run at.0 (own_at turns run.before at.2)))
  own_at (Stopped stop ∷ turns) now at =
      own_as stop.left now at.1 (λ some. stop_own stop at.0 (came_own stop at.0 (own_at turns stop.before at.2 (at.0.come.told wal_name (inl refl)))))

  ran_on : (run : PastRun) (turns : List Turn) → EndedWell run → BefellSince made turns run.before → RanOn run
  ran_on run turns well at = record {
    ran = well.ran;
    tells = runs_tell well.ran.when run.before.areas run.left.areas run.report well.ran.done well.ran.told well.tells;
    finds = found_own run well (own_at turns run.before at);
  }

  in_turn : (turns : List Turn) (now : Outside) → BefellSince made turns now → Standing (runs_closed turns) now
  in_turn [] now at = tt
  in_turn (Closed run ∷ turns) now at = (
    turn_on run (runs_closed turns) (ran_on run turns at.0 at.2) (in_turn turns run.before at.2),
    stayed (run.left.areas wal_name).files (now.areas wal_name).files at.1.wal,
  )
  in_turn (Stopped stop ∷ turns) now at =
      stands_far (runs_closed turns) stop.before now (in_turn turns stop.before at.2)
      (goes_far (stop.before.areas wal_name).files (stop.left.areas wal_name).files (now.areas wal_name).files (stop_goes_on stop at.0) (stayed (stop.left.areas wal_name).files (now.areas wal_name).files at.1.wal))

-- ---- the laws

pub over_stops : RunsOverStopsAreInTurn
over_stops options clear made now begin turns latest earlier did at is =
    subst (λ (runs : List PastRun). Standing runs now) is (in_turn options clear made begin did turns now at)

pub chains_over_stops : CompletedChainsAreReplays → CompletedChainsAreReplaysOverStops
chains_over_stops known options clear made now begin turns latest earlier makings names chain last old new end out upto report did at is on whole told completed restored =
    let turn = over_stops options clear made now begin turns latest earlier did at is in
    known latest earlier makings names chain last old new end out upto report turn.0
    (goes_far (latest.left.areas wal_name).files (now.areas wal_name).files (last.areas wal_name).files turn.1 on) whole told completed restored
