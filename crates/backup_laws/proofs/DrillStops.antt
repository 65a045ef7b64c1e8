-- A run with status 0 closed its store, and none of its workers was stopped.
use Rattle.std.proofs.Common.{◌≡◌, ℕ, zero, suc, List, [], ◌∷◌, Option, Some, None, Result, Ok, Err, refl, subst}
use Rattle.std.specs.Prelude.{slice_get}
use Rattle.lsn_core.specs.declared.fault.StoreFault.{StoreFault}
use Rattle.lsn_core.specs.declared.fault.StoreFault.TheVariants as store
use Rattle.lsn_core.specs.declared.lsn.Lsn.{Lsn}
use Rattle.command_base.specs.declared.status.Status.TheVariants as status
use Rattle.scripts.specs.declared.script.Line.{Line}
use Rattle.run_answers.specs.declared.answer.Stop.{Stop}
use Rattle.run_answers.specs.declared.answer.Stop.TheVariants as stop
use Rattle.run_answers.specs.declared.told.Told.{Told}
use Rattle.run_answers.specs.Report.{first_or, first_stop, first_told}
use Rattle.run_answers.specs.Telling.{ending_status, stop_status}

not_done : (why : Stop) → stop_status why ≡ status.Done → ⊥
not_done (stop.Store (store.Failed area)) e = absurd cc
not_done (stop.Store store.NoMemory) e = absurd cc
not_done stop.Backup e = absurd cc
not_done stop.Prior e = absurd cc

pub ended_well : (first : Option (Line × Stop)) (closed : Result Lsn StoreFault) → ending_status first closed ≡ status.Done → (first ≡ None) × ((end : Lsn) × (closed ≡ Ok end))
ended_well None (Ok end) e = (refl, (end, refl))
ended_well None (Err (store.Failed area)) e = absurd cc
ended_well None (Err store.NoMemory) e = absurd cc
ended_well (Some first) closed e = absurd (not_done first.1 e)

first_none : (one rest : Option (Line × Stop)) → first_or one rest ≡ None → (one ≡ None) × (rest ≡ None)
first_none None rest e = (refl, e)
first_none (Some first) rest e = absurd cc

pub none_stopped : (told : List Told) (worker : ℕ) (by : Told) → first_told told ≡ None → slice_get told worker ≡ Some by → first_stop by.task.lines by.answers ≡ None
none_stopped [] worker by none there = absurd cc
none_stopped (t ∷ told) zero by none there =
    let same : t ≡ by = cc in
    subst (λ (u : Told). first_stop u.task.lines u.answers ≡ None) same (first_none (first_stop t.task.lines t.answers) (first_told told) none).0
none_stopped (t ∷ told) (suc worker) by none there =
    none_stopped told worker by (first_none (first_stop t.task.lines t.answers) (first_told told) none).1 there
