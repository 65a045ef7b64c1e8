-- What running the lines of a crew's workers side by side leaves of each.
use Rattle.std.specs.Prelude.{◌≡◌, ℕ, ◌<◌, ◌≤◌, List, [], length, slice_index_or}
use Rattle.std.specs.Vec.{vec_len, vec_capacity}
use Rattle.vault.specs.declared.area.Vault.{Ghosts}
use Rattle.vault.specs.Lending.{AreLater}
use Rattle.crew.specs.declared.crewing.Worker.{Worker}
use Rattle.crew.specs.Backups.{AreHeld, areas_asked, areas_of}
use Rattle.scripts.specs.Named.{HaveOtherPriors}
use Rattle.crew.specs.Run.{Basis, RunsLines}

-- a worker holds the areas that its lines ask for, none of its backups is its own prior one, and
-- there is room for an answer to each line
pub record IsReady {J V : Type 0} (worker : Worker J V) : Type 0 where
  pub held : AreHeld (areas_asked worker.task.lines) worker.areas.items
  pub priors : HaveOtherPriors worker.task.lines
  pub none : worker.answers.items ≡ []
  pub empty : vec_len worker.answers ≡ 0
  pub room : length worker.task.lines ≤ vec_capacity worker.answers

-- a worker ran its lines: its task is as it was, and of its areas no count of faults is smaller
pub record HasRun {J V : Type 0} (g : Ghosts V) (tells : Type 0) (b : Basis)
    (old new : Worker J V) : Type 0 where
  pub task : new.task ≡ old.task
  pub run : RunsLines tells b old.task.lines old.pass new.pass (areas_of g old.areas.items)
      (areas_of g new.areas.items) new.answers.items
  pub later : AreLater g old.areas.items new.areas.items

-- each worker of a crew did, at its place
abbrev pub AllRan : {J V : Type 0} → Ghosts V → Type 0 → Basis → List (Worker J V)
    → List (Worker J V) → Type 0
AllRan {J} {V} g tells b old new =
    (length new ≡ length old)
    × ((i : ℕ) (d : Worker J V) → i < length old
    → HasRun g tells b (slice_index_or old i d) (slice_index_or new i d))
