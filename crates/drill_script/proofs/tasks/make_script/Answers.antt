-- The tasks are put one behind the other.
use Rattle.std.proofs.Common.{◌≡◌, ℕ, List, [], ◌∷◌, ◌++◌, map, refl}
use Rattle.scripts.specs.declared.script.Task.{Task}
use Rattle.drill_script.specs.Drill.{copier_task, drilled, flusher_task, writer_task, writers}
use Rattle.drill_script.proofs.tasks.make_script.Goals as goal

made : (n : ℕ) (script two one before none : List Task) (flusher copier : Task) → script ≡ two → two ≡ one ++ (copier ∷ []) → one ≡ before ++ (flusher ∷ []) → before ≡ none ++ map (writer_task n) writers → none ≡ [] → flusher ≡ flusher_task → copier ≡ copier_task → script ≡ drilled n
unfolding drilled
made n script two one before none flusher copier a b c d e f g = rw (a, b, c, d, e, f, g) refl

pub returns : goal.returns
returns c = made _ _ _ _ _ _ _ _ c.from_vec.ensures c.in_ok-push-2.ensures.items c.in_ok-push.ensures.items c.in_ok-push_writers.ensures c.new-tasks.ensures.items c.in_ok-flusher_task.ensures c.in_ok-copier_task.ensures
