-- The script that is drawn from a number may be run.
use Rattle.std.proofs.Common.{◌≡◌, ◌≢◌, ℕ, suc, zero, ◌+◌, ◌*◌, List, [], ◌∷◌, true, false, bytes_eq, refl, ap, arith}
use Rattle.std.specs.List.{AllByRecursion, list_any}
use Rattle.scripts.specs.declared.script.Task.{Task}
use Rattle.scripts.specs.Apart.{ShareNone}
use Rattle.scripts.specs.Named.{HasOtherPrior, HaveOtherPriors, names_backup, is_named_by}
use Rattle.drill_script.specs.declared.writer.Step.{Step}
use Rattle.drill_script.specs.declared.writer.Step.TheVariants.{Cut, Put, Patch}
use Rattle.drill_script.specs.declared.writer.Writer.{Writer}
use Rattle.drill_script.specs.Writer.{writer_at, next}
use Rattle.drill_script.specs.Drill.{line_of, command_of, lines_from, first_line, writer_task, writer_lines, flusher_task, copier_lines, copier_task, drilled, drill_0, drill_1, drill_2}
use Rattle.drill_script.specs.Laws.{IsRunnable}

-- ---- a writer names no backup

step_names_none : (name : List ℕ) (w number : ℕ) (step : Step) → names_backup name (line_of number (command_of w step)) ≡ false
step_names_none name w number (Cut len) = refl
step_names_none name w number (Put block fill) = refl
step_names_none name w number (Patch block place fill) = refl

lines_name_none : (name : List ℕ) (w k number : ℕ) (writer : Writer) → list_any (names_backup name) (lines_from w k number writer) ≡ false
unfolding lines_from
lines_name_none name w zero number writer = refl
lines_name_none name w (suc k) number writer = rw (step_names_none name w number (next writer).0) (lines_name_none name w k (number + 1) (next writer).1)

writer_names_none : (n w : ℕ) (name : List ℕ) → is_named_by name (writer_task n w) ≡ false
writer_names_none n w name = lines_name_none name w 500 (first_line w + 2) (writer_at (4 * n + w) 20)

-- ---- nor is a backup of it its own prior one

step_prior : (w : ℕ) (step : Step) → HasOtherPrior (command_of w step)
step_prior w (Cut len) = tt
step_prior w (Put block fill) = tt
step_prior w (Patch block place fill) = tt

lines_priors : (w k number : ℕ) (writer : Writer) → HaveOtherPriors (lines_from w k number writer)
unfolding lines_from
lines_priors w zero number writer = tt
lines_priors w (suc k) number writer = (step_prior w (next writer).0, lines_priors w k (number + 1) (next writer).1)

writer_priors : (n w : ℕ) → HaveOtherPriors (writer_lines n w)
writer_priors n w = (tt, (tt, lines_priors w 500 (first_line w + 2) (writer_at (4 * n + w) 20)))

names_differ : (a b : List ℕ) → bytes_eq a a ≡ true → bytes_eq a b ≡ false → a ≢ b
names_differ a b same not_same e = let both : bytes_eq a a ≡ bytes_eq a b = ap (bytes_eq a) e in cc

copier_priors : HaveOtherPriors copier_lines
copier_priors = (tt, (tt, (names_differ drill_1 drill_0 refl refl, (tt, (names_differ drill_2 drill_1 refl refl, tt)))))

-- ---- so the script may be run

apart_from : (a : Task) → ((name : List ℕ) → is_named_by name a ≡ false) → (tasks : List Task) → AllByRecursion (ShareNone a) tasks
apart_from a none [] = tt
apart_from a none (b ∷ tasks) = (λ name mine yours. let no : is_named_by name a ≡ false = none name in cc, apart_from a none tasks)

abbrev last_ones : List Task
last_ones = flusher_task ∷ copier_task ∷ []

pub drilled_is_runnable : (n : ℕ) → IsRunnable (drilled n)
unfolding drilled
drilled_is_runnable n = record {
  few = omega arith;
  apart = (
    apart_from (writer_task n 0) (writer_names_none n 0) (writer_task n 1 ∷ writer_task n 2 ∷ writer_task n 3 ∷ last_ones),
    (
      apart_from (writer_task n 1) (writer_names_none n 1) (writer_task n 2 ∷ writer_task n 3 ∷ last_ones),
      (
        apart_from (writer_task n 2) (writer_names_none n 2) (writer_task n 3 ∷ last_ones),
        (
          apart_from (writer_task n 3) (writer_names_none n 3) last_ones,
          (apart_from flusher_task (λ name. refl) (copier_task ∷ []), (tt, tt)),
        ),
      ),
    ),
  );
  priors = (writer_priors n 0, (writer_priors n 1, (writer_priors n 2, (writer_priors n 3, ((tt, tt), (copier_priors, tt))))));
}
