-- What the script of a drill asks for, and the lines that its copier was told.
use Rattle.std.proofs.Common.{◌≡◌, ◌≢◌, ℕ, suc, zero, ◌+◌, ◌*◌, List, [], ◌∷◌, ◌++◌, Some, true, false, bytes_eq, refl, sym, ap, subst, ◌∙◌, inl, inr}
use Rattle.std.specs.Prelude.{slice_get}
use Rattle.std.specs.List.{AllByRecursion}
use Rattle.vault.specs.Lending.{Names, IsOneOf, IsNoneOf}
use Rattle.scripts.specs.declared.script.Task.{Task}
use Rattle.command_base.specs.Areas.{sums_name, backup_name}
use Rattle.run_answers.specs.declared.told.Told.{Told}
use Rattle.crew.specs.Backups.{area_asked, areas_asked}
use Rattle.run_command.specs.Run.{backups_asked, run_asks, store_asks, tasks_told}
use Rattle.chain_commands.specs.Chain.{backup_names}
use Rattle.drill_script.specs.declared.writer.Step.{Step}
use Rattle.drill_script.specs.declared.writer.Step.TheVariants.{Cut, Put, Patch}
use Rattle.drill_script.specs.declared.writer.Writer.{Writer}
use Rattle.drill_script.specs.Writer.{writer_at, next}
use Rattle.drill_script.specs.Drill.{command_of, lines_from, first_line, writer_task, writer_lines, flusher_task, copier_lines, copier_task, drilled, drill_0, drill_1, drill_2}
use Rattle.pgbackup_cli.specs.drill_command.Drill.{drill_members, drill_out}
use Rattle.backup_laws.proofs.DrillLines.{takes, EachOnce}

pub differ : (a b : List ℕ) → bytes_eq a a ≡ true → bytes_eq a b ≡ false → a ≢ b
differ a b same not_same e = let both : bytes_eq a a ≡ bytes_eq a b = ap (bytes_eq a) e in cc

-- ---- a writer takes no backup, and asks for no area of one

step_takes_none : (w : ℕ) (step : Step) → takes (command_of w step) ≡ false
step_takes_none w (Cut len) = refl
step_takes_none w (Put block fill) = refl
step_takes_none w (Patch block place fill) = refl

lines_once : (w k number : ℕ) (writer : Writer) → EachOnce (lines_from w k number writer)
unfolding lines_from
lines_once w zero number writer = tt
lines_once w (suc k) number writer = (inl (step_takes_none w (next writer).0), lines_once w k (number + 1) (next writer).1)

writer_once : (n w : ℕ) → EachOnce (writer_lines n w)
writer_once n w = (inl refl, (inl refl, lines_once w 500 (first_line w + 2) (writer_at (4 * n + w) 20)))

step_asks_none : (w : ℕ) (step : Step) → area_asked (command_of w step) ≡ []
step_asks_none w (Cut len) = refl
step_asks_none w (Put block fill) = refl
step_asks_none w (Patch block place fill) = refl

lines_ask_none : (w k number : ℕ) (writer : Writer) → areas_asked (lines_from w k number writer) ≡ []
unfolding lines_from
lines_ask_none w zero number writer = refl
lines_ask_none w (suc k) number writer =
    ap (λ (ns : Names). ns ++ areas_asked (lines_from w k (number + 1) (next writer).1)) (step_asks_none w (next writer).0)
    ∙ lines_ask_none w k (number + 1) (next writer).1

writer_asks_none : (n w : ℕ) → areas_asked (writer_lines n w) ≡ []
writer_asks_none n w = lines_ask_none w 500 (first_line w + 2) (writer_at (4 * n + w) 20)

-- ---- the copier takes three, each once

copier_once : EachOnce copier_lines
copier_once = (
  inr (differ [] drill_0 refl refl, (differ drill_1 drill_0 refl refl, (differ [] drill_0 refl refl, (differ drill_2 drill_0 refl refl, tt)))),
  (inl refl, (inr (differ [] drill_1 refl refl, (differ drill_2 drill_1 refl refl, tt)), (inl refl, (inr tt, tt)))),
)

pub all_once : (n : ℕ) → AllByRecursion (λ (t : Task). EachOnce t.lines) (drilled n)
unfolding drilled
all_once n = (writer_once n 0, (writer_once n 1, (writer_once n 2, (writer_once n 3, ((inl refl, tt), (copier_once, tt))))))

-- ---- the areas that are asked for

abbrev pub drill_asked : Names
drill_asked =
    backup_name drill_0 ∷ backup_name drill_1 ∷ backup_name drill_0 ∷ backup_name drill_2 ∷ backup_name drill_1 ∷ []

asks_behind : (task : Task) (tasks : List Task) → areas_asked task.lines ≡ [] → backups_asked (task ∷ tasks) ≡ backups_asked tasks
asks_behind task tasks none = ap (λ (ns : Names). ns ++ backups_asked tasks) none

abbrev last_ones : List Task
last_ones = flusher_task ∷ copier_task ∷ []

pub asked_is : (n : ℕ) → backups_asked (drilled n) ≡ drill_asked
unfolding drilled
asked_is n =
    asks_behind (writer_task n 0) (writer_task n 1 ∷ writer_task n 2 ∷ writer_task n 3 ∷ last_ones) (writer_asks_none n 0)
    ∙ (asks_behind (writer_task n 1) (writer_task n 2 ∷ writer_task n 3 ∷ last_ones) (writer_asks_none n 1)
    ∙ (asks_behind (writer_task n 2) (writer_task n 3 ∷ last_ones) (writer_asks_none n 2)
    ∙ asks_behind (writer_task n 3) last_ones (writer_asks_none n 3)))

member_of : (m : List ℕ) → IsOneOf m drill_asked → IsOneOf m (backup_names drill_members)
member_of m (inl is) = inl is
member_of m (inr (inl is)) = inr (inl is)
member_of m (inr (inr (inl is))) = inl is
member_of m (inr (inr (inr (inl is)))) = inr (inr (inl is))
member_of m (inr (inr (inr (inr (inl is))))) = inr (inl is)
member_of m (inr (inr (inr (inr (inr none))))) = absurd none

-- those of backups are those of its members
pub asked_members : (n : ℕ) (m : List ℕ) → IsOneOf m (backups_asked (drilled n)) → IsOneOf m (backup_names drill_members)
asked_members n m one = member_of m (subst (IsOneOf m) (asked_is n) one)

pub asks_for : (n : ℕ) (m : List ℕ) → IsOneOf m drill_asked → IsOneOf m (backups_asked (drilled n))
asks_for n m one = subst (IsOneOf m) (sym (asked_is n)) one

-- which aren't the output's
pub not_out : (m : List ℕ) → IsOneOf m (backup_names drill_members) → m ≢ drill_out
not_out m (inl is) = λ out. differ (backup_name drill_0) drill_out refl refl (sym is ∙ out)
not_out m (inr (inl is)) = λ out. differ (backup_name drill_1) drill_out refl refl (sym is ∙ out)
not_out m (inr (inr (inl is))) = λ out. differ (backup_name drill_2) drill_out refl refl (sym is ∙ out)
not_out m (inr (inr (inr none))) = absurd none

out_other : (m : List ℕ) → bytes_eq drill_out m ≡ false → drill_out ≢ m
out_other m other = differ drill_out m refl other

-- nor does the script ask for that
pub out_unasked : (n : ℕ) → IsNoneOf drill_out (run_asks (drilled n))
out_unasked n =
    subst (λ (ns : Names). IsNoneOf drill_out ((ns ++ (sums_name ∷ [])) ++ store_asks)) (sym (asked_is n)) (
      out_other _ refl,
      (
        out_other _ refl,
        (
          out_other _ refl,
          (
            out_other _ refl,
            (out_other _ refl, (out_other _ refl, (out_other _ refl, (out_other _ refl, (out_other _ refl, (out_other _ refl, (out_other _ refl, tt))))))),
          ),
        ),
      ),
    )

-- ---- what workers were told

pub told_all : (P : Task → Type 0) (told : List Told) (worker : ℕ) (by : Told) → AllByRecursion P (tasks_told told) → slice_get told worker ≡ Some by → P by.task
told_all P [] worker by all there = absurd cc
told_all P (t ∷ told) zero by all there =
    let same : t ≡ by = cc in
    subst (λ (u : Told). P u.task) same all.0
told_all P (t ∷ told) (suc worker) by all there = told_all P told worker by all.1 there

told_at : (told : List Told) (worker : ℕ) (task : Task) → slice_get (tasks_told told) worker ≡ Some task → (by : Told) × (slice_get told worker ≡ Some by) × (by.task ≡ task)
told_at [] worker task there = absurd cc
told_at (t ∷ told) zero task there = (t, refl, cc)
told_at (t ∷ told) (suc worker) task there = told_at told worker task there

copier_there : (n : ℕ) → slice_get (drilled n) 5 ≡ Some copier_task
unfolding drilled
copier_there n = refl

-- the sixth of them is the copier
pub copier_told : (n : ℕ) (told : List Told) → tasks_told told ≡ drilled n → (by : Told) × (slice_get told 5 ≡ Some by) × (by.task ≡ copier_task)
copier_told n told are = told_at told 5 copier_task (subst (λ (ts : List Task). slice_get ts 5 ≡ Some copier_task) (sym are) (copier_there n))
