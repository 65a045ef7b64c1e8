-- A seat for each task.
use Rattle.std.proofs.Common.{◌≡◌, ◌∷◌, ◌++◌, [], List, length, ap, sym, subst, ◌∙◌, arith}
use Rattle.std.specs.Vec.Iter.{into_iter_items}
use Rattle.scripts.specs.declared.script.Task.{Task}
use Rattle.run_command.specs.declared.seats.Seat.{Seat}
use Rattle.run_command.specs.Inner.{AreNamesFor, AreReady, tasks_of}
use Rattle.run_command.specs.Run.{NamePriors}
use Rattle.run_command.proofs.Seated.{names_more, pushed, ready_more, tasks_more}
use Rattle.run_command.proofs.seats.work_of.Goals as goal

pub loop-task-preserved : goal.loop-task-preserved
loop-task-preserved g c =
    let steps : into_iter_items c.loop-task.task-iterator ≡ c.in-Some.task ∷ into_iter_items c.next.new.self = c.in-Some.ensures.steps.0 in
    let gone = c.in-Some.ensures.steps.1 in
    let seat = c.in_ok-seat_of.field-0 in
    let more : c.push.new.self.items ≡ c.loop-task.seats.items ++ (seat ∷ []) = c.in_ok-push.ensures.items in
    let tasks : tasks_of c.push.new.self.items ≡ tasks_of c.loop-task.seats.items ++ (c.in-Some.task ∷ []) =
    ap tasks_of more ∙ (tasks_more c.loop-task.seats.items seat ∙ ap (λ (t : Task). tasks_of c.loop-task.seats.items ++ (t ∷ [])) c.in_ok-seat_of.ensures.task) in
    let priors : NamePriors (c.in-Some.task ∷ into_iter_items c.next.new.self) = subst NamePriors steps c.loop-task.invariant.2 in (
      pushed (tasks_of c.loop-task.seats.items) (tasks_of c.push.new.self.items) (into_iter_items c.next.new.self) c.in-Some.task c.args.script tasks (ap (λ (ts : List Task). tasks_of c.loop-task.seats.items ++ ts) (sym steps) ∙ c.loop-task.invariant.0),
      omega (arith, c.loop-task.invariant.1, gone, ap (λ (ts : List Task). length ts) steps),
      priors.1,
      subst AreReady (sym more) (ready_more c.loop-task.seats.items seat c.loop-task.invariant.3 c.in_ok-seat_of.ensures.ready),
      subst (λ (ss : List (Seat _)). AreNamesFor ss c.seat_of.new.names.items) (sym more) (names_more c.loop-task.seats.items seat c.loop-task.names.items c.seat_of.new.names.items c.loop-task.invariant.4 c.in_ok-seat_of.ensures.names),
    )
