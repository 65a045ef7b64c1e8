use Rattle.std.proofs.Common.{◌-◌, length, arith}
use Rattle.scripts.proofs.Drafts.{last_set}
use Rattle.scripts.proofs.draft.add.Goals as goal

pub returns-in_ok-push-in-Some : goal.returns-in_ok-push-in-Some
returns-in_ok-push-in-Some c =
    let h = c.in-Some.ensures.item in
    rw (c.in_ok-push-in-Some.ensures) (last_set c.args.tasks.now (length c.args.tasks.now - 1) c.in-Some.task.now c.args.line (omega (arith, h.3.0)) h.1)
