-- What the command is.
use Rattle.std.proofs.Common.{sym, subst}
use Rattle.std.specs.Result.{IfOk}
use Rattle.history.specs.declared.op.Op.{Op}
use Rattle.page_frames.specs.Overlay.{own_pages}
use Rattle.command_judging.specs.Judging.{IsCounted}
use Rattle.command_judging.proofs.judge.judge.Goals as goal

pub returns-in-Create-clause-counted : goal.returns-in-Create-clause-counted
returns-in-Create-clause-counted c =
    subst (λ (o : Op). IfOk c.judge_creation.result (λ x. IsCounted (own_pages c.args.frames.now) o x.added x.gone)) (sym c.in-Create.is) c.judge_creation.ensures.counted

pub returns-in-Truncate-clause-counted : goal.returns-in-Truncate-clause-counted
returns-in-Truncate-clause-counted c =
    subst (λ (o : Op). IfOk c.judge_cut.result (λ x. IsCounted (own_pages c.args.frames.now) o x.added x.gone)) (sym c.in-Truncate.is) c.judge_cut.ensures.counted

pub returns-in-Drop-clause-counted : goal.returns-in-Drop-clause-counted
returns-in-Drop-clause-counted c =
    subst (λ (o : Op). IfOk c.judge_drop.result (λ x. IsCounted (own_pages c.args.frames.now) o x.added x.gone)) (sym c.in-Drop.is) c.judge_drop.ensures.counted
