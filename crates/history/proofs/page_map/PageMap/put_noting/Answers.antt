use Rattle.std.proofs.Common.{List, ap, ◌∙◌}
use Rattle.history.specs.declared.undo.Step.{Step}
use Rattle.history.specs.Undo.{undone_step, undone_steps}
use Rattle.history.proofs.UndoLaws.{steps-push}
use Rattle.history.proofs.page_map.PageMap.put_noting.Goals as goal

pub returns-clause-back : goal.returns-clause-back
returns-clause-back c =
    ap (λ (us : List Step). undone_steps us c.put.new.self) c.in_ok-push.ensures.items ∙ steps-push c.args.done.now.items c.step_of-step.result c.put.new.self
    ∙ ap (undone_steps c.args.done.now.items) (ap (undone_step c.step_of-step.result) c.in_default.ensures.put ∙ c.step_of-step.ensures c.args.page.now)
