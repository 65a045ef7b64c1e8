use Rattle.std.proofs.Common.{List, sym, ap, ◌∙◌}
use Rattle.history.specs.declared.undo.Step.{Step}
use Rattle.history.specs.Undo.{undone_steps}
use Rattle.history.proofs.UndoLaws.{steps-push}
use Rattle.history.proofs.page_map.PageMap.undo_steps.Goals as goal

pub loop-last-preserved : goal.loop-last-preserved
loop-last-preserved c =
    ap (undone_steps c.pop.new.self.items) c.undo_step.ensures ∙ sym (steps-push c.pop.new.self.items c.in-Some.last c.loop-last.self)
    ∙ sym (ap (λ (us : List Step). undone_steps us c.loop-last.self) c.in-Some.ensures.items) ∙ c.loop-last.invariant
