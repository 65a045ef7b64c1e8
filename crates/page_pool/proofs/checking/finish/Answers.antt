-- Both forks of a relation are taken away in turn.
use Rattle.std.proofs.Common.{List, ap, sym, ◌∙◌}
use Rattle.lsn_core.specs.declared.ids.ForkId.{ForkId}
use Rattle.lsn_core.specs.Store.{Store}
use Rattle.lsn_core.specs.Blocks.{without_fork}
use Rattle.history.specs.Apply.{main_fork}
use Rattle.page_frames.specs.Marks.{DirtyMarks}
use Rattle.page_frames.specs.Overlay.{pages_over, marks_over}
use Rattle.page_pool.specs.declared.ready.Done.{Done}
use Rattle.page_pool.specs.declared.work.Pending.{Pending}
use Rattle.page_pool.specs.Steps.{marks_without, with_removal}
use Rattle.page_pool.specs.Inside.{marks_done, works_done}
use Rattle.page_pool.proofs.checking.finish.Goals as goal

pub returns-in-Dropped-clause-marks : goal.returns-in-Dropped-clause-marks
returns-in-Dropped-clause-marks c = λ behind.
    let store = pages_over behind c.args.frames.now in
    let rel = c.in-Dropped.rel in
    c.drop_fork-in-Dropped.ensures.marks behind
    ∙ ap (λ (s : Store). marks_without s (marks_over c.drop_fork.new.frames) c.init_fork.result) (c.drop_fork.ensures.pages behind)
    ∙ ap (λ (m : DirtyMarks). marks_without (without_fork store c.main_fork.result) m c.init_fork.result) (c.drop_fork.ensures.marks behind)
    ∙ ap (λ (f : ForkId). marks_without (without_fork store f) (marks_without store (marks_over c.args.frames.now) f) c.init_fork.result) c.main_fork.ensures
    ∙ ap (λ (f : ForkId). marks_without (without_fork store (main_fork rel)) (marks_without store (marks_over c.args.frames.now) (main_fork rel)) f) c.init_fork.ensures
    ∙ sym (ap (λ (d : Done). marks_done c.args.end.0 store (marks_over c.args.frames.now) d) c.in-Dropped.is)

pub returns-in-Dropped-clause-works : goal.returns-in-Dropped-clause-works
returns-in-Dropped-clause-works c = λ behind.
    let store = pages_over behind c.args.frames.now in
    let rel = c.in-Dropped.rel in
    let end = c.args.end.0 in
    c.drop_fork-in-Dropped.ensures.works behind
    ∙ ap (λ (s : Store). with_removal end s c.drop_fork.new.works.items c.init_fork.result) (c.drop_fork.ensures.pages behind)
    ∙ ap (λ (ws : List Pending). with_removal end (without_fork store c.main_fork.result) ws c.init_fork.result) (c.drop_fork.ensures.works behind)
    ∙ ap (λ (f : ForkId). with_removal end (without_fork store f) (with_removal end store c.args.works.now.items f) c.init_fork.result) c.main_fork.ensures
    ∙ ap (λ (f : ForkId). with_removal end (without_fork store (main_fork rel)) (with_removal end store c.args.works.now.items (main_fork rel)) f) c.init_fork.ensures
    ∙ sym (ap (λ (d : Done). works_done end store c.args.works.now.items d) c.in-Dropped.is)
