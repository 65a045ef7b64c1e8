-- A fork that isn't there is taken away by doing nothing.
use Rattle.std.proofs.Common.{ℕ, cond, ◌∷◌, ◌++◌, [], ap, sym, ◌∙◌, is_some, Option}
use Rattle.std.specs.FinMap.{remove}
use Rattle.history.proofs.Counts.{none_removed}
use Rattle.page_frames.specs.Overlay.{pages_over, marks_over}
use Rattle.page_frames.proofs.Overlays.{count_over}
use Rattle.page_pool.specs.declared.work.Work.TheVariants.{Remove}
use Rattle.page_pool.specs.declared.work.Pending.{Pending}
use Rattle.command_judging.proofs.Counted.{no_count}
use Rattle.page_pool.proofs.Doing.{there_over}
use Rattle.page_pool.proofs.checking.drop_fork.Goals as goal

pub returns-then-is_some-clause-marks : goal.returns-then-is_some-clause-marks
returns-then-is_some-clause-marks c = λ behind.
    c.remove.ensures.marks
    ∙ sym (ap (λ t. cond t (remove (marks_over c.args.frames.now) c.args.fork.now) (marks_over c.args.frames.now)) (there_over behind c.args.frames.now c.args.fork.now ∙ sym (c.is_some.ensures ∙ ap (λ (o : Option ℕ). is_some o) c.blocks-2.ensures.length) ∙ c.if-is_some.true))

pub returns-then-is_some-clause-works : goal.returns-then-is_some-clause-works
returns-then-is_some-clause-works c = λ behind.
    let w : Pending = record { work = Remove c.args.fork.now; end = c.args.end } in
    c.enter.ensures.items
    ∙ sym (ap (λ t. cond t (c.args.works.now.items ++ (w ∷ [])) c.args.works.now.items) (there_over behind c.args.frames.now c.args.fork.now ∙ sym (c.is_some.ensures ∙ ap (λ (o : Option ℕ). is_some o) c.blocks-2.ensures.length) ∙ c.if-is_some.true))

pub returns-else-is_some-clause-pages : goal.returns-else-is_some-clause-pages
returns-else-is_some-clause-pages c = λ behind.
    sym (none_removed (pages_over behind c.args.frames.now) c.args.fork.now
    (no_count (pages_over behind c.args.frames.now) c.args.fork.now (ap (λ (o : Option ℕ). is_some o) (count_over behind c.args.frames.now c.args.fork.now) ∙ sym (c.is_some.ensures ∙ ap (λ (o : Option ℕ). is_some o) c.blocks-2.ensures.length) ∙ c.if-is_some.false)))

pub returns-else-is_some-clause-marks : goal.returns-else-is_some-clause-marks
returns-else-is_some-clause-marks c = λ behind.
    sym (ap (λ t. cond t (remove (marks_over c.args.frames.now) c.args.fork.now) (marks_over c.args.frames.now)) (there_over behind c.args.frames.now c.args.fork.now ∙ sym (c.is_some.ensures ∙ ap (λ (o : Option ℕ). is_some o) c.blocks-2.ensures.length) ∙ c.if-is_some.false))

pub returns-else-is_some-clause-works : goal.returns-else-is_some-clause-works
returns-else-is_some-clause-works c = λ behind.
    let w : Pending = record { work = Remove c.args.fork.now; end = c.args.end } in
    sym (ap (λ t. cond t (c.args.works.now.items ++ (w ∷ [])) c.args.works.now.items) (there_over behind c.args.frames.now c.args.fork.now ∙ sym (c.is_some.ensures ∙ ap (λ (o : Option ℕ). is_some o) c.blocks-2.ensures.length) ∙ c.if-is_some.false))
