use Rattle.std.proofs.Common.{ap, sym, ◌∙◌}
use Rattle.page_frames.specs.Marks.{touch_end}
use Rattle.page_frames.specs.Overlay.{marks_over}
use Rattle.page_frames.proofs.Overlays.{dirty_there, mark_over}
use Rattle.page_pool.specs.Part.{Part}
use Rattle.page_pool.proofs.partition.Partition.dirty_end.Goals as goal

pub returns-then-is_dirty : goal.returns-then-is_dirty
returns-then-is_dirty g c =
    let p = c.self.inside in
    let at = c.args.at.now in
    c.mark.ensures ∙ sym (mark_over p.frames at (dirty_there p.frames at (sym c.is_dirty.ensures ∙ c.if-is_dirty.true)).0) ∙ ap (λ (x : Part). touch_end (marks_over x.framed) at.fork at.block) c.self.view_is
