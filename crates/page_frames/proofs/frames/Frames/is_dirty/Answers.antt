use Rattle.std.proofs.Common.{ℕ, Option, is_some, sym, ap, ◌∙◌}
use Rattle.page_frames.proofs.Overlays.{touch_over}
use Rattle.page_frames.proofs.frames.Frames.is_dirty.Goals as goal

pub returns : goal.returns
returns c = c.is_some.ensures ∙ ap (λ (o : Option ℕ). is_some o) (c.dirty_end.ensures ∙ sym (touch_over c.args.self.now c.args.at.now))
