use Rattle.std.proofs.Common.{ap, ◌∙◌}
use Rattle.std.specs.FinMap.{len}
use Rattle.page_frames.specs.Framed.{Framed}
use Rattle.page_frames.proofs.Tables.{frames_counted}
use Rattle.page_frames.proofs.frames.Frames.count.Goals as goal

pub returns : goal.returns
returns c = c.len.ensures.len ∙ frames_counted c.self.inside.frames c.len.ensures.ordered ∙ ap (λ (f : Framed). len f.held) c.self.view_is
