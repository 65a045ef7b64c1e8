use Rattle.std.proofs.Common.{Option, Some, None, sym, ap, ◌∙◌}
use Rattle.lsn_core.specs.byte_words.Numbers.{◌>>=◌}
use Rattle.page_frames.specs.Framed.{Framed, Held, held_mark}
use Rattle.page_frames.proofs.Tables.{frame_found}
use Rattle.page_frames.proofs.frames.Frames.mark.Goals as goal

pub returns-in-Some : goal.returns-in-Some
returns-in-Some c =
    sym (ap (λ (o : Option Held). o >>= λ h. h.mark) (frame_found c.self.inside.frames c.args.at.now (Some c.in-Some.frame.now) c.in-Some.ensures.value))
    ∙ ap (λ (f : Framed). held_mark f.held c.args.at.now) c.self.view_is

pub returns-in-None : goal.returns-in-None
returns-in-None c =
    sym (ap (λ (o : Option Held). o >>= λ h. h.mark) (frame_found c.self.inside.frames c.args.at.now None c.in-None.ensures.value))
    ∙ ap (λ (f : Framed). held_mark f.held c.args.at.now) c.self.view_is
