use Rattle.std.proofs.Common.{ℕ, List, Option, Some, None, sym, ap, ◌∙◌}
use Rattle.std.specs.Option.{option_map}
use Rattle.page_frames.specs.Framed.{Framed, Held, held_page}
use Rattle.page_frames.proofs.Tables.{frame_found}
use Rattle.page_frames.proofs.frames.Frames.page.Goals as goal

pub returns-in-Some : goal.returns-in-Some
returns-in-Some c =
    ap (λ (p : List ℕ). Some p) c.page_of.ensures
    ∙ sym (ap (λ (o : Option Held). option_map (λ h. h.page) o) (frame_found c.self.inside.frames c.args.at.now (Some c.in-Some.frame.now) c.in-Some.ensures.value))
    ∙ ap (λ (f : Framed). held_page f.held c.args.at.now) c.self.view_is

pub returns-in-None : goal.returns-in-None
returns-in-None c =
    sym (ap (λ (o : Option Held). option_map (λ h. h.page) o) (frame_found c.self.inside.frames c.args.at.now None c.in-None.ensures.value))
    ∙ ap (λ (f : Framed). held_page f.held c.args.at.now) c.self.view_is
