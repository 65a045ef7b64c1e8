use Rattle.std.proofs.Common.{◌++◌, [], true, false, List, take, ap, ◌∙◌}
use Rattle.std.specs.FinMap.{entries}
use Rattle.lsn_core.specs.declared.ids.BlockId.{BlockId}
use Rattle.page_frames.specs.Framed.{Framed}
use Rattle.page_frames.specs.Inside.{held_in}
use Rattle.page_frames.specs.Sweep.{round, victims}
use Rattle.page_frames.proofs.Sweeping.{take_again}
use Rattle.page_frames.proofs.frames.Frames.victims.Goals as goal

pub returns : goal.returns
returns c =
    let es = entries (held_in c.self.inside.frames) in
    let first = round c.args.apart.now false c.self.inside.hand es in
    let second = round c.args.apart.now true c.self.inside.hand es in
    c.pick_round-2.ensures.picked
    ∙ ap (λ (xs : List BlockId). take c.args.count (xs ++ second)) (c.pick_round.ensures.picked ∙ ap (λ (xs : List BlockId). take c.args.count (xs ++ first)) c.none-few.ensures)
    ∙ take_again c.args.count [] first second
    ∙ ap (λ (f : Framed). victims c.args.apart.now c.args.count f) c.self.view_is
