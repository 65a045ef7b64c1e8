-- The two bytes behind the fragments.
use Rattle.std.proofs.Common.{◌∙◌}
use Rattle.page_frames.proofs.Headers.{u16_over}
use Rattle.page_frames.proofs.patches.u16_behind.Goals as goal

pub returns : goal.returns
returns c =
    u16_over c.args.frags.now c.args.page.now c.args.at c.from.result c.from-2.result c.requires.frags c.told-page
    (c.from.ensures ∙ c.byte_behind-low.ensures) (c.from-2.ensures ∙ c.byte_behind-high.ensures)
