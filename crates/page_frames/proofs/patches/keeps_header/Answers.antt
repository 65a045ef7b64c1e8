-- The header's places behind the fragments.
use Rattle.std.proofs.Common.{◌∙◌}
use Rattle.page_frames.proofs.Headers.{header_by}
use Rattle.page_frames.proofs.patches.keeps_header.Goals as goal

pub returns : goal.returns
returns c =
    c.is_header.ensures
    ∙ header_by c.args.frags.now c.args.page.now c.u16_behind-version.result c.u16_behind-lower.result c.u16_behind-upper.result c.u16_behind-special.result c.requires c.told-page
    c.u16_behind-version.ensures c.u16_behind-lower.ensures c.u16_behind-upper.ensures c.u16_behind-special.ensures
