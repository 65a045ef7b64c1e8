-- The image of a patch.
use Rattle.history.specs.Apply.{page_at}
use Rattle.page_frames.specs.Overlay.{own_pages}
use Rattle.page_pool.proofs.Making.{patch_body}
use Rattle.page_pool.proofs.kinds.body.Goals as goal

pub returns-in_ok-image-in-Patch-clause-body : goal.returns-in_ok-image-in-Patch-clause-body
returns-in_ok-image-in-Patch-clause-body c =
    patch_body c.args.redo.0 c.lsn_at-lsn.result (page_at (own_pages c.args.frames.now) c.args.item.now.at) c.args.page.now c.in_ok-image-in-Patch.field-0 c.args.item.now.edit c.in-Patch.frags
    c.in-Patch.is c.requires.page c.lsn_at-lsn.ensures c.in_ok-image-in-Patch.ensures.page c.if-needs_image.ensures
