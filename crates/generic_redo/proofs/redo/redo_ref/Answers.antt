use Rattle.std.proofs.lemmas.Result.{on_ok_weaker}
use Rattle.generic_redo.proofs.Refs.{image_redone, delta_redone_by}
use Rattle.generic_redo.proofs.redo.redo_ref.Goals as goal

pub returns-in_ok-redo_image-in-Image-clause-done : goal.returns-in_ok-redo_image-in-Image-clause-done
returns-in_ok-redo_image-in-Image-clause-done g c = image_redone g.P.Pages.shows c.args.target.now c.redo_image.new.target c.args.end.0 c.args.block.now c.in-Image.image c.in-Image.is c.in_ok-redo_image-in-Image.ensures.done

pub returns-in-Delta-clause-done : goal.returns-in-Delta-clause-done
returns-in-Delta-clause-done g c =
    on_ok_weaker c.redo_delta.result (delta_redone_by g.P.Pages.shows c.args.target.now c.redo_delta.new.target c.args.end.0 c.args.block.now c.in-Delta.frags c.in-Delta.is) c.redo_delta.ensures.done
