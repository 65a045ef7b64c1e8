use Rattle.std.proofs.lemmas.Result.{on_ok_weaker}
use Rattle.generic_redo.proofs.Refs.{ref_there, ref_redoes, ref_refuses}
use Rattle.generic_redo.proofs.redo.redo_block.Goals as goal

pub returns-clause-done : goal.returns-clause-done
returns-clause-done g c =
    on_ok_weaker c.redo_ref.result
    (ref_redoes g.P.Pages.shows c.args.target.now c.redo_ref.new.target c.args.rec.now c.args.i c.index-blocks_of-i.result
    (ref_there c.args.rec.now c.args.i c.blocks_of.result.now c.index-blocks_of-i.result c.blocks_of.ensures c.requires.there c.index-blocks_of-i.is))
    c.redo_ref.ensures.done

pub returns-clause-bad : goal.returns-clause-bad
returns-clause-bad g c = λ bad.
    ref_refuses g.P.Pages.shows c.args.target.now c.redo_ref.new.target c.args.rec.now c.args.i c.index-blocks_of-i.result
    (ref_there c.args.rec.now c.args.i c.blocks_of.result.now c.index-blocks_of-i.result c.blocks_of.ensures c.requires.there c.index-blocks_of-i.is)
    (c.redo_ref.ensures.bad bad)
