use Rattle.std.proofs.Common.{Some, None, sym, ap, ◌∙◌}
use Rattle.std.specs.FinMap.{get}
use Rattle.lsn_core.specs.byte_words.Pieces.{zero_page}
use Rattle.lsn_core.specs.declared.ids.BlockId.{BlockId}
use Rattle.page_frames.specs.Framed.{Framed}
use Rattle.page_frames.proofs.Tables.{length_found}
use Rattle.page_frames.proofs.Overlays.{count_over}
use Rattle.page_frames.proofs.frames.Frames.blocks.Goals as goal

pub returns-in-Some-clause-length : goal.returns-in-Some-clause-length
returns-in-Some-clause-length c =
    sym (length_found c.self.inside.lengths c.args.fork.now (Some c.in-Some.length.now) c.in-Some.ensures.value)
    ∙ ap (λ (f : Framed). get f.lengths c.args.fork.now) c.self.view_is

pub returns-in-Some-clause-count : goal.returns-in-Some-clause-count
returns-in-Some-clause-count c =
    sym (length_found c.self.inside.lengths c.args.fork.now (Some c.in-Some.length.now) c.in-Some.ensures.value)
    ∙ ap (λ (f : Framed). get f.lengths c.args.fork.now) c.self.view_is
    ∙ sym (count_over (λ (at : BlockId). zero_page) c.args.self.now c.args.fork.now)

pub returns-in-None-clause-length : goal.returns-in-None-clause-length
returns-in-None-clause-length c =
    sym (length_found c.self.inside.lengths c.args.fork.now None c.in-None.ensures.value)
    ∙ ap (λ (f : Framed). get f.lengths c.args.fork.now) c.self.view_is

pub returns-in-None-clause-count : goal.returns-in-None-clause-count
returns-in-None-clause-count c =
    sym (length_found c.self.inside.lengths c.args.fork.now None c.in-None.ensures.value)
    ∙ ap (λ (f : Framed). get f.lengths c.args.fork.now) c.self.view_is
    ∙ sym (count_over (λ (at : BlockId). zero_page) c.args.self.now c.args.fork.now)
