use Rattle.std.proofs.Common.{ℕ, List, Option, sym, ap, ◌∙◌}
use Rattle.std.specs.Option.{unwrap_or}
use Rattle.lsn_core.specs.byte_words.Pieces.{zero_page}
use Rattle.lsn_core.specs.declared.ids.BlockId.{BlockId}
use Rattle.page_frames.proofs.Overlays.{has_block_true, has_block_false, page_there, page_past}
use Rattle.page_frames.proofs.frames.Frames.block.Goals as goal

pub returns-then-has_block : goal.returns-then-has_block
returns-then-has_block c =
    ap (λ (o : Option (List ℕ)). unwrap_or o zero_page) c.page.ensures
    ∙ sym (page_there (λ (at : BlockId). zero_page) c.args.self.now c.args.at.now (has_block_true c.args.self.now.lengths c.args.at.now (sym c.has_block.ensures ∙ c.if-has_block.true)))

pub returns-else-has_block : goal.returns-else-has_block
returns-else-has_block c =
    sym (page_past (λ (at : BlockId). zero_page) c.args.self.now c.args.at.now (has_block_false c.args.self.now.lengths c.args.at.now (sym c.has_block.ensures ∙ c.if-has_block.false)))
