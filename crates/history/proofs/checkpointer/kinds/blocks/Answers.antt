-- A block for each item and its page.
use Rattle.std.proofs.Common.{◌≡◌, ℕ, List, ap, subst, sym, ◌∙◌, ◌++◌, ◌∷◌, [], take, length, get_or, arith}
use Rattle.std.specs.List.{All}
use Rattle.std.proofs.lemmas.List.Elements.{All-push}
use Rattle.wal_record.specs.declared.record.BlockRef.{BlockRef}
use Rattle.wal_record.specs.Spelling.{IsWritableBlock}
use Rattle.history.specs.declared.op.Item.{Item}
use Rattle.history.specs.Op.{IsFitOver}
use Rattle.history.specs.checkpointer.Changes.{blocks_over}
use Rattle.history.proofs.checkpointer.Pages.{same_length, fit_at, block_more, all_blocks}
use Rattle.history.proofs.checkpointer.kinds.blocks.Goals as goal

pub bounds-before-at : goal.bounds-before-at
bounds-before-at c = omega (arith, same_length c.args.items.now c.args.before.now c.requires.each, c.loop-at-test.true)

pub block-requires : goal.block-requires
block-requires c =
    subst (λ (i : Item). IsFitOver i (get_or c.args.before.now c.loop-at.at [])) (sym c.index-items-at.is)
    (fit_at c.args.items.now c.args.before.now c.requires.each c.loop-at.at _ [] c.loop-at-test.true)

pub loop-at-preserved : goal.loop-at-preserved
loop-at-preserved c =
    let more = block_more c.args.redo.0 c.args.items.now c.args.before.now c.requires.each c.loop-at.at c.index-items-at.result [] c.loop-at-test.true c.index-items-at.is in
    record {
      blocks =
          c.in_ok-push.ensures.items ∙ ap (λ (bs : List BlockRef). bs ++ (c.in_ok-block.field-0 ∷ [])) c.loop-at.invariant.blocks
          ∙ ap (λ (b : BlockRef). blocks_over c.args.redo.0 (take c.loop-at.at c.args.items.now) (take c.loop-at.at c.args.before.now) ++ (b ∷ []))
          (c.in_ok-block.ensures.block)
          ∙ sym more;
      writable = subst (All IsWritableBlock) (sym c.in_ok-push.ensures.items) (All-push IsWritableBlock c.loop-at.list.items c.in_ok-block.field-0 c.loop-at.invariant.writable c.in_ok-block.ensures.writable);
    }

pub returns-clause-blocks : goal.returns-clause-blocks
returns-clause-blocks c =
    c.from_vec.ensures ∙ c.loop-at.invariant.blocks ∙ all_blocks c.args.redo.0 c.args.items.now c.args.before.now c.loop-at.at (same_length c.args.items.now c.args.before.now c.requires.each) (omega (arith, c.loop-at-test.false))
