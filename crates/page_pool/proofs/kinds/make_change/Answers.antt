-- A page and a block more for each item.
use Rattle.std.proofs.Common.{ℕ, List, ap, sym, subst, box_value}
use Rattle.std.specs.List.{All}
use Rattle.std.proofs.lemmas.List.Elements.{All-push}
use Rattle.pg_page.specs.Header.{IsGood}
use Rattle.wal_record.specs.Spelling.{IsWritableBlock}
use Rattle.page_frames.specs.Overlay.{own_pages}
use Rattle.page_pool.specs.declared.ready.NewPage.{NewPage}
use Rattle.page_pool.proofs.Making.{pages_more, blocks_more}
use Rattle.page_pool.proofs.kinds.make_change.Goals as goal

pub loop-item-preserved : goal.loop-item-preserved
loop-item-preserved c =
    let item = c.item-item.result in
    let store = own_pages c.args.frames.now in
    let items = c.args.items.now in
    let before = c.loop-item.invariant in
    record {
      pages = pages_more store items c.loop-item.item-index item c.loop-item.pages.items c.push-in-loop-item.new.self.items _ c.loop-item-test.true c.item-item.is before.pages c.in_ok-push-2.ensures.items
          (ap (λ (p : List ℕ). (item.at, p)) c.in_ok-page.ensures.page);
      good = subst (All (λ (p : NewPage). IsGood (box_value p.page))) (sym c.in_ok-push-2.ensures.items) (All-push (λ (p : NewPage). IsGood (box_value p.page)) c.loop-item.pages.items _ before.good c.in_ok-page.ensures.writable.0);
      blocks = blocks_more store c.args.redo.0 items c.loop-item.item-index item c.loop-item.blocks.items c.push.new.self.items c.in_ok-block.field-0 c.loop-item-test.true c.item-item.is before.blocks c.in_ok-push.ensures.items c.in_ok-block.ensures.block;
      writable = subst (All IsWritableBlock) (sym c.in_ok-push.ensures.items) (All-push IsWritableBlock c.loop-item.blocks.items c.in_ok-block.field-0 before.writable c.in_ok-block.ensures.writable);
    }
