use Rattle.std.proofs.Common.{◌≡◌, map, take, box_value}
use Rattle.std.specs.List.{All}
use Rattle.pg_page.specs.Header.{IsGood}
use Rattle.wal_record.specs.Spelling.{IsWritableBlock}
use Rattle.history.specs.Written.{block_of_item}
use Rattle.page_frames.specs.Overlay.{own_pages}
use Rattle.page_pool.specs.Inside.{seen_page, page_of_item}
use Rattle.page_pool.proofs.kinds.make_change.Given as goal

abbrev pub invariant-loop-item : goal.invariant-loop-item
invariant-loop-item l = record {
  pages : map seen_page l.pages.items ≡ map (page_of_item (own_pages l.frames)) (take l.item-index l.items);
  good : All (λ p. IsGood (box_value p.page)) l.pages.items;
  blocks : l.blocks.items ≡ map (block_of_item (own_pages l.frames) l.redo.0) (take l.item-index l.items);
  writable : All IsWritableBlock l.blocks.items;
}
