use Rattle.std.proofs.Common.{◌≡◌, ℕ, List, length}
use Rattle.std.specs.List.{All}
use Rattle.std.specs.Vec.Iter.{into_iter_items, into_iter_len}
use Rattle.lsn_core.specs.declared.ids.BlockId.{BlockId}
use Rattle.page_frames.specs.Overlay.{pages_over, marks_over}
use Rattle.page_pool.specs.Ready.{HasRoomAt, pages_put}
use Rattle.page_pool.specs.Inside.{ArePlaces, pages_touched}
use Rattle.page_pool.proofs.checking.put_pages.Given as goal

-- what is left to be put gives the whole
abbrev pub invariant-loop-new : goal.invariant-loop-new
invariant-loop-new l = record {
  count : into_iter_len l.new-iterator ≡ length (into_iter_items l.new-iterator);
  pages : (behind : BlockId → List ℕ) → pages_put l.end.0 (into_iter_items l.new-iterator) (pages_over behind l.frames) ≡ pages_put l.end.0 l.fn.pages.items (pages_over behind l.fn.frames);
  marks : pages_touched l.end.0 (marks_over l.frames) (into_iter_items l.new-iterator) ≡ pages_touched l.end.0 (marks_over l.fn.frames) l.fn.pages.items;
  places : ArePlaces l.frames.lengths (into_iter_items l.new-iterator);
  room : All (λ p. HasRoomAt l.frames p.at) (into_iter_items l.new-iterator);
}
