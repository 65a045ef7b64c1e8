use Rattle.std.proofs.Common.{map, take, drop}
use Rattle.std.specs.List.{All}
use Rattle.page_pool.specs.Ready.{HasRoomAt}
use Rattle.page_pool.specs.Room.{HasFrames}
use Rattle.page_pool.specs.Inside.{ShowsAlike}
use Rattle.page_pool.proofs.checking.reserve_pages.Given as goal

abbrev pub invariant-loop-new : goal.invariant-loop-new
invariant-loop-new l = record {
  room : All (λ p. HasRoomAt l.frames p.at) (take l.new-index l.pages);
  frames : HasFrames l.frames (map (λ p. p.at) (drop l.new-index l.pages));
  alike : ShowsAlike l.fn.frames l.frames;
}
