-- Each page gets a frame, as far as there are some.
use Rattle.std.proofs.Common.{◌+◌, List, map, take, drop, subst}
use Rattle.std.specs.List.{All}
use Rattle.std.proofs.lemmas.List.{take_all}
use Rattle.std.proofs.lemmas.List.Elements.{All-more}
use Rattle.page_pool.specs.declared.ready.NewPage.{NewPage}
use Rattle.page_pool.specs.Ready.{HasRoomAt}
use Rattle.page_pool.specs.Room.{HasFrames}
use Rattle.page_pool.proofs.Doing.{room_kept}
use Rattle.page_pool.proofs.Reserved.{may_reserve, frames_on, alike_on, narrow_at, rest_at}
use Rattle.page_pool.proofs.checking.reserve_pages.Goals as goal

pub reserve-requires : goal.reserve-requires
reserve-requires c =
    let pages = c.args.pages.now in
    let i = c.loop-new.new-index in
    may_reserve c.loop-new.frames c.new-item.result.at (map (λ (p : NewPage). p.at) (drop (i + 1) pages))
    (subst (λ (ps : List NewPage). HasFrames c.loop-new.frames (map (λ (p : NewPage). p.at) ps)) (rest_at pages i c.new-item.result c.loop-new-test.true c.new-item.is) c.loop-new.invariant.frames)

pub loop-new-preserved : goal.loop-new-preserved
loop-new-preserved c =
    let pages = c.args.pages.now in
    let i = c.loop-new.new-index in
    let f = c.loop-new.frames in
    let h = c.reserve.new.self in
    let e = c.in_ok-reserve.ensures in
    let left = subst (λ (ps : List NewPage). HasFrames f (map (λ (p : NewPage). p.at) ps)) (rest_at pages i c.new-item.result c.loop-new-test.true c.new-item.is) c.loop-new.invariant.frames in
    record {
      room = All-more (λ (p : NewPage). HasRoomAt h p.at) pages i c.new-item.result c.loop-new-test.true
          (room_kept f h e.kept (take i pages) c.loop-new.invariant.room)
          (subst (λ (p : NewPage). HasRoomAt h p.at) c.new-item.is (record { reserved = e.reserved; narrow = narrow_at pages i c.new-item.result c.loop-new-test.true c.new-item.is c.requires.narrow }));
      frames = frames_on f h c.new-item.result.at (map (λ (p : NewPage). p.at) (drop (i + 1) pages)) e.lengths e.limit e.held e.few left;
      alike = alike_on c.args.frames.now f h c.loop-new.invariant.alike e.pages e.marks e.lengths;
    }

pub returns-clause-room : goal.returns-clause-room
returns-clause-room c =
    subst (All (λ (p : NewPage). HasRoomAt c.loop-new.frames p.at)) (take_all c.loop-new.new-index c.args.pages.now c.loop-new-test.false) c.loop-new.invariant.room
