use Rattle.std.proofs.Common.{◌≡◌, max, map, List, ap, sym, ◌∙◌}
use Rattle.std.specs.List.{reduce}
use Rattle.lsn_core.specs.declared.ids.BlockId.{BlockId}
use Rattle.page_pool.specs.declared.work.Pending.{Pending}
use Rattle.page_pool.specs.Part.{Part}
use Rattle.page_pool.specs.Room.{blocks_of, ends_at, newest_written, room_victims}
use Rattle.page_pool.proofs.Ended.{room_is}
use Rattle.page_pool.proofs.partition.Partition.room_lsn.Goals as goal

pub returns-clause-end : goal.returns-clause-end
returns-clause-end g c =
    let f = c.args.self.now.framed in
    let ends = ends_at f (room_victims f (blocks_of c.args.op.now)) in
    let blocks : c.as_slice.result.now ≡ blocks_of c.args.op.now = c.as_slice.ensures ∙ c.blocks_of.ensures in
    let victims : c.as_slice-2.result.now ≡ room_victims f (blocks_of c.args.op.now) = c.as_slice-2.ensures ∙ c.victims-victims.ensures ∙ ap (room_victims f) blocks in
    sym c.in_ok-later.was
    ∙ room_is c.self.inside.works.items ends c.in_ok-pages.pages c.later.result c.newest_work-works.result c.newest_of.result c.in_ok-pages.was (c.newest_of.ensures ∙ ap (λ (bs : List BlockId). reduce max (ends_at f bs)) victims)
    (c.newest_work-works.ensures ∙ ap (λ (ws : List Pending). reduce max (map (λ (w : Pending). w.end.0) ws)) c.deref.ensures.value) c.later.ensures
    ∙ ap (λ (x : Part). newest_written x.works ends) c.self.view_is
