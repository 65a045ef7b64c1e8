use Rattle.std.proofs.Common.{List, ap, subst, arith, ◌∙◌}
use Rattle.std.specs.List.{All}
use Rattle.std.specs.FinMap.{len}
use Rattle.lsn_core.specs.declared.ids.BlockId.{BlockId}
use Rattle.page_pool.specs.Part.{Part}
use Rattle.page_pool.specs.Room.{blocks_of, missing, room_end, HasFrame}
use Rattle.page_pool.proofs.InTurn.{written_on, quiet_on, changes_on, read_changes}
use Rattle.page_pool.specs.Stops.{WritesFlushed, MayMakeRoom, MayAlways}
use Rattle.page_pool.proofs.Stopped.{flushed_on, flushed_read}
use Rattle.page_pool.proofs.partition.Partition.fill_room.Goals as goal

pub returns-in_err-free_frames-clause-none : goal.returns-in_err-free_frames-clause-none
returns-in_err-free_frames-clause-none g c = λ none. (c.free_frames.ensures.none (ap (λ (bs : List BlockId). room_end c.args.self.now.framed c.args.self.now.works bs) (c.as_slice.ensures ∙ c.blocks_of-blocks.ensures) ∙ none))

pub returns-in_err-hold_all-clause-written : goal.returns-in_err-hold_all-clause-written
returns-in_err-hold_all-clause-written g c = written_on c.args.self.now c.free_frames.new.self c.hold_all.new.self c.free_frames.ensures.written c.hold_all.ensures.written

pub returns-in_err-hold_all-clause-none : goal.returns-in_err-hold_all-clause-none
returns-in_err-hold_all-clause-none g c = λ none. quiet_on c.args.self.now c.free_frames.new.self c.hold_all.new.self (c.free_frames.ensures.none (ap (λ (bs : List BlockId). room_end c.args.self.now.framed c.args.self.now.works bs) (c.as_slice.ensures ∙ c.blocks_of-blocks.ensures) ∙ none)) c.hold_all.ensures.quiet

pub returns-in_err-hold_all-clause-area : goal.returns-in_err-hold_all-clause-area
returns-in_err-hold_all-clause-area g c = changes_on c.args.self.now c.free_frames.new.self c.hold_all.new.self c.free_frames.ensures.area (read_changes c.free_frames.new.self c.hold_all.new.self c.hold_all.ensures.area)

pub returns-then-count-missing-clause-written : goal.returns-then-count-missing-clause-written
returns-then-count-missing-clause-written g c = written_on c.args.self.now c.free_frames.new.self c.hold_all.new.self c.free_frames.ensures.written c.hold_all.ensures.written

pub returns-then-count-missing-clause-none : goal.returns-then-count-missing-clause-none
returns-then-count-missing-clause-none g c = λ none. quiet_on c.args.self.now c.free_frames.new.self c.hold_all.new.self (c.free_frames.ensures.none (ap (λ (bs : List BlockId). room_end c.args.self.now.framed c.args.self.now.works bs) (c.as_slice.ensures ∙ c.blocks_of-blocks.ensures) ∙ none)) c.hold_all.ensures.quiet

pub returns-then-count-missing-clause-area : goal.returns-then-count-missing-clause-area
returns-then-count-missing-clause-area g c = changes_on c.args.self.now c.free_frames.new.self c.hold_all.new.self c.free_frames.ensures.area (read_changes c.free_frames.new.self c.hold_all.new.self c.hold_all.ensures.area)

pub returns-clause-written : goal.returns-clause-written
returns-clause-written g c = written_on c.args.self.now c.free_frames.new.self c.hold_all.new.self c.free_frames.ensures.written c.hold_all.ensures.written

pub returns-clause-none : goal.returns-clause-none
returns-clause-none g c = λ none. quiet_on c.args.self.now c.free_frames.new.self c.hold_all.new.self (c.free_frames.ensures.none (ap (λ (bs : List BlockId). room_end c.args.self.now.framed c.args.self.now.works bs) (c.as_slice.ensures ∙ c.blocks_of-blocks.ensures) ∙ none)) c.hold_all.ensures.quiet

pub returns-clause-area : goal.returns-clause-area
returns-clause-area g c = changes_on c.args.self.now c.free_frames.new.self c.hold_all.new.self c.free_frames.ensures.area (read_changes c.free_frames.new.self c.hold_all.new.self c.hold_all.ensures.area)

pub returns-clause-room : goal.returns-clause-room
returns-clause-room g c = record {
  held = subst (All (HasFrame c.hold_all.new.self.framed)) (c.as_slice-2.ensures ∙ c.blocks_of-blocks.ensures) c.in_ok-hold_all.ensures.held;
  left = omega (arith, c.if-count-missing.false, c.count-count.ensures, c.limit.ensures.limit, c.missing.ensures.missing, ap (λ (bs : List BlockId). missing c.hold_all.new.self.framed.held bs) (c.as_slice-3.ensures ∙ c.blocks_of-blocks.ensures), ap (λ (x : Part). len x.framed.held) c.self.view_is, ap (λ (x : Part). x.framed.limit) c.self.view_is);
}

pub returns-in_err-free_frames-clause-moments : goal.returns-in_err-free_frames-clause-moments
returns-in_err-free_frames-clause-moments g c =
    let a = c.args.self.now in
    subst (λ (bs : List BlockId). WritesFlushed (MayMakeRoom a bs) a c.free_frames.new.self) (c.as_slice.ensures ∙ c.blocks_of-blocks.ensures) c.free_frames.ensures.moments

pub returns-in_err-hold_all-clause-moments : goal.returns-in_err-hold_all-clause-moments
returns-in_err-hold_all-clause-moments g c =
    let a = c.args.self.now in
    let b = c.free_frames.new.self in
    let e = c.free_frames.ensures in
    let may = MayMakeRoom a (blocks_of c.args.op.now) in
    flushed_on may MayAlways a b c.hold_all.new.self e.written e.area (λ m may. tt)
    (subst (λ (bs : List BlockId). WritesFlushed (MayMakeRoom a bs) a b) (c.as_slice.ensures ∙ c.blocks_of-blocks.ensures) e.moments) (flushed_read MayAlways b c.hold_all.new.self c.hold_all.ensures.area)

pub returns-then-count-missing-clause-moments : goal.returns-then-count-missing-clause-moments
returns-then-count-missing-clause-moments g c =
    let a = c.args.self.now in
    let b = c.free_frames.new.self in
    let e = c.free_frames.ensures in
    let may = MayMakeRoom a (blocks_of c.args.op.now) in
    flushed_on may MayAlways a b c.hold_all.new.self e.written e.area (λ m may. tt)
    (subst (λ (bs : List BlockId). WritesFlushed (MayMakeRoom a bs) a b) (c.as_slice.ensures ∙ c.blocks_of-blocks.ensures) e.moments) (flushed_read MayAlways b c.hold_all.new.self c.hold_all.ensures.area)

pub returns-clause-moments : goal.returns-clause-moments
returns-clause-moments g c =
    let a = c.args.self.now in
    let b = c.free_frames.new.self in
    let e = c.free_frames.ensures in
    let may = MayMakeRoom a (blocks_of c.args.op.now) in
    flushed_on may MayAlways a b c.hold_all.new.self e.written e.area (λ m may. tt)
    (subst (λ (bs : List BlockId). WritesFlushed (MayMakeRoom a bs) a b) (c.as_slice.ensures ∙ c.blocks_of-blocks.ensures) e.moments) (flushed_read MayAlways b c.hold_all.new.self c.hold_all.ensures.area)
