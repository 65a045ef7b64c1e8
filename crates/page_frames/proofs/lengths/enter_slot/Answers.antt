use Rattle.std.proofs.Common.{None}
use Rattle.page_frames.proofs.Tables.{slot_there, slot_entered, slot_kept, length_same}
use Rattle.page_frames.proofs.lengths.enter_slot.Goals as goal

pub returns-then-contains_key-clause-slot : goal.returns-then-contains_key-clause-slot
returns-then-contains_key-clause-slot c = slot_there c.args.lengths.now c.args.fork.now c.if-contains_key.ensures

pub returns-clause-slot : goal.returns-clause-slot
returns-clause-slot c = slot_entered c.args.lengths.now c.args.fork.now c.insert.new.self None c.in_ok-insert.ensures.updates

pub returns-clause-kept : goal.returns-clause-kept
returns-clause-kept c = slot_kept c.args.lengths.now c.args.fork.now c.insert.new.self None c.in_ok-insert.ensures.updates

pub returns-clause-lengths : goal.returns-clause-lengths
returns-clause-lengths c = length_same c.args.lengths.now c.args.fork.now c.insert.new.self c.if-contains_key.ensures c.in_ok-insert.ensures.updates
