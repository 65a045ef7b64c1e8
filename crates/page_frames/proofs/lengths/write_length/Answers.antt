use Rattle.std.proofs.Common.{Some, IsSome, refl, subst}
use Rattle.page_frames.proofs.Tables.{slot_missing, length_put, slot_same}
use Rattle.page_frames.proofs.lengths.write_length.Goals as goal

pub unreachable-requires : goal.unreachable-requires
unreachable-requires c = slot_missing c.args.lengths.now c.args.fork.now c.requires c.in_default.ensures.value

pub returns-clause-lengths : goal.returns-clause-lengths
returns-clause-lengths c =
    length_put c.args.lengths.now c.args.fork.now (c.get_mut.follows.lender (Some c.args.count)) (Some (Some c.args.count))
    ((c.get_mut.follows.holds (Some c.args.count)).3 (subst IsSome c.in-Some.ensures.value refl))

pub returns-clause-slots : goal.returns-clause-slots
returns-clause-slots c =
    slot_same c.args.lengths.now c.args.fork.now (c.get_mut.follows.lender (Some c.args.count)) (Some c.args.count)
    ((c.get_mut.follows.holds (Some c.args.count)).3 (subst IsSome c.in-Some.ensures.value refl)) c.in-Some.length.now c.in-Some.ensures.value
