-- The last listed block is the greatest.
use Rattle.chain_files.proofs.Slots.{rebuilt_is}
use Rattle.chain_files.proofs.slot.rebuilt_length.Goals as goal

pub returns-in-Some-clause-length : goal.returns-in-Some-clause-length
returns-in-Some-clause-length c =
    let item = c.in-Some.ensures.item in
    rebuilt_is c.args.head.now c.as_slice.result.now c.in-Some.last.now c.max.result c.as_slice.ensures.list c.requires.rising item.3.0 item.1 c.max.ensures
