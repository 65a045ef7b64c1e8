use Rattle.std.proofs.Common.{Ok, Err}
use Rattle.incr_file.proofs.Places.{found_place}
use Rattle.incr_file.proofs.place.block_place.Goals as goal

pub returns-in-Ok : goal.returns-in-Ok
returns-in-Ok c = found_place c.args.head.now c.args.block c.as_slice.result.now (Ok c.in-Ok.number) c.as_slice.ensures.list c.as_slice.ensures.rising c.in-Ok.ensures.position

pub returns-in-Err : goal.returns-in-Err
returns-in-Err c = found_place c.args.head.now c.args.block c.as_slice.result.now (Err c.in-Err.field-0) c.as_slice.ensures.list c.as_slice.ensures.rising c.in-Err.ensures.position
