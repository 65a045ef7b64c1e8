use Rattle.std.proofs.Common.{◌≡◌, true}
use Rattle.scripts.specs.Orders.{op_asked}
use Rattle.crew.proofs.Growth.{accepted, refused_line}
use Rattle.crew.proofs.run.insert.Goals as goal

pub returns-in-Ok : goal.returns-in-Ok
returns-in-Ok g c = accepted (g.J.OfStore.tells ≡ true) g.J.OfCrew.settings c.args.order.now c.args.pass.now c.insert_made.new.pass c.in-Ok.place (c.in-Ok.ensures (op_asked c.args.order.now) c.op.ensures)

pub returns-in-Err : goal.returns-in-Err
returns-in-Err g c = refused_line (g.J.OfStore.tells ≡ true) g.J.OfCrew.settings c.args.order.now c.args.pass.now c.insert_made.new.pass c.in-Err.fault (c.in-Err.ensures (op_asked c.args.order.now) c.op.ensures)
