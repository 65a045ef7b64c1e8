use Rattle.std.proofs.Common.{◌≡◌, ◌+◌, true, refl}
use Rattle.scripts.specs.Orders.{grow_op}
use Rattle.crew.proofs.Growth.{grows_none, grows_more, stopped}
use Rattle.crew.proofs.run.grow.Goals as goal

pub loop-k-init : goal.loop-k-init
loop-k-init g c = grows_none (g.J.OfStore.tells ≡ true) g.J.OfCrew.settings.segment c.args.pass.now c.args.at.now c.args.shape _ refl

pub returns-in-Err : goal.returns-in-Err
returns-in-Err g c =
    stopped (g.J.OfStore.tells ≡ true) g.J.OfCrew.settings c.args.pass.now c.loop-k.pass c.insert_made.new.pass c.args.at.now c.args.shape c.loop-k.k c.args.count c.loop-k.span c.in-Err.fault c.loop-k.invariant
    (c.in-Err.ensures (grow_op c.args.at.now c.args.shape c.loop-k.k) c.grow_op.ensures) c.loop-k-test.true

pub loop-k-preserved : goal.loop-k-preserved
loop-k-preserved g c =
    grows_more (g.J.OfStore.tells ≡ true) g.J.OfCrew.settings.segment c.args.pass.now c.loop-k.pass c.insert_made.new.pass c.args.at.now c.args.shape c.loop-k.k (c.loop-k.k + 1) c.loop-k.span c.spanned-span.result c.in-Ok.place
    c.loop-k.invariant (c.in-Ok.ensures (grow_op c.args.at.now c.args.shape c.loop-k.k) c.grow_op.ensures) c.spanned-span.ensures refl
