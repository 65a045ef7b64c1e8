use Rattle.std.proofs.Common.{◌≡◌, ◌+◌, ◌-◌, subst, sym}
use Rattle.summary_file.specs.Inside.{many, fork_at}
use Rattle.summary_file.proofs.Many.{after_many, many_next, many_stops, fails}
use Rattle.summary_file.proofs.reading.forks_of.Goals as goal

pub returns-in-Err : goal.returns-in-Err
returns-in-Err c =
    let all = many fork_at c.args.count c.args.bytes.now in
    fails (fork_at c.loop.rest.now) all c.in-Err.fault (λ e. many_stops fork_at all c.args.count c.loop.counter c.loop.forks.items c.loop.rest.now c.loop-test.true e c.loop.invariant) c.in-Err.ensures

pub loop-preserved : goal.loop-preserved
loop-preserved c =
    let all = many fork_at c.args.count c.args.bytes.now in
    subst (λ l. all ≡ after_many l (many fork_at (c.args.count - (c.loop.counter + 1)) c.in-Ok.found.1.now)) (sym c.in_ok-push.ensures.items)
    (many_next fork_at all c.args.count c.loop.counter c.loop.forks.items c.loop.rest.now c.in-Ok.found.1.now c.in-Ok.found.0 c.loop-test.true c.in-Ok.ensures c.loop.invariant)
