use Rattle.std.proofs.Common.{◌≡◌, ◌+◌, ◌-◌, subst, sym}
use Rattle.std.specs.Int.{w32}
use Rattle.lsn_core.specs.byte_words.Numbers.{number_at}
use Rattle.summary_file.specs.Inside.{many}
use Rattle.summary_file.proofs.Many.{after_many, many_next, many_stops, fails}
use Rattle.summary_file.proofs.reading.blocks_of.Goals as goal

pub returns-in-Err : goal.returns-in-Err
returns-in-Err c =
    let all = many (number_at w32) c.args.count c.args.bytes.now in
    fails ((number_at w32) c.loop.rest.now) all c.in-Err.fault (λ e. many_stops (number_at w32) all c.args.count c.loop.counter c.loop.numbers.items c.loop.rest.now c.loop-test.true e c.loop.invariant) c.in-Err.ensures

pub loop-preserved : goal.loop-preserved
loop-preserved c =
    let all = many (number_at w32) c.args.count c.args.bytes.now in
    subst (λ l. all ≡ after_many l (many (number_at w32) (c.args.count - (c.loop.counter + 1)) c.in-Ok.found.1.now)) (sym c.in_ok-push.ensures.items)
    (many_next (number_at w32) all c.args.count c.loop.counter c.loop.numbers.items c.loop.rest.now c.in-Ok.found.1.now c.in-Ok.found.0 c.loop-test.true c.in-Ok.ensures c.loop.invariant)
