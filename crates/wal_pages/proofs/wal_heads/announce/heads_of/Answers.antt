use Rattle.std.proofs.Common.{◌+◌, ◌-◌, arith}
use Rattle.wal_pages.proofs.wal_heads.OneByOne.{ended, finished, went_on, none_left}
use Rattle.wal_pages.proofs.wal_heads.announce.heads_of.Goals as goal

pub returns-in-None : goal.returns-in-None
returns-in-None c =
    ended _ (34 - c.loop.counter) (34 - (c.loop.counter + 1)) c.loop.least c.loop.before c.loop.rest.now _ (omega (arith, c.loop-test.true)) c.in-None.ensures c.loop.invariant.read

pub returns-in-Some-Last-default : goal.returns-in-Some-Last-default
returns-in-Some-Last-default c =
    let is = c.in-Some-Last-default in
    finished _ (34 - c.loop.counter) (34 - (c.loop.counter + 1)) c.loop.least c.loop.before c.loop.rest.now is.parts.now is.field-0-0 is.main _ (omega (arith, c.loop-test.true)) is.field-0-0-is is.ensures c.loop.invariant.read

pub loop-preserved : goal.loop-preserved
loop-preserved c =
    let is = c.in-Some-Block-default in
    record {
      before = omega (arith, c.loop.invariant.before, c.block_size-before.ensures.most);
      read =
          went_on _ c.push.new.self.items (34 - c.loop.counter) (34 - (c.loop.counter + 1)) c.loop.least c.loop.before c.from-least.result c.block_size-before.result c.loop.rest.now is.more.now is.field-0-0 is.head _
          (omega (arith, c.loop-test.true)) is.field-0-0-is is.ensures c.in_ok-push-in-Some-Block-default.ensures.items c.from-least.ensures c.block_size-before.ensures.size c.loop.invariant.read;
    }

pub returns : goal.returns
returns c = none_left _ (34 - c.loop.counter) c.loop.least c.loop.before c.loop.rest.now _ (omega (arith, c.loop-test.false)) c.loop.invariant.read
