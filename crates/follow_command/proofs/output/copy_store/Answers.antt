-- One fork behind the other.
use Rattle.std.proofs.Common.{◌+◌, refl, ◌∙◌, arith}
use Rattle.follow_command.proofs.Copies.{front_start, front_more, pages_more, all_copied}
use Rattle.follow_command.proofs.output.copy_store.Goals as goal

pub loop-len-init : goal.loop-len-init
loop-len-init g c = record {
  copied = front_start g.P.Pages.shows c.args.follower.now.store c.args.target.now;
  counted = refl;
  kept = g.met.P.Pages.keeps_refl c.args.target.now;
  later = omega arith;
}

pub loop-len-preserved : goal.loop-len-preserved
loop-len-preserved g c =
    let are = c.deref-len-items.ensures.value ∙ c.in_ok-forks.ensures in record {
      copied = front_more g.P.Pages.shows c.args.follower.now.store c.deref-len-items.result.now c.loop-len.len-index (c.loop-len.len-index + 1) c.args.target.now c.loop-len.target c.copy_fork.new.target c.len-item.result are (omega arith) c.loop-len-test.true c.len-item.is c.loop-len.invariant.copied c.in_ok-copy_fork.ensures.copied;
      counted = pages_more c.args.follower.now.store c.deref-len-items.result.now c.loop-len.len-index (c.loop-len.len-index + 1) c.loop-len.pages _ c.len-item.result are (omega arith) c.loop-len-test.true c.len-item.is c.loop-len.invariant.counted c.in_ok-pages.ensures;
      kept = g.met.P.Pages.keeps_trans c.args.target.now c.loop-len.target c.copy_fork.new.target c.loop-len.invariant.kept c.in_ok-copy_fork.ensures.kept;
      later = omega (arith, c.loop-len.invariant.later, c.in_ok-copy_fork.ensures.cause.later);
    }

pub returns-clause-copied : goal.returns-clause-copied
returns-clause-copied g c =
    all_copied g.P.Pages.shows c.args.follower.now.store c.deref-len-items.result.now c.loop-len.len-index _ c.loop-len.pages c.args.target.now c.loop-len.target (c.deref-len-items.ensures.value ∙ c.in_ok-forks.ensures) (omega (arith, c.loop-len-test.false)) (omega (arith, c.len.ensures)) c.loop-len.invariant.copied c.loop-len.invariant.counted
