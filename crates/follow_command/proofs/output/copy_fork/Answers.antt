-- One block behind the other.
use Rattle.std.proofs.Common.{ℕ, ◌+◌, subst, arith}
use Rattle.follow_command.specs.Output.{CopiesFork}
use Rattle.follow_command.proofs.Copies.{fork_start, fork_next}
use Rattle.follow_command.proofs.output.copy_fork.Goals as goal

pub loop-block-init : goal.loop-block-init
loop-block-init g c = record {
  copied = fork_start g.P.Pages.shows c.args.follower.now.store c.args.len.now c.args.target.now c.make.new.self c.in_ok-make.ensures.made;
  kept = c.in_ok-make.ensures.kept;
  later = c.in_ok-make.ensures.cause.later;
}

pub loop-block-preserved : goal.loop-block-preserved
loop-block-preserved g c = record {
  copied = fork_next g.P.Pages.shows c.args.follower.now.store c.args.len.now c.loop-block.block (c.loop-block.block + 1) c.args.target.now c.loop-block.target c.copy_block.new.target (omega arith) c.loop-block-test.true c.loop-block.invariant.copied c.in_ok-copy_block.ensures.copied;
  kept = g.met.P.Pages.keeps_trans c.args.target.now c.loop-block.target c.copy_block.new.target c.loop-block.invariant.kept c.in_ok-copy_block.ensures.kept;
  later = omega (arith, c.loop-block.invariant.later, c.in_ok-copy_block.ensures.cause.later);
}

pub returns-clause-copied : goal.returns-clause-copied
returns-clause-copied g c =
    subst (λ (n : ℕ). CopiesFork g.P.Pages.shows c.args.follower.now.store c.args.len.now n c.args.target.now c.loop-block.target) (omega (arith, c.loop-block-test.false, c.loop-block.auto.block-end)) c.loop-block.invariant.copied
