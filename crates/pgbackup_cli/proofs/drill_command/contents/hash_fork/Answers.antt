-- One page behind the other.
use Rattle.std.proofs.Common.{◌+◌, arith}
use Rattle.rel_files.specs.Shown.{ShowsStore}
use Rattle.pgbackup_cli.proofs.drill_command.Hashed.{fork_start, fork_next, fork_all, none_read, reads_on}
use Rattle.pgbackup_cli.proofs.drill_command.contents.hash_fork.Goals as goal

pub loop-block-init : goal.loop-block-init
loop-block-init g c = record {
  hashed = fork_start (ShowsStore g.V.Vault c.args.forks.now) c.args.len.now c.args.hasher.now;
  held = λ s shown. shown;
  reads = none_read g.V.Vault c.args.forks.now.area;
}

pub loop-block-preserved : goal.loop-block-preserved
loop-block-preserved g c = record {
  hashed = fork_next (ShowsStore g.V.Vault c.args.forks.now) (ShowsStore g.V.Vault c.loop-block.forks) c.args.len.now c.loop-block.block (c.loop-block.block + 1) c.args.hasher.now c.loop-block.hasher c.hash_block.new.hasher (omega arith) c.loop-block-test.true c.loop-block.invariant.held c.loop-block.invariant.hashed c.in_ok-hash_block.ensures.hashed;
  held = λ s shown. c.in_ok-hash_block.ensures.held s (c.loop-block.invariant.held s shown);
  reads = reads_on g.V.Vault c.args.forks.now.area c.loop-block.forks.area c.hash_block.new.forks.area c.loop-block.invariant.reads c.in_ok-hash_block.ensures.reads;
}

pub returns-clause-hashed : goal.returns-clause-hashed
returns-clause-hashed g c =
    fork_all (ShowsStore g.V.Vault c.args.forks.now) c.args.len.now c.loop-block.block c.args.hasher.now c.loop-block.hasher (omega (arith, c.loop-block-test.false)) c.loop-block.invariant.hashed

pub returns-in_err-hash_block-clause-held : goal.returns-in_err-hash_block-clause-held
returns-in_err-hash_block-clause-held g c = λ s shown. c.hash_block.ensures.held s (c.loop-block.invariant.held s shown)
