-- One fork behind the other.
use Rattle.std.proofs.Common.{◌+◌, ◌∙◌, arith}
use Rattle.rel_files.specs.Shown.{ShowsStore}
use Rattle.pgbackup_cli.proofs.drill_command.Hashed.{forks_start, forks_next, forks_all, reads_on, shown_still}
use Rattle.pgbackup_cli.proofs.drill_command.contents.hash_all.Goals as goal

pub loop-len-init : goal.loop-len-init
loop-len-init g c = record {
  hashed = forks_start (ShowsStore g.V.Vault c.args.forks.now) c.args.hasher.now;
  held = shown_still g.V.Vault c.args.forks.now c.list.new.self c.in_ok-list.ensures.held;
  reads = c.in_ok-list.ensures.reads;
}

pub loop-len-preserved : goal.loop-len-preserved
loop-len-preserved g c = record {
  hashed = forks_next (ShowsStore g.V.Vault c.args.forks.now) (ShowsStore g.V.Vault c.loop-len.forks) c.deref-len-items.result.now c.len-item.result c.loop-len.len-index (c.loop-len.len-index + 1) c.args.hasher.now c.loop-len.hasher c.hash_fork.new.hasher (omega arith) c.loop-len-test.true c.len-item.is
      (λ s shown. (c.deref-len-items.ensures.value ∙ c.in_ok-list.ensures.list s shown.holds, shown.whole, c.loop-len.invariant.held s shown)) c.loop-len.invariant.hashed c.in_ok-hash_fork.ensures.hashed;
  held = λ s shown. c.in_ok-hash_fork.ensures.held s (c.loop-len.invariant.held s shown);
  reads = reads_on g.V.Vault c.args.forks.now.area c.loop-len.forks.area c.hash_fork.new.forks.area c.loop-len.invariant.reads c.in_ok-hash_fork.ensures.reads;
}

pub returns-clause-hashed : goal.returns-clause-hashed
returns-clause-hashed g c =
    forks_all (ShowsStore g.V.Vault c.args.forks.now) c.deref-len-items.result.now c.loop-len.len-index c.args.hasher.now c.loop-len.hasher (omega (arith, c.loop-len-test.false)) (λ s shown. c.deref-len-items.ensures.value ∙ c.in_ok-list.ensures.list s shown.holds) c.loop-len.invariant.hashed
