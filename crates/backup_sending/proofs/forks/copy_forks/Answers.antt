use Rattle.std.proofs.Common.{◌≡◌, true, arith}
use Rattle.backup_sending.specs.Backup.{site_of}
use Rattle.backup_files.proofs.Passed.{no_items}
use Rattle.backup_sending.proofs.Copying.{copies_nothing, step_failed}
use Rattle.backup_sending.proofs.Steps.{copies_on, redo_on}
use Rattle.backup_sending.proofs.Stores.{next_fork, store_begun, store_further, store_put}
use Rattle.backup_sending.proofs.forks.copy_forks.Goals as goal

pub loop-fork-init : goal.loop-fork-init
loop-fork-init g c = record {
  step = copies_nothing g.V.Vault c.args.pass.now c.args.out.now;
  far = store_begun (g.J.OfStore.tells ≡ true) c.args.pass.now.list c.args.from.0 c.args.relseg c.args.forks.now c.args.modified.now (g.V.Vault.files c.args.out.now) c.new-rows.result.items c.new-rows.ensures.items;
}

pub copy_fork-requires-clause-redo : goal.copy_fork-requires-clause-redo
copy_fork-requires-clause-redo g c = λ κs lives. redo_on c.args.pass.now c.loop-fork.pass c.args.from.0 c.loop-fork.invariant.step.looks c.requires.redo

pub copy_fork-requires-clause-missing : goal.copy_fork-requires-clause-missing
copy_fork-requires-clause-missing g c = λ κs lives.
    next_fork (g.J.OfStore.tells ≡ true) c.loop-fork.pass.list c.args.from.0 c.args.relseg c.args.forks.now c.loop-fork.left.now c.in-Some.behind.now c.in-Some.fork.now c.args.modified.now (g.V.Vault.files c.args.out.now) (g.V.Vault.files c.loop-fork.out)
    c.loop-fork.rows.items (omega arith) c.requires.order c.requires.empty c.in-Some.ensures.cases.0 c.loop-fork.invariant.far

pub loop-fork-preserved : goal.loop-fork-preserved
loop-fork-preserved g c = record {
  step = copies_on g.V.Vault (site_of c.args.pass.now c.args.out.now) (site_of c.loop-fork.pass c.loop-fork.out) (site_of c.copy_fork.new.pass c.copy_fork.new.out) c.loop-fork.invariant.step
      c.copy_fork.ensures.copies_on;
  far = store_further (g.J.OfStore.tells ≡ true) c.loop-fork.pass.list c.copy_fork.new.pass.list c.args.from.0 c.args.relseg c.args.forks.now c.loop-fork.left.now c.in-Some.behind.now c.in-Some.fork.now c.args.modified.now (g.V.Vault.files c.args.out.now)
      (g.V.Vault.files c.loop-fork.out) (g.V.Vault.files c.copy_fork.new.out) c.loop-fork.rows.items c.copy_fork.new.rows.items c.in-Some.ensures.cases.0 c.copy_fork.ensures.copies_on.looks.stays.seen c.loop-fork.invariant.far c.in_ok-copy_fork.ensures.put;
}

pub returns-in_err-copy_fork-clause-copies_on : goal.returns-in_err-copy_fork-clause-copies_on
returns-in_err-copy_fork-clause-copies_on g c =
    copies_on g.V.Vault (site_of c.args.pass.now c.args.out.now) (site_of c.loop-fork.pass c.loop-fork.out) (site_of c.copy_fork.new.pass c.copy_fork.new.out) c.loop-fork.invariant.step
    c.copy_fork.ensures.copies_on

pub returns-in_err-copy_fork-clause-cause : goal.returns-in_err-copy_fork-clause-cause
returns-in_err-copy_fork-clause-cause g c =
    step_failed g.V.Vault (site_of c.args.pass.now c.args.out.now) (site_of c.loop-fork.pass c.loop-fork.out) (site_of c.copy_fork.new.pass c.copy_fork.new.out) c.from_residual.result
    c.in_err-copy_fork.field-0.0 c.loop-fork.invariant.step c.from_residual.ensures.1 c.in_err-copy_fork.ensures.cause

pub returns-clause-put : goal.returns-clause-put
returns-clause-put g c =
    store_put (g.J.OfStore.tells ≡ true) c.loop-fork.pass.list c.args.from.0 c.args.relseg c.args.forks.now c.loop-fork.left.now c.args.modified.now (g.V.Vault.files c.args.out.now) (g.V.Vault.files c.loop-fork.out) c.loop-fork.rows.items c.requires.order
    (no_items c.loop-fork.left.now c.in_default.ensures.cases) c.loop-fork.invariant.far
