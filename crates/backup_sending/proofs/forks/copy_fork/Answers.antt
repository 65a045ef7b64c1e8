use Rattle.std.proofs.Common.{◌≡◌, true, arith}
use Rattle.backup_sending.specs.Backup.{site_of}
use Rattle.backup_sending.proofs.Copying.{copies_nothing, step_failed}
use Rattle.backup_sending.proofs.Steps.{copies_on, redo_on}
use Rattle.backup_sending.proofs.Segments.{fork_begun, fork_further, fork_put, named_at, next_missing}
use Rattle.backup_sending.proofs.forks.copy_fork.Goals as goal

pub loop-seg-init : goal.loop-seg-init
loop-seg-init g c = record {
  within = omega arith;
  step = copies_nothing g.V.Vault c.args.pass.now c.args.out.now;
  far = fork_begun (g.J.OfStore.tells ≡ true) c.args.pass.now.list c.args.from.0 c.args.relseg c.args.fork.now c.args.modified.now (g.V.Vault.files c.args.out.now) c.args.rows.now.items;
}

pub copy_segment-requires-clause-redo : goal.copy_segment-requires-clause-redo
copy_segment-requires-clause-redo g c = λ κs lives. redo_on c.args.pass.now c.loop-seg.pass c.args.from.0 c.loop-seg.invariant.step.looks c.requires.redo

pub copy_segment-requires-clause-missing : goal.copy_segment-requires-clause-missing
copy_segment-requires-clause-missing g c = λ κs lives.
    next_missing c.args.fork.now.fork c.args.relseg c.loop-seg.seg c.loop-seg.invariant.far.pages (g.V.Vault.files c.args.out.now) (g.V.Vault.files c.loop-seg.out) (named_at c.args.fork.now.fork c.args.fork.now.blocks c.loop-seg.seg c.know_fork.ensures (omega arith))
    c.requires.missing c.loop-seg.invariant.far.puts.stand

pub loop-seg-preserved : goal.loop-seg-preserved
loop-seg-preserved g c = record {
  within = omega arith;
  step = copies_on g.V.Vault (site_of c.args.pass.now c.args.out.now) (site_of c.loop-seg.pass c.loop-seg.out) (site_of c.copy_segment.new.pass c.copy_segment.new.out) c.loop-seg.invariant.step
      c.copy_segment.ensures.copies_on;
  far = fork_further (g.J.OfStore.tells ≡ true) c.loop-seg.pass.list c.copy_segment.new.pass.list c.args.from.0 c.args.relseg c.args.fork.now c.loop-seg.seg c.args.modified.now (g.V.Vault.files c.args.out.now) (g.V.Vault.files c.loop-seg.out)
      (g.V.Vault.files c.copy_segment.new.out) c.args.rows.now.items c.loop-seg.rows.items c.copy_segment.new.rows.items (omega arith) (omega (arith, c.segment_count-count.ensures)) c.copy_segment.ensures.copies_on.looks.stays.seen c.loop-seg.invariant.far c.in_ok-copy_segment.ensures.put;
}

pub returns-in_err-copy_segment-clause-copies_on : goal.returns-in_err-copy_segment-clause-copies_on
returns-in_err-copy_segment-clause-copies_on g c =
    copies_on g.V.Vault (site_of c.args.pass.now c.args.out.now) (site_of c.loop-seg.pass c.loop-seg.out) (site_of c.copy_segment.new.pass c.copy_segment.new.out) c.loop-seg.invariant.step
    c.copy_segment.ensures.copies_on

pub returns-in_err-copy_segment-clause-cause : goal.returns-in_err-copy_segment-clause-cause
returns-in_err-copy_segment-clause-cause g c =
    step_failed g.V.Vault (site_of c.args.pass.now c.args.out.now) (site_of c.loop-seg.pass c.loop-seg.out) (site_of c.copy_segment.new.pass c.copy_segment.new.out) c.from_residual.result
    c.in_err-copy_segment.field-0.0 c.loop-seg.invariant.step c.from_residual.ensures.1 c.in_err-copy_segment.ensures.cause

pub returns-clause-put : goal.returns-clause-put
returns-clause-put g c =
    fork_put (g.J.OfStore.tells ≡ true) c.loop-seg.pass.list c.args.from.0 c.args.relseg c.args.fork.now c.segment_count-count.result c.loop-seg.seg c.args.modified.now (g.V.Vault.files c.args.out.now) (g.V.Vault.files c.loop-seg.out) c.args.rows.now.items
    c.loop-seg.rows.items (omega arith) c.know_fork.ensures c.segment_count-count.ensures (omega arith) c.loop-seg.invariant.far
