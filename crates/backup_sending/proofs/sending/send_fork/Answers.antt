use Rattle.std.proofs.Common.{◌≡◌, ℕ, true, false, ap, arith, ◌∙◌}
use Rattle.lsn_core.specs.Store.{segment_count}
use Rattle.backup_sending.specs.Backup.{site_of}
use Rattle.backup_sending.proofs.Copying.{copies_nothing, step_failed}
use Rattle.backup_sending.proofs.Steps.{copies_on, redo_on}
use Rattle.backup_sending.proofs.Segments.{named_at}
use Rattle.backup_sending.proofs.SentFiles.{fork_begun, fork_further, fork_sent, next_missing}
use Rattle.backup_sending.proofs.sending.send_fork.Goals as goal

pub loop-seg-init : goal.loop-seg-init
loop-seg-init g c = record {
  within = omega arith;
  step = copies_nothing g.V.Vault c.args.pass.now c.args.out.now;
  far = fork_begun (g.J.OfStore.tells ≡ true) c.args.pass.now.list c.args.from.0 c.args.basis.now c.args.fork.now c.args.modified.now (g.V.Vault.files c.args.out.now) c.args.rows.now.items;
}

pub send_segment-requires-clause-redo : goal.send_segment-requires-clause-redo
send_segment-requires-clause-redo g c = λ κs lives. redo_on c.args.pass.now c.loop-seg.pass c.args.from.0 c.loop-seg.invariant.step.looks c.requires.redo

pub send_segment-requires-clause-plain : goal.send_segment-requires-clause-plain
send_segment-requires-clause-plain g c = λ κs lives.
    next_missing (g.J.OfStore.tells ≡ true) c.loop-seg.pass.list c.args.from.0 c.args.basis.now c.args.fork.now c.loop-seg.seg false c.args.modified.now (g.V.Vault.files c.args.out.now) (g.V.Vault.files c.loop-seg.out) c.args.rows.now.items c.loop-seg.rows.items
    (named_at c.args.fork.now.fork c.args.fork.now.blocks c.loop-seg.seg c.know_fork.ensures (omega arith)) c.requires.missing c.loop-seg.invariant.far

pub send_segment-requires-clause-part : goal.send_segment-requires-clause-part
send_segment-requires-clause-part g c = λ κs lives.
    next_missing (g.J.OfStore.tells ≡ true) c.loop-seg.pass.list c.args.from.0 c.args.basis.now c.args.fork.now c.loop-seg.seg true c.args.modified.now (g.V.Vault.files c.args.out.now) (g.V.Vault.files c.loop-seg.out) c.args.rows.now.items c.loop-seg.rows.items
    (named_at c.args.fork.now.fork c.args.fork.now.blocks c.loop-seg.seg c.know_fork.ensures (omega arith)) c.requires.missing c.loop-seg.invariant.far

pub loop-seg-preserved : goal.loop-seg-preserved
loop-seg-preserved g c = record {
  within = omega arith;
  step = copies_on g.V.Vault (site_of c.args.pass.now c.args.out.now) (site_of c.loop-seg.pass c.loop-seg.out) (site_of c.send_segment.new.pass c.send_segment.new.out) c.loop-seg.invariant.step
      c.send_segment.ensures.copies_on;
  far = fork_further (g.J.OfStore.tells ≡ true) c.loop-seg.pass.list c.send_segment.new.pass.list c.args.from.0 c.args.basis.now c.args.fork.now c.loop-seg.seg c.args.modified.now (g.V.Vault.files c.args.out.now) (g.V.Vault.files c.loop-seg.out) (g.V.Vault.files c.send_segment.new.out)
      c.args.rows.now.items c.loop-seg.rows.items c.send_segment.new.rows.items c.send_segment.ensures.copies_on.looks.stays.seen c.loop-seg.invariant.far c.in_ok-send_segment.ensures.sent;
}

pub returns-in_err-send_segment-clause-copies_on : goal.returns-in_err-send_segment-clause-copies_on
returns-in_err-send_segment-clause-copies_on g c =
    copies_on g.V.Vault (site_of c.args.pass.now c.args.out.now) (site_of c.loop-seg.pass c.loop-seg.out) (site_of c.send_segment.new.pass c.send_segment.new.out) c.loop-seg.invariant.step
    c.send_segment.ensures.copies_on

pub returns-in_err-send_segment-clause-cause : goal.returns-in_err-send_segment-clause-cause
returns-in_err-send_segment-clause-cause g c =
    step_failed g.V.Vault (site_of c.args.pass.now c.args.out.now) (site_of c.loop-seg.pass c.loop-seg.out) (site_of c.send_segment.new.pass c.send_segment.new.out) c.from_residual.result
    c.in_err-send_segment.field-0.0 c.loop-seg.invariant.step c.from_residual.ensures.1 c.in_err-send_segment.ensures.cause

pub returns-clause-sent : goal.returns-clause-sent
returns-clause-sent g c =
    let all : c.loop-seg.seg ≡ c.segment_count-count.result = omega arith in
    fork_sent (g.J.OfStore.tells ≡ true) c.loop-seg.pass.list c.args.from.0 c.args.basis.now c.args.fork.now c.loop-seg.seg c.args.modified.now (g.V.Vault.files c.args.out.now) (g.V.Vault.files c.loop-seg.out) c.args.rows.now.items c.loop-seg.rows.items (all ∙ (c.segment_count-count.ensures ∙ ap (λ (n : ℕ). segment_count n c.args.fork.now.blocks) c.relseg.ensures))
    c.loop-seg.invariant.far
