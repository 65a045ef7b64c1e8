-- Each file that is full is followed by the next one.
use Rattle.std.proofs.Common.{◌+◌, subst, arith}
use Rattle.vault.proofs.Changed.{changes_on}
use Rattle.rel_files.specs.Forks.{IsForkPath}
use Rattle.chain_files.specs.Told.{chain_told}
use Rattle.chain_files.proofs.Told.{reads_refl, reads_trans, reads_told}
use Rattle.backup_restore.specs.Inside.{CopyCause, PutsSegment, area_shows}
use Rattle.backup_restore.proofs.Chains.{cause_on, err_cause}
use Rattle.backup_restore.proofs.ForkCopies.{fork_begun, fork_grown, sum_fits, fork_ended}
use Rattle.backup_restore.proofs.copying.copy_fork.Goals as goal

pub loop-count-init : goal.loop-count-init
loop-count-init g c = (
  c.make_fork.new.out,
  c.in_ok-make_fork.ensures.made c.args.relseg (omega (arith, c.requires.range.least)),
  fork_begun (area_shows g.V.Vault c.args.relseg) c.args.relseg (chain_told g.V.Vault c.args.areas.now c.args.places.now) c.args.fork.now c.make_fork.new.out c.copy_segment.new.out c.in_ok-count.count c.in_ok-count.ensures.put,
  c.in_ok-count.ensures.reads,
  changes_on g.V.Vault IsForkPath c.args.out.now c.make_fork.new.out c.copy_segment.new.out c.in_ok-make_fork.ensures.kept c.in_ok-count.ensures.kept,
  omega (arith, c.in_ok-make_fork.ensures.later, c.in_ok-count.ensures.later),
)

pub overflow_add-all : goal.overflow_add-all
overflow_add-all g c =
    let puts = subst (λ f. PutsSegment (area_shows g.V.Vault c.args.relseg) c.args.relseg f c.args.fork.now (c.loop-count.seg + 1) c.loop-count.all c.loop-count.out c.copy_segment-in-loop-count.new.out c.in_ok-count-2.count) (reads_told g.V.Vault c.args.areas.now c.loop-count.areas c.loop-count.invariant.3 c.args.places.now) c.in_ok-count-2.ensures.put in
    let sum = sum_fits (area_shows g.V.Vault c.args.relseg) c.args.relseg (chain_told g.V.Vault c.args.areas.now c.args.places.now) c.args.fork.now c.loop-count.invariant.0 c.loop-count.out c.copy_segment-in-loop-count.new.out c.loop-count.seg c.loop-count.count c.loop-count.all c.in_ok-count-2.count c.loop-count.invariant.2 puts in
    omega (arith, sum)

pub loop-count-preserved : goal.loop-count-preserved
loop-count-preserved g c =
    let puts = subst (λ f. PutsSegment (area_shows g.V.Vault c.args.relseg) c.args.relseg f c.args.fork.now (c.loop-count.seg + 1) c.loop-count.all c.loop-count.out c.copy_segment-in-loop-count.new.out c.in_ok-count-2.count) (reads_told g.V.Vault c.args.areas.now c.loop-count.areas c.loop-count.invariant.3 c.args.places.now) c.in_ok-count-2.ensures.put in (
      c.loop-count.invariant.0,
      c.loop-count.invariant.1,
      fork_grown (area_shows g.V.Vault c.args.relseg) c.args.relseg (chain_told g.V.Vault c.args.areas.now c.args.places.now) c.args.fork.now c.loop-count.invariant.0 c.loop-count.out c.copy_segment-in-loop-count.new.out c.loop-count.seg c.loop-count.count c.loop-count.all c.in_ok-count-2.count
          (omega (arith, c.requires.range.least)) c.loop-count-test.true c.loop-count.invariant.2 puts,
      reads_trans g.V.Vault c.args.areas.now c.loop-count.areas c.copy_segment-in-loop-count.new.areas c.loop-count.invariant.3 c.in_ok-count-2.ensures.reads,
      changes_on g.V.Vault IsForkPath c.args.out.now c.loop-count.out c.copy_segment-in-loop-count.new.out c.loop-count.invariant.4 c.in_ok-count-2.ensures.kept,
      omega (arith, c.loop-count.invariant.5, c.in_ok-count-2.ensures.later),
    )

pub returns-clause-put : goal.returns-clause-put
returns-clause-put g c =
    fork_ended (area_shows g.V.Vault c.args.relseg) c.args.relseg (chain_told g.V.Vault c.args.areas.now c.args.places.now) c.args.fork.now c.args.out.now c.loop-count.invariant.0 c.loop-count.out c.loop-count.seg c.loop-count.count c.loop-count.all c.loop-count.invariant.1 c.loop-count-test.false c.loop-count.invariant.2

pub returns-in_err-count-clause-kept : goal.returns-in_err-count-clause-kept
returns-in_err-count-clause-kept g c = changes_on g.V.Vault IsForkPath c.args.out.now c.make_fork.new.out c.copy_segment.new.out c.in_ok-make_fork.ensures.kept c.in_err-count.ensures.kept

pub returns-in_err-count-2-clause-kept : goal.returns-in_err-count-2-clause-kept
returns-in_err-count-2-clause-kept g c = changes_on g.V.Vault IsForkPath c.args.out.now c.loop-count.out c.copy_segment-in-loop-count.new.out c.loop-count.invariant.4 c.in_err-count-2.ensures.kept

pub returns-in_err-make_fork-clause-reads : goal.returns-in_err-make_fork-clause-reads
returns-in_err-make_fork-clause-reads g c = reads_refl g.V.Vault c.args.areas.now

pub returns-in_err-count-2-clause-reads : goal.returns-in_err-count-2-clause-reads
returns-in_err-count-2-clause-reads g c = reads_trans g.V.Vault c.args.areas.now c.loop-count.areas c.copy_segment-in-loop-count.new.areas c.loop-count.invariant.3 c.in_err-count-2.ensures.reads

pub returns-in_err-count-2-clause-cause : goal.returns-in_err-count-2-clause-cause
returns-in_err-count-2-clause-cause g c =
    let now = c.copy_segment-in-loop-count.new.areas in
    let left = g.V.Vault.faults c.copy_segment-in-loop-count.new.out in
    err_cause c.from_residual-in_err-count-2.result c.in_err-count-2.field-0.0 (CopyCause g.V.Vault c.args.areas.now now (g.V.Vault.faults c.args.out.now) left) c.from_residual-in_err-count-2.ensures.1
    (cause_on g.V.Vault c.args.areas.now c.loop-count.areas now now (g.V.Vault.faults c.args.out.now) (g.V.Vault.faults c.loop-count.out) left left c.in_err-count-2.field-0.0
    c.loop-count.invariant.3 (reads_refl g.V.Vault now) c.loop-count.invariant.5 (omega arith) c.in_err-count-2.ensures.cause)
