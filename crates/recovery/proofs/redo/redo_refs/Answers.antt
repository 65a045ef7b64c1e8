-- One block reference behind the other.
use Rattle.std.proofs.Common.{List, length, ◌<◌, subst, arith}
use Rattle.wal_record.specs.declared.record.BlockRef.{BlockRef}
use Rattle.generic_redo.specs.declared.fault.RedoFault.TheVariants.{BadDelta}
use Rattle.recovery.proofs.Redoing.{fault_again, nothing_redone, is_ref, all_refs, one_more_ref, bad_ref}
use Rattle.recovery.proofs.redo.redo_refs.Goals as goal

pub loop-i-init : goal.loop-i-init
loop-i-init g c = record {
  redone = nothing_redone g.P.Pages.shows c.args.target.now c.args.tally.now;
  kept = g.met.P.Pages.keeps_refl c.args.target.now;
  later = omega arith;
}

pub redo_ref-requires-clause-block : goal.redo_ref-requires-clause-block
redo_ref-requires-clause-block g c = is_ref c.args.entry.now c.args.blocks.now c.loop-i.i c.index-blocks-i.result c.requires.blocks c.loop-i-test.true

pub returns-in_err-redo_ref-clause-bad : goal.returns-in_err-redo_ref-clause-bad
returns-in_err-redo_ref-clause-bad g c = λ bad.
    bad_ref g.P.Pages.shows c.args.target.now c.loop-i.target c.args.tally.now c.loop-i.tally c.args.entry.now c.args.blocks.now c.loop-i.i c.loop-i-test.true c.requires.blocks c.loop-i.invariant.redone
    (c.in_err-redo_ref.ensures.bad (fault_again c.from_residual.result c.in_err-redo_ref.field-0.0 BadDelta c.from_residual.ensures.1 bad))

pub loop-i-preserved : goal.loop-i-preserved
loop-i-preserved g c = record {
  redone = one_more_ref g.P.Pages.shows c.args.target.now c.loop-i.target c.redo_ref.new.target c.args.tally.now c.loop-i.tally c.redo_ref.new.tally c.args.entry.now c.loop-i.i
      (subst (λ (bs : List BlockRef). c.loop-i.i < length bs) c.requires.blocks.blocks_are c.loop-i-test.true) c.loop-i.invariant.redone c.in_ok-redo_ref.ensures.done;
  kept = g.met.P.Pages.keeps_trans c.args.target.now c.loop-i.target c.redo_ref.new.target c.loop-i.invariant.kept c.in_ok-redo_ref.ensures.kept;
  later = omega (arith, c.loop-i.invariant.later, c.in_ok-redo_ref.ensures.cause.later);
}

pub returns-clause-done : goal.returns-clause-done
returns-clause-done g c =
    all_refs g.P.Pages.shows c.args.target.now c.loop-i.target c.args.tally.now c.loop-i.tally c.args.entry.now c.args.blocks.now c.loop-i.i (omega (arith, c.loop-i-test.false, c.loop-i.auto.i-end)) c.requires.blocks c.loop-i.invariant.redone
