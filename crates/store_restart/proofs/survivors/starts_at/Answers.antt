-- Each entry that the cursor gives is one more survivor.
use Rattle.std.proofs.Common.{[], ◌∷◌, ◌++◌, Option, Ok, refl, subst, ◌∙◌}
use Rattle.lsn_core.specs.Segment.{IsSegmentMib}
use Rattle.wal_record.specs.declared.record.Record.{Record}
use Rattle.store_restart.specs.Inside.{StepsOn}
use Rattle.store_restart.proofs.Survived.{none_survived, one_survived, start_before, start_here}
use Rattle.store_restart.proofs.survivors.starts_at.Goals as goal
use Rattle.store_restart.proofs.survivors.starts_at.Goals.{then-there, else-there}

pub loop-entry-init : goal.loop-entry-init
loop-entry-init g c =
    ([], (none_survived g.V.Vault c.args.settings.now c.args.wal.now c.first-cursor.result (subst IsSegmentMib c.segment-size.ensures.value c.segment-size.ensures.range) c.first-cursor.ensures, refl))

pub loop-entry-preserved-after-there : goal.loop-entry-preserved-after-there
loop-entry-preserved-after-there g c = (
  c.loop-entry.invariant.0 ++ (c.in-Some.entry ∷ []),
  (
    one_survived g.V.Vault c.args.settings.now c.args.wal.now c.loop-entry.wal c.next_survivor.new.wal c.loop-entry.cursor c.next_survivor.new.cursor c.loop-entry.invariant.0 c.in-Some.entry c.loop-entry.invariant.1.0
        (subst (λ (o : Option Record). StepsOn g.V.Vault c.loop-entry.cursor c.next_survivor.new.cursor c.loop-entry.wal c.next_survivor.new.wal (Ok o)) c.in-Some.is c.in_ok-entry.ensures.answer) c.in_ok-entry.ensures.reads,
    elim c.if-there.branch [
      | then-there w ↦ start_before c.loop-entry.there c.if-there.there c.loop-entry.invariant.0 c.in-Some.entry c.args.place.0 c.loop-entry.invariant.1.1 w.if-there.true (w.there-is ∙ w.if-there.true)
      | else-there w ↦ start_here c.loop-entry.there c.if-there.there c.loop-entry.invariant.0 c.in-Some.entry c.args.place.0 c.loop-entry.invariant.1.1 w.if-there.false w.there-is
    ],
  ),
)

pub loop-entry-preserved-after-there-2 : goal.loop-entry-preserved-after-there-2
loop-entry-preserved-after-there-2 g c = (
  c.loop-entry.invariant.0 ++ (c.in-Some.entry ∷ []),
  (
    one_survived g.V.Vault c.args.settings.now c.args.wal.now c.loop-entry.wal c.next_survivor.new.wal c.loop-entry.cursor c.next_survivor.new.cursor c.loop-entry.invariant.0 c.in-Some.entry c.loop-entry.invariant.1.0
        (subst (λ (o : Option Record). StepsOn g.V.Vault c.loop-entry.cursor c.next_survivor.new.cursor c.loop-entry.wal c.next_survivor.new.wal (Ok o)) c.in-Some.is c.in_ok-entry.ensures.answer) c.in_ok-entry.ensures.reads,
    elim c.if-there.branch [
      | then-there w ↦ start_before c.loop-entry.there c.if-there.there c.loop-entry.invariant.0 c.in-Some.entry c.args.place.0 c.loop-entry.invariant.1.1 w.if-there.true (w.there-is ∙ w.if-there.true)
      | else-there w ↦ start_here c.loop-entry.there c.if-there.there c.loop-entry.invariant.0 c.in-Some.entry c.args.place.0 c.loop-entry.invariant.1.1 w.if-there.false w.there-is
    ],
  ),
)

pub loop-entry-preserved-after-there-3 : goal.loop-entry-preserved-after-there-3
loop-entry-preserved-after-there-3 g c = (
  c.loop-entry.invariant.0 ++ (c.in-Some.entry ∷ []),
  (
    one_survived g.V.Vault c.args.settings.now c.args.wal.now c.loop-entry.wal c.next_survivor.new.wal c.loop-entry.cursor c.next_survivor.new.cursor c.loop-entry.invariant.0 c.in-Some.entry c.loop-entry.invariant.1.0
        (subst (λ (o : Option Record). StepsOn g.V.Vault c.loop-entry.cursor c.next_survivor.new.cursor c.loop-entry.wal c.next_survivor.new.wal (Ok o)) c.in-Some.is c.in_ok-entry.ensures.answer) c.in_ok-entry.ensures.reads,
    elim c.if-there.branch [
      | then-there w ↦ start_before c.loop-entry.there c.if-there.there c.loop-entry.invariant.0 c.in-Some.entry c.args.place.0 c.loop-entry.invariant.1.1 w.if-there.true (w.there-is ∙ w.if-there.true)
      | else-there w ↦ start_here c.loop-entry.there c.if-there.there c.loop-entry.invariant.0 c.in-Some.entry c.args.place.0 c.loop-entry.invariant.1.1 w.if-there.false w.there-is
    ],
  ),
)

pub loop-entry-preserved : goal.loop-entry-preserved
loop-entry-preserved g c = (
  c.loop-entry.invariant.0 ++ (c.in-Some.entry ∷ []),
  (
    one_survived g.V.Vault c.args.settings.now c.args.wal.now c.loop-entry.wal c.next_survivor.new.wal c.loop-entry.cursor c.next_survivor.new.cursor c.loop-entry.invariant.0 c.in-Some.entry c.loop-entry.invariant.1.0
        (subst (λ (o : Option Record). StepsOn g.V.Vault c.loop-entry.cursor c.next_survivor.new.cursor c.loop-entry.wal c.next_survivor.new.wal (Ok o)) c.in-Some.is c.in_ok-entry.ensures.answer) c.in_ok-entry.ensures.reads,
    elim c.if-there.branch [
      | then-there w ↦ start_before c.loop-entry.there c.if-there.there c.loop-entry.invariant.0 c.in-Some.entry c.args.place.0 c.loop-entry.invariant.1.1 w.if-there.true (w.there-is ∙ w.if-there.true)
      | else-there w ↦ start_here c.loop-entry.there c.if-there.there c.loop-entry.invariant.0 c.in-Some.entry c.args.place.0 c.loop-entry.invariant.1.1 w.if-there.false w.there-is
    ],
  ),
)
