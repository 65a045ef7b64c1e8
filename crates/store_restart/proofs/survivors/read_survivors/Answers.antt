-- Each entry that the cursor gives is one more survivor, and may name a redo point.
use Rattle.std.proofs.Common.{false, [], ◌∷◌, ◌++◌, Option, Ok, ap, subst, ◌∙◌}
use Rattle.lsn_core.specs.Segment.{IsSegmentMib}
use Rattle.lsn_core.specs.Tip.{Tip}
use Rattle.wal_record.specs.declared.record.Record.{Record}
use Rattle.store_restart.specs.Inside.{StepsOn}
use Rattle.store_restart.proofs.Survived.{none_survived, one_survived, none_named, named_later}
use Rattle.store_restart.proofs.survivors.read_survivors.Goals as goal

pub loop-entry-init : goal.loop-entry-init
loop-entry-init g c =
    ([], (none_survived g.V.Vault c.args.settings.now c.args.wal.now c.first-cursor.result (subst IsSegmentMib c.segment-size.ensures.value c.segment-size.ensures.range) c.first-cursor.ensures, none_named false))

pub loop-entry-preserved-in-Some : goal.loop-entry-preserved-in-Some
loop-entry-preserved-in-Some g c = (
  c.loop-entry.invariant.0 ++ (c.in-Some.entry ∷ []),
  (
    one_survived g.V.Vault c.args.settings.now c.args.wal.now c.loop-entry.wal c.next_survivor.new.wal c.loop-entry.cursor c.next_survivor.new.cursor c.loop-entry.invariant.0 c.in-Some.entry c.loop-entry.invariant.1.0
        (subst (λ (o : Option Record). StepsOn g.V.Vault c.loop-entry.cursor c.next_survivor.new.cursor c.loop-entry.wal c.next_survivor.new.wal (Ok o)) c.in-Some.is c.in_ok-entry.ensures.answer) c.in_ok-entry.ensures.reads,
    named_later g.V.Vault c.args.settings.now c.args.wal.now c.loop-entry.wal c.next_survivor.new.wal c.loop-entry.cursor c.next_survivor.new.cursor c.loop-entry.invariant.0 c.in-Some.entry c.tip-in-Some.inside.redo.0 c.loop-entry.named c.with-named.result c.loop-entry.invariant.1.0
        (subst (λ (o : Option Record). StepsOn g.V.Vault c.loop-entry.cursor c.next_survivor.new.cursor c.loop-entry.wal c.next_survivor.new.wal (Ok o)) c.in-Some.is c.in_ok-entry.ensures.answer) c.loop-entry.invariant.1.1
        (ap (λ (t : Tip). t.redo) (c.tip-in-Some.view_is ∙ c.tip.ensures.tip)) c.with-named.ensures,
  ),
)

pub loop-entry-preserved-in-Some-2 : goal.loop-entry-preserved-in-Some-2
loop-entry-preserved-in-Some-2 g c = (
  c.loop-entry.invariant.0 ++ (c.in-Some.entry ∷ []),
  (
    one_survived g.V.Vault c.args.settings.now c.args.wal.now c.loop-entry.wal c.next_survivor.new.wal c.loop-entry.cursor c.next_survivor.new.cursor c.loop-entry.invariant.0 c.in-Some.entry c.loop-entry.invariant.1.0
        (subst (λ (o : Option Record). StepsOn g.V.Vault c.loop-entry.cursor c.next_survivor.new.cursor c.loop-entry.wal c.next_survivor.new.wal (Ok o)) c.in-Some.is c.in_ok-entry.ensures.answer) c.in_ok-entry.ensures.reads,
    named_later g.V.Vault c.args.settings.now c.args.wal.now c.loop-entry.wal c.next_survivor.new.wal c.loop-entry.cursor c.next_survivor.new.cursor c.loop-entry.invariant.0 c.in-Some.entry c.tip-in-Some.inside.redo.0 c.loop-entry.named c.with-named.result c.loop-entry.invariant.1.0
        (subst (λ (o : Option Record). StepsOn g.V.Vault c.loop-entry.cursor c.next_survivor.new.cursor c.loop-entry.wal c.next_survivor.new.wal (Ok o)) c.in-Some.is c.in_ok-entry.ensures.answer) c.loop-entry.invariant.1.1
        (ap (λ (t : Tip). t.redo) (c.tip-in-Some.view_is ∙ c.tip.ensures.tip)) c.with-named.ensures,
  ),
)

pub loop-entry-preserved-in-Some-3 : goal.loop-entry-preserved-in-Some-3
loop-entry-preserved-in-Some-3 g c = (
  c.loop-entry.invariant.0 ++ (c.in-Some.entry ∷ []),
  (
    one_survived g.V.Vault c.args.settings.now c.args.wal.now c.loop-entry.wal c.next_survivor.new.wal c.loop-entry.cursor c.next_survivor.new.cursor c.loop-entry.invariant.0 c.in-Some.entry c.loop-entry.invariant.1.0
        (subst (λ (o : Option Record). StepsOn g.V.Vault c.loop-entry.cursor c.next_survivor.new.cursor c.loop-entry.wal c.next_survivor.new.wal (Ok o)) c.in-Some.is c.in_ok-entry.ensures.answer) c.in_ok-entry.ensures.reads,
    named_later g.V.Vault c.args.settings.now c.args.wal.now c.loop-entry.wal c.next_survivor.new.wal c.loop-entry.cursor c.next_survivor.new.cursor c.loop-entry.invariant.0 c.in-Some.entry c.tip-in-Some.inside.redo.0 c.loop-entry.named c.with-named.result c.loop-entry.invariant.1.0
        (subst (λ (o : Option Record). StepsOn g.V.Vault c.loop-entry.cursor c.next_survivor.new.cursor c.loop-entry.wal c.next_survivor.new.wal (Ok o)) c.in-Some.is c.in_ok-entry.ensures.answer) c.loop-entry.invariant.1.1
        (ap (λ (t : Tip). t.redo) (c.tip-in-Some.view_is ∙ c.tip.ensures.tip)) c.with-named.ensures,
  ),
)

pub loop-entry-preserved : goal.loop-entry-preserved
loop-entry-preserved g c = (
  c.loop-entry.invariant.0 ++ (c.in-Some.entry ∷ []),
  (
    one_survived g.V.Vault c.args.settings.now c.args.wal.now c.loop-entry.wal c.next_survivor.new.wal c.loop-entry.cursor c.next_survivor.new.cursor c.loop-entry.invariant.0 c.in-Some.entry c.loop-entry.invariant.1.0
        (subst (λ (o : Option Record). StepsOn g.V.Vault c.loop-entry.cursor c.next_survivor.new.cursor c.loop-entry.wal c.next_survivor.new.wal (Ok o)) c.in-Some.is c.in_ok-entry.ensures.answer) c.in_ok-entry.ensures.reads,
    named_later g.V.Vault c.args.settings.now c.args.wal.now c.loop-entry.wal c.next_survivor.new.wal c.loop-entry.cursor c.next_survivor.new.cursor c.loop-entry.invariant.0 c.in-Some.entry c.tip-in-Some.inside.redo.0 c.loop-entry.named c.with-named.result c.loop-entry.invariant.1.0
        (subst (λ (o : Option Record). StepsOn g.V.Vault c.loop-entry.cursor c.next_survivor.new.cursor c.loop-entry.wal c.next_survivor.new.wal (Ok o)) c.in-Some.is c.in_ok-entry.ensures.answer) c.loop-entry.invariant.1.1
        (ap (λ (t : Tip). t.redo) (c.tip-in-Some.view_is ∙ c.tip.ensures.tip)) c.with-named.ensures,
  ),
)
