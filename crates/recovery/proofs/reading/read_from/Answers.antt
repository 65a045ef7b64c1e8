-- Each answer of the cursor carries on what was read so far.
use Rattle.std.proofs.Common.{◌∷◌, [], ◌++◌, subst}
use Rattle.lsn_core.specs.Segment.{IsSegmentMib}
use Rattle.recovery.proofs.Stepping.{nothing_read, next_read}
use Rattle.recovery.proofs.reading.read_from.Goals as goal

pub loop-entry-init : goal.loop-entry-init
loop-entry-init g c =
    ([], nothing_read g.V.Vault c.args.settings.now c.args.begin c.args.upto c.args.wal.now c.cursor-cursor.result (subst IsSegmentMib c.segment-size.ensures.value c.segment-size.ensures.range) c.cursor-cursor.ensures)

pub loop-entry-preserved-in-Some : goal.loop-entry-preserved-in-Some
loop-entry-preserved-in-Some g c = (
  c.loop-entry.invariant.0 ++ (c.in-Some._entry ∷ []),
  next_read g.V.Vault c.args.settings.now c.args.begin c.args.upto c.args.wal.now c.loop-entry.wal c.next_to.new.wal c.loop-entry.cursor c.next_to.new.cursor c.loop-entry.invariant.0 c.in-Some._entry c.loop-entry.invariant.1
      (rw (← c.segment-size.ensures.value, ← c.in-Some.is) c.in_ok-_entry.ensures.answer) c.in_ok-_entry.ensures.reads,
)

pub loop-entry-preserved-in-Some-2 : goal.loop-entry-preserved-in-Some-2
loop-entry-preserved-in-Some-2 g c = (
  c.loop-entry.invariant.0 ++ (c.in-Some._entry ∷ []),
  next_read g.V.Vault c.args.settings.now c.args.begin c.args.upto c.args.wal.now c.loop-entry.wal c.next_to.new.wal c.loop-entry.cursor c.next_to.new.cursor c.loop-entry.invariant.0 c.in-Some._entry c.loop-entry.invariant.1
      (rw (← c.segment-size.ensures.value, ← c.in-Some.is) c.in_ok-_entry.ensures.answer) c.in_ok-_entry.ensures.reads,
)

pub loop-entry-preserved-in-Some-3 : goal.loop-entry-preserved-in-Some-3
loop-entry-preserved-in-Some-3 g c = (
  c.loop-entry.invariant.0 ++ (c.in-Some._entry ∷ []),
  next_read g.V.Vault c.args.settings.now c.args.begin c.args.upto c.args.wal.now c.loop-entry.wal c.next_to.new.wal c.loop-entry.cursor c.next_to.new.cursor c.loop-entry.invariant.0 c.in-Some._entry c.loop-entry.invariant.1
      (rw (← c.segment-size.ensures.value, ← c.in-Some.is) c.in_ok-_entry.ensures.answer) c.in_ok-_entry.ensures.reads,
)

pub loop-entry-preserved : goal.loop-entry-preserved
loop-entry-preserved g c = (
  c.loop-entry.invariant.0 ++ (c.in-Some._entry ∷ []),
  next_read g.V.Vault c.args.settings.now c.args.begin c.args.upto c.args.wal.now c.loop-entry.wal c.next_to.new.wal c.loop-entry.cursor c.next_to.new.cursor c.loop-entry.invariant.0 c.in-Some._entry c.loop-entry.invariant.1
      (rw (← c.segment-size.ensures.value, ← c.in-Some.is) c.in_ok-_entry.ensures.answer) c.in_ok-_entry.ensures.reads,
)
