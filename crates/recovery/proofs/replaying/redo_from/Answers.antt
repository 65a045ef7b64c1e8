-- Each entry that the cursor gives carries on what was told and replayed so far.
use Rattle.std.proofs.Common.{[], Err, refl, sym, ap, subst, ◌∙◌, arith}
use Rattle.std.proofs.lemmas.Result.{err_from_is_err_and}
use Rattle.lsn_core.specs.Segment.{IsSegmentMib}
use Rattle.lsn_core.specs.Tip.{Tip}
use Rattle.wal_reader.specs.Cursor.{Cursor}
use Rattle.recovery.specs.declared.fault.ReplayFault.{ReplayFault}
use Rattle.recovery.specs.Inside.{RedoesFrom}
use Rattle.recovery.proofs.Stepping.{start_tip, nothing_read, all_read}
use Rattle.recovery.specs.declared.replaying.Progress.{Progress}
use Rattle.recovery.proofs.Replays.{none_replayed, redo_refused}
use Rattle.recovery.proofs.Hearing.{none_heard, next_heard, room_left, heard_at}
use Rattle.recovery.proofs.replaying.redo_from.Goals as goal

pub loop-record-init : goal.loop-record-init
loop-record-init g c =
    none_heard g.V.Vault g.P.Pages g.L.Listener c.args.settings.now c.args.begin c.args.upto c.args.counted c.args.wal.now c.args.target.now c.args.listener.now c.cursor-cursor.result c.new-progress.result
    (record {
      entries = [];
      read = nothing_read g.V.Vault c.args.settings.now c.args.begin c.args.upto c.args.wal.now c.cursor-cursor.result (subst IsSegmentMib c.segment-size.ensures.value c.segment-size.ensures.range) c.cursor-cursor.ensures;
      replayed = none_replayed g.P.Pages.shows c.args.settings.now c.args.begin c.args.upto c.args.counted c.args.target.now c.new-progress.result
          (ap (λ (x : Progress). x.end.0) c.new-progress.ensures ∙ (ap (λ (t : Tip). t.end) (c.first.view_is ∙ c.tip-first.ensures.tip ∙ ap (λ (x : Cursor). x.tip) c.cursor-cursor.ensures ∙ start_tip g.V.Vault c.args.settings.now c.args.begin))) (ap (λ (x : Progress). x.tally) c.new-progress.ensures) (ap (λ (x : Progress). x.bad) c.new-progress.ensures);
      kept = g.met.P.Pages.keeps_refl c.args.target.now;
      later = omega arith;
    }) refl

pub loop-record-preserved-in_ok-take : goal.loop-record-preserved-in_ok-take
loop-record-preserved-in_ok-take g c =
    next_heard g.V.Vault g.P.Pages g.L.Listener c.args.settings.now c.args.begin c.args.upto c.args.counted c.args.wal.now c.loop-record.wal c.next_to.new.wal c.args.target.now c.loop-record.target c.take.new.target c.args.listener.now c.loop-record.listener c.take.new.listener c.loop-record.cursor c.next_to.new.cursor
    c.loop-record.progress c.take.new.self c.in-Some.record c.loop-record.invariant (rw (← c.segment-size.ensures.value, ← c.in-Some.is) c.in_ok-record.ensures.answer) c.in_ok-record.ensures.reads c.in_ok-take.ensures.takes
    (g.met.P.Pages.keeps_trans c.args.target.now c.loop-record.target c.take.new.target c.loop-record.invariant.done.kept c.in_ok-take.ensures.kept) c.in_ok-take.ensures.cause.later c.in_ok-take.ensures.heard

pub loop-record-preserved-in_ok-take-2 : goal.loop-record-preserved-in_ok-take-2
loop-record-preserved-in_ok-take-2 g c =
    next_heard g.V.Vault g.P.Pages g.L.Listener c.args.settings.now c.args.begin c.args.upto c.args.counted c.args.wal.now c.loop-record.wal c.next_to.new.wal c.args.target.now c.loop-record.target c.take.new.target c.args.listener.now c.loop-record.listener c.take.new.listener c.loop-record.cursor c.next_to.new.cursor
    c.loop-record.progress c.take.new.self c.in-Some.record c.loop-record.invariant (rw (← c.segment-size.ensures.value, ← c.in-Some.is) c.in_ok-record.ensures.answer) c.in_ok-record.ensures.reads c.in_ok-take.ensures.takes
    (g.met.P.Pages.keeps_trans c.args.target.now c.loop-record.target c.take.new.target c.loop-record.invariant.done.kept c.in_ok-take.ensures.kept) c.in_ok-take.ensures.cause.later c.in_ok-take.ensures.heard

pub loop-record-preserved-in_ok-take-3 : goal.loop-record-preserved-in_ok-take-3
loop-record-preserved-in_ok-take-3 g c =
    next_heard g.V.Vault g.P.Pages g.L.Listener c.args.settings.now c.args.begin c.args.upto c.args.counted c.args.wal.now c.loop-record.wal c.next_to.new.wal c.args.target.now c.loop-record.target c.take.new.target c.args.listener.now c.loop-record.listener c.take.new.listener c.loop-record.cursor c.next_to.new.cursor
    c.loop-record.progress c.take.new.self c.in-Some.record c.loop-record.invariant (rw (← c.segment-size.ensures.value, ← c.in-Some.is) c.in_ok-record.ensures.answer) c.in_ok-record.ensures.reads c.in_ok-take.ensures.takes
    (g.met.P.Pages.keeps_trans c.args.target.now c.loop-record.target c.take.new.target c.loop-record.invariant.done.kept c.in_ok-take.ensures.kept) c.in_ok-take.ensures.cause.later c.in_ok-take.ensures.heard

pub loop-record-preserved : goal.loop-record-preserved
loop-record-preserved g c =
    next_heard g.V.Vault g.P.Pages g.L.Listener c.args.settings.now c.args.begin c.args.upto c.args.counted c.args.wal.now c.loop-record.wal c.next_to.new.wal c.args.target.now c.loop-record.target c.take.new.target c.args.listener.now c.loop-record.listener c.take.new.listener c.loop-record.cursor c.next_to.new.cursor
    c.loop-record.progress c.take.new.self c.in-Some.record c.loop-record.invariant (rw (← c.segment-size.ensures.value, ← c.in-Some.is) c.in_ok-record.ensures.answer) c.in_ok-record.ensures.reads c.in_ok-take.ensures.takes
    (g.met.P.Pages.keeps_trans c.args.target.now c.loop-record.target c.take.new.target c.loop-record.invariant.done.kept c.in_ok-take.ensures.kept) c.in_ok-take.ensures.cause.later c.in_ok-take.ensures.heard

pub returns-in_err-finish-clause-answer : goal.returns-in_err-finish-clause-answer
returns-in_err-finish-clause-answer g c =
    let gone = err_from_is_err_and c.from_residual-in_err-finish.result c.from_residual-in_err-finish.ensures.1 in
    subst (RedoesFrom g.V.Vault g.P.Pages g.L.Listener c.args.settings.now c.args.begin c.args.upto c.args.counted c.args.wal.now c.next_to.new.wal c.args.target.now c.loop-record.target c.args.listener.now c.loop-record.listener) (sym gone.1)
    (subst (λ (f : ReplayFault). RedoesFrom g.V.Vault g.P.Pages g.L.Listener c.args.settings.now c.args.begin c.args.upto c.args.counted c.args.wal.now c.next_to.new.wal c.args.target.now c.loop-record.target c.args.listener.now c.loop-record.listener (Err f)) (sym gone.2)
    (redo_refused g.V.Vault g.P.Pages c.args.settings.now c.args.begin c.args.upto c.args.counted c.args.wal.now c.next_to.new.wal c.args.target.now c.loop-record.target c.tip-last.result c.loop-record.invariant.done.entries c.loop-record.progress c.in_err-finish.field-0.0
    (all_read g.V.Vault c.args.settings.now c.args.begin c.args.upto c.args.wal.now c.loop-record.wal c.next_to.new.wal c.loop-record.cursor c.next_to.new.cursor c.loop-record.invariant.done.entries c.tip-last.result c.loop-record.invariant.done.read
    (rw (c.segment-size.ensures.value, c.in_default.is) at c.in_ok-record.ensures.answer) c.tip-last.ensures.tip)
    c.loop-record.invariant.done.replayed c.in_err-finish.ensures))

pub returns-clause-answer : goal.returns-clause-answer
returns-clause-answer g c =
    heard_at g.V.Vault g.P.Pages g.L.Listener c.args.settings.now c.args.begin c.args.upto c.args.counted c.args.wal.now c.loop-record.wal c.args.target.now c.loop-record.target c.args.listener.now c.loop-record.listener c.tip-last.result c.loop-record.cursor c.loop-record.progress c.in_ok-finish.field-0
    c.loop-record.invariant
    (all_read g.V.Vault c.args.settings.now c.args.begin c.args.upto c.args.wal.now c.loop-record.wal c.next_to.new.wal c.loop-record.cursor c.next_to.new.cursor c.loop-record.invariant.done.entries c.tip-last.result c.loop-record.invariant.done.read
    (rw (c.segment-size.ensures.value, c.in_default.is) at c.in_ok-record.ensures.answer) c.tip-last.ensures.tip)
    c.in_ok-finish.ensures

pub take-requires-clause-room : goal.take-requires-clause-room
take-requires-clause-room g c =
    room_left g.V.Vault g.P.Pages g.L.Listener c.args.settings.now c.args.begin c.args.upto c.args.counted c.args.wal.now c.loop-record.wal c.args.target.now c.loop-record.target c.args.listener.now c.loop-record.listener c.loop-record.cursor c.loop-record.progress c.requires.none c.loop-record.invariant
