use Rattle.std.proofs.Common.{rules, sym, ap, ◌∙◌}
use Rattle.lsn_core.specs.Tip.{Tip, tip_with}
use Rattle.history.specs.Op.{act_of_op}
use Rattle.store_locks.proofs.Kept.{part_same, sized}
use Rattle.store_locks.proofs.Goes.{adds_none}
use Rattle.store_locks.proofs.Tallies.{seq_is, next_fits, counts_on}
use Rattle.store_locks.proofs.Checked.{room_in, memory_in, receipt_of, taken_of}
use Rattle.store_insertion.proofs.insert.insert_prepared.Goals as goal

pub append_in-requires-after_bounds : goal.append_in-requires-after_bounds
append_in-requires-after_bounds g c κs within =
    (search rules, (c.requires.alone, (sized g.row.Q c.args.part.now.relseg _ c.args.journal.now.pen c.check_in.new.part (part_same g.row.Q c.args.part.now.relseg _ c.args.journal.now.pen c.args.part.now c.check_in.new.part c.in_ok-ready.ensures.same c.in_ok-ready.ensures.area c.requires.part), (c.in_ok-ready.ensures.checked.prepared, (c.in_ok-ready.ensures.checked.writable, c.in_ok-ready.ensures.next)))))

pub returns-in-Err-WalFull-clause-refused : goal.returns-in-Err-WalFull-clause-refused
returns-in-Err-WalFull-clause-refused g c =
    λ tell. room_in c.args.journal.now.wal.tail c.append_in.new.journal.wal.tail c.args.journal.now.pen c.args.op.now c.in_ok-ready.ready.kind (tip_with c.tip.inside.end.0 c.tip.inside.prev.0 c.tip.inside.redo.0 c.tip.inside.count) c.in-Err-WalFull.field-0 (c.in_ok-ready.ensures.admitted tell) (c.tip.view_is ∙ c.tip-tip.ensures.tip) c.in-Err-WalFull.field-0-is c.in-Err-WalFull.ensures.answer

pub returns-in-Err-NoMemory-clause-refused : goal.returns-in-Err-NoMemory-clause-refused
returns-in-Err-NoMemory-clause-refused g c = λ tell. memory_in c.args.journal.now.wal.tail c.args.journal.now.pen c.args.op.now c.in_ok-ready.ready.kind (c.in_ok-ready.ensures.admitted tell)

pub overflow_add-seq : goal.overflow_add-seq
overflow_add-seq g c = next_fits c.args.journal.now.wal.tail c.args.counts.now.items c.args.journal.now.pen c.args.worker c.index-seq.result.now c.tip-tip.ensures.known c.tip-tip.ensures.ended c.requires.worker c.requires.counts c.index-seq.ensures

pub returns-clause-accepted : goal.returns-clause-accepted
returns-clause-accepted g c =
    receipt_of c.args.worker c.args.op.now c.args.journal.now.pen c.append_in.new.journal.pen c.in-Ok.record c.tip.inside.count c.index-seq.result.now c.in-Ok.ensures.told (ap (λ (t : Tip). t.count) (c.tip.view_is ∙ c.tip-tip.ensures.tip) ∙ sym c.tip-tip.ensures.ended.counted)
    (seq_is c.args.counts.now.items c.args.journal.now.pen c.args.worker c.index-seq.result.now c.requires.worker c.requires.counts c.index-seq.ensures)

pub returns-clause-taken : goal.returns-clause-taken
returns-clause-taken g c =
    λ tell. taken_of c.args.journal.now.wal.tail c.args.op.now c.args.journal.now.pen c.in_ok-ready.ready.kind c.in-Ok.record c.tip.inside.count c.index-seq.result.now (c.in_ok-ready.ensures.admitted tell) c.in-Ok.ensures.answer.0 c.in-Ok.ensures.answer.1.1

pub returns-clause-counts : goal.returns-clause-counts
returns-clause-counts g c =
    counts_on c.args.counts.now.items c.args.journal.now.pen c.append_in.new.journal.pen c.args.worker c.index-seq.result.now c.in-Ok.record (act_of_op c.args.op.now) c.requires.counts c.requires.worker
    (seq_is c.args.counts.now.items c.args.journal.now.pen c.args.worker c.index-seq.result.now c.requires.worker c.requires.counts c.index-seq.ensures) c.in-Ok.ensures.told

pub returns-in_err-ready-clause-adds : goal.returns-in_err-ready-clause-adds
returns-in_err-ready-clause-adds g c = adds_none c.args.journal.now c.tip-tip.ensures.known c.tip-tip.ensures.ended
