use Rattle.std.proofs.Common.{subst, Option}
use Rattle.lsn_core.specs.declared.lsn.Place.{Place}
use Rattle.history.specs.Entry.{RedoMark}
use Rattle.store_core.specs.Steps.{with_mark}
use Rattle.core_machine.specs.Shown.{HasMarked}
use Rattle.core_machine.proofs.Showing.{start_full, start_done}
use Rattle.core_machine.proofs.machine.Machine.start.Goals as goal

pub returns-in-None : goal.returns-in-None
returns-in-None c s reached shown =
    let marked = subst (λ (o : Option Place). HasMarked c.mark.new.self s c.args.number (RedoMark 1) o) c.in-None.is (c.in_ok-mark.ensures s c.args.number (RedoMark 1) reached shown c.redo_kind.ensures.kind) in
    start_full c.args.self.now c.mark.new.self s c.args.number c.entries-entries.result c.is_busy.result shown c.is_busy.ensures c.if-is_busy.false marked c.entries-entries.ensures

pub returns-in_ok-set_worker-in-Some : goal.returns-in_ok-set_worker-in-Some
returns-in_ok-set_worker-in-Some c s reached shown =
    let marked = subst (λ (o : Option Place). HasMarked c.mark.new.self s c.args.number (RedoMark 1) o) c.in-Some.is (c.in_ok-mark.ensures s c.args.number (RedoMark 1) reached shown c.redo_kind.ensures.kind) in
    start_done c.args.self.now c.set_worker.new.self s c.args.number c.is_busy.result c.in-Some.place shown c.is_busy.ensures c.if-is_busy.false c.mark.new.self marked
    (c.in_ok-set_worker-in-Some.ensures (with_mark s c.args.number (RedoMark 1)) marked.shown)
