use Rattle.std.proofs.Common.{List, Option, map, option_map, ap, subst, ◌∙◌}
use Rattle.lsn_core.specs.declared.lsn.Place.{Place}
use Rattle.history.specs.Entry.{Online}
use Rattle.core_machine.specs.declared.over.FinishedBackup.{FinishedBackup}
use Rattle.store_core.specs.Steps.{begun, may_begin, with_mark}
use Rattle.core_machine.specs.Inside.{underway_in}
use Rattle.core_machine.specs.Shown.{finished_in, HasMarked}
use Rattle.core_machine.proofs.Showing.{complete_full, complete_done}
use Rattle.core_machine.proofs.machine.Machine.complete.Goals as goal

pub returns-in-None : goal.returns-in-None
returns-in-None c s reached shown =
    let mark = Online c.in-Some.redo.0 in
    let marked = subst (λ (o : Option Place). HasMarked c.mark.new.self s c.args.number mark o) c.in-None.is (c.in_ok-mark.ensures s c.args.number mark reached shown c.online_kind.ensures.kind) in
    complete_full c.args.self.now c.mark.new.self s c.args.number c.entries-entries.result c.args.what c.redo.result c.in-Some.redo c.is_behind.result c.may_begin.result shown c.redo.ensures c.in-Some.is (c.is_behind.ensures s shown) c.if-is_behind.false
    (c.may_begin.ensures ∙ ap (λ (f : List FinishedBackup). may_begin (map finished_in f) c.in-Some.redo.0 c.args.what) c.deref.ensures.value) c.if-not-may_begin.false marked c.entries-entries.ensures

pub returns-in_ok-set_worker-in-Some-2 : goal.returns-in_ok-set_worker-in-Some-2
returns-in_ok-set_worker-in-Some-2 c s reached shown =
    let mark = Online c.in-Some.redo.0 in
    let marked = subst (λ (o : Option Place). HasMarked c.mark.new.self s c.args.number mark o) c.in-Some-2.is (c.in_ok-mark.ensures s c.args.number mark reached shown c.online_kind.ensures.kind) in
    complete_done c.args.self.now c.set_worker.new.self c.mark.new.self s c.args.number c.args.what c.redo.result c.in-Some.redo c.is_behind.result c.may_begin.result c.in-Some-2.place (option_map underway_in c.in_ok-backup-in-Some-2.backup) shown c.redo.ensures c.in-Some.is (c.is_behind.ensures s shown) c.if-is_behind.false
    (c.may_begin.ensures ∙ ap (λ (f : List FinishedBackup). may_begin (map finished_in f) c.in-Some.redo.0 c.args.what) c.deref.ensures.value) c.if-not-may_begin.false marked
    (c.in_ok-backup-in-Some-2.ensures ∙ ap (λ (f : List FinishedBackup). begun (map finished_in f) c.in-Some.redo.0 c.args.what) c.deref-in-Some-2.ensures.value)
    (c.in_ok-set_worker-in-Some-2.ensures (with_mark s c.args.number mark) marked.shown)
