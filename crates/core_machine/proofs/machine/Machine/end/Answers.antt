use Rattle.std.proofs.Common.{List, map, sym, ap, subst, ◌∙◌, option_map, Option}
use Rattle.lsn_core.specs.declared.lsn.Place.{Place}
use Rattle.history.specs.Entry.{BackupEnd}
use Rattle.wal_summary.specs.declared.summary.Summary.{Summary}
use Rattle.store_core.specs.Steps.{finished_of}
use Rattle.core_machine.specs.Inside.{underway_in}
use Rattle.store_core.specs.InMemory.{published_in}
use Rattle.core_machine.specs.Shown.{HasMarked}
use Rattle.core_machine.proofs.Showing.{end_full, end_done}
use Rattle.core_machine.proofs.machine.Machine.end.Goals as goal

pub returns-in-None-2 : goal.returns-in-None-2
returns-in-None-2 c s reached shown =
    let mark = BackupEnd c.in-Some.backup.now.start.0 in
    let marked = subst (λ (o : Option Place). HasMarked c.mark.new.self s c.args.number mark o) c.in-None-2.is (c.in_ok-mark.ensures s c.args.number mark reached shown c.end_kind.ensures.kind) in
    end_full c.args.self.now c.mark.new.self s c.args.number c.entries-entries.result (underway_in c.in-Some.backup.now) c.in_ok-is_to_end-in-Some.field-0 shown (sym c.backup.ensures ∙ ap (option_map (λ b. underway_in b.now)) c.in-Some.is)
    (c.in_ok-is_to_end-in-Some.ensures s shown) c.if-not-branch.false marked c.entries-entries.ensures

pub returns : goal.returns
returns c s reached shown =
    let mark = BackupEnd c.in-Some.backup.now.start.0 in
    let marked = subst (λ (o : Option Place). HasMarked c.mark.new.self s c.args.number mark o) c.in-Some-2.is (c.in_ok-mark.ensures s c.args.number mark reached shown c.end_kind.ensures.kind) in
    end_done c.args.self.now c.mark.new.self c.set_worker.new.self c.take.new.self s c.args.number c.relseg-relseg.result (underway_in c.in-Some.backup.now) (underway_in c.in-Some-take.backup) c.in_ok-is_to_end-in-Some.field-0 c.in-Some-2.place
    c.in_ok-finished.finished c.push.new.self
    shown (sym c.backup.ensures ∙ ap (option_map (λ b. underway_in b.now)) c.in-Some.is) (c.in_ok-is_to_end-in-Some.ensures s shown) c.if-not-branch.false marked (sym c.take.ensures.backup ∙ ap (option_map underway_in) c.in-Some-take.is) c.take.ensures.others
    c.in_ok-set_worker.ensures c.relseg-relseg.ensures.value
    (c.in_ok-finished.ensures ∙ ap (λ (xs : List Summary). finished_of c.relseg-relseg.result (map published_in xs) (underway_in c.in-Some-take.backup) c.in-Some-2.place.end.0) c.deref.ensures.value) c.in_ok-push.ensures.items
