use Rattle.std.proofs.Common.{ℕ, get_or, Option, None, ap, sym, subst, ◌∙◌}
use Rattle.std.specs.declared.result.Result.{Result}
use Rattle.lsn_core.specs.declared.lsn.Place.{Place}
use Rattle.wal_record.specs.declared.record.Kind.{Kind}
use Rattle.history.specs.Op.{act_of_op}
use Rattle.history.specs.Written.{kind_of}
use Rattle.store_core.specs.declared.reply.Refusal.{Refusal}
use Rattle.core_machine.specs.Inside.{MayHaveAppended, IsWeighed}
use Rattle.core_machine.proofs.Accepting.{judged_here, refused_step, full_step, no_room_step, accept_step}
use Rattle.core_machine.proofs.machine.Machine.insert.Goals as goal

pub returns-in-Err : goal.returns-in-Err
returns-in-Err c s reached shown =
    let why = subst (λ (r : Result Kind Refusal). IsWeighed c.entries-entries.result c.redo_point-redo.result.0 (get_or c.args.self.now.parts c.part_of-part.result c.index-self-part.result).frames c.args.command.now r) c.in-Err.is c.in_ok-weighed.ensures in
    refused_step c.args.self.now s c.args.worker c.part_of-part.result c.entries-entries.result c.index-self-part.result c.args.command.now c.in-Err.refusal shown c.part_of-part.ensures.number c.part_of-part.ensures.below c.entries-entries.ensures (sym why)

pub returns-then-branch : goal.returns-then-branch
returns-then-branch c s reached shown =
    let w = subst (λ (r : Result Kind Refusal). IsWeighed c.entries-entries.result c.redo_point-redo.result.0 (get_or c.args.self.now.parts c.part_of-part.result c.index-self-part.result).frames c.args.command.now r) c.in-Ok.is c.in_ok-weighed.ensures in
    full_step c.args.self.now s c.args.worker c.part_of-part.result c.entries-entries.result c.index-self-part.result c.args.command.now c.in_ok-is_full.field-0 shown c.part_of-part.ensures.number c.part_of-part.ensures.below c.entries-entries.ensures (sym w.taken)
    (c.in_ok-is_full.ensures s shown c.part_of-part.ensures.number (judged_here c.args.self.now s c.part_of-part.result c.entries-entries.result c.index-self-part.result c.args.command.now None shown c.part_of-part.ensures.number c.part_of-part.ensures.below c.entries-entries.ensures (sym w.taken)))
    c.if-branch.true

pub returns-in-None : goal.returns-in-None
returns-in-None c s reached shown =
    let w = subst (λ (r : Result Kind Refusal). IsWeighed c.entries-entries.result c.redo_point-redo.result.0 (get_or c.args.self.now.parts c.part_of-part.result c.index-self-part.result).frames c.args.command.now r) c.in-Ok.is c.in_ok-weighed.ensures in
    let a = subst (λ (o : Option Place). MayHaveAppended c.args.self.now c.append.new.self c.in-Ok.kind o) c.in-None.is c.in_ok-append.ensures in
    no_room_step c.args.self.now c.append.new.self s c.args.worker c.part_of-part.result c.entries-entries.result c.index-self-part.result c.index-self-part.result c.args.command.now c.in_ok-is_full.field-0 c.in-Ok.kind shown c.part_of-part.ensures.number c.part_of-part.ensures.below c.entries-entries.ensures (sym w.taken)
    (c.in_ok-is_full.ensures s shown c.part_of-part.ensures.number (judged_here c.args.self.now s c.part_of-part.result c.entries-entries.result c.index-self-part.result c.args.command.now None shown c.part_of-part.ensures.number c.part_of-part.ensures.below c.entries-entries.ensures (sym w.taken)))
    c.if-branch.false (w.kind_is ∙ ap (λ (n : ℕ). kind_of (get_or c.args.self.now.parts c.part_of-part.result c.index-self-part.result).frames n (act_of_op c.args.command.now)) c.redo_point-redo.ensures) a.0 a.1

pub returns : goal.returns
returns c s reached shown =
    let w = subst (λ (r : Result Kind Refusal). IsWeighed c.entries-entries.result c.redo_point-redo.result.0 (get_or c.args.self.now.parts c.part_of-part.result c.index-self-part.result).frames c.args.command.now r) c.in-Ok.is c.in_ok-weighed.ensures in
    let a = subst (λ (o : Option Place). MayHaveAppended c.args.self.now c.append.new.self c.in-Ok.kind o) c.in-Some.is c.in_ok-append.ensures in
    accept_step c.args.self.now c.append.new.self c.count.new.self s c.args.worker c.part_of-part.result c.entries-entries.result c.commands-seq.result c.index-self-part.result c.index-self-part.result c.index-self-part-2.result c.enter.new.self c.args.command.now c.in_ok-is_full.field-0 c.in-Ok.kind c.in-Some.place
    reached shown c.part_of-part.ensures.number c.part_of-part.ensures.below c.entries-entries.ensures (sym w.taken)
    (c.in_ok-is_full.ensures s shown c.part_of-part.ensures.number (judged_here c.args.self.now s c.part_of-part.result c.entries-entries.result c.index-self-part.result c.args.command.now None shown c.part_of-part.ensures.number c.part_of-part.ensures.below c.entries-entries.ensures (sym w.taken)))
    c.if-branch.false (w.kind_is ∙ ap (λ (n : ℕ). kind_of (get_or c.args.self.now.parts c.part_of-part.result c.index-self-part.result).frames n (act_of_op c.args.command.now)) c.redo_point-redo.ensures) a c.in_ok-enter.ensures c.commands-seq.ensures c.in_ok-count.ensures
