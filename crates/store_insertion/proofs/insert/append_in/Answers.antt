use Rattle.std.specs.Prelude.{Some}
use Rattle.std.proofs.Common.{rules, sym, subst}
use Rattle.history.specs.Op.{act_of_op}
use Rattle.journal.specs.Journal.{MayFollow}
use Rattle.store_locks.proofs.Goes.{adds_of}
use Rattle.store_locks.proofs.Checked.{next_of, ready_as, done_in}
use Rattle.store_insertion.proofs.insert.append_in.Goals as goal

pub append_command-requires-clause-next : goal.append_command-requires-clause-next
append_command-requires-clause-next g c κs within =
    λ tell. subst (λ kind. MayFollow c.args.journal.now.wal.tail.mib c.args.journal.now.pen (act_of_op c.args.op.now) kind c.args.pages) (sym c.take_kind-kind.ensures.kind) (c.requires.next tell)

pub apply_op-requires-after_bounds : goal.apply_op-requires-after_bounds
apply_op-requires-after_bounds g c κs within = (search rules, (c.args.op.now, ready_as c.args.part.now c.args.op.now c.args.ready c.take_kind-kind.new.self c.take_kind-kind.ensures.done c.requires.ready))

pub returns-clause-next : goal.returns-clause-next
returns-clause-next g c =
    next_of c.args.journal.now.wal.tail c.args.op.now c.args.journal.now.pen c.append_command.new.self.pen c.take_kind-kind.result c.args.worker c.args.seq c.in_ok-record.record c.tip-tip.ensures.known c.tip-tip.ensures.ended
    c.in_ok-record.ensures.answer.0 c.in_ok-record.ensures.told

pub returns-clause-part : goal.returns-clause-part
returns-clause-part g c =
    done_in g.row.Q c.args.part.now.relseg _ c.args.journal.now.wal.tail c.args.op.now c.args.journal.now.pen c.append_command.new.self.pen c.take_kind-kind.result c.args.worker c.args.seq c.in_ok-record.record c.args.part.now c.apply_op.new.self
    c.tip-tip.ensures.known c.tip-tip.ensures.ended c.in_ok-record.ensures.answer.0 c.in_ok-record.ensures.told c.requires.alone
    (c.apply_op.ensures.done c.args.op.now (ready_as c.args.part.now c.args.op.now c.args.ready c.take_kind-kind.new.self c.take_kind-kind.ensures.done c.requires.ready)) c.apply_op.ensures.area c.requires.part

pub returns-clause-adds : goal.returns-clause-adds
returns-clause-adds g c =
    adds_of c.take_kind-kind.result (act_of_op c.args.op.now) c.args.worker (Some c.args.seq) c.args.journal.now c.append_command.new.self c.append_command.result c.tip-tip.ensures.known c.tip-tip.ensures.ended c.append_command.ensures.answer c.append_command.ensures.told c.append_command.ensures.same c.append_command.ensures.area

pub returns-in_err-record-clause-adds : goal.returns-in_err-record-clause-adds
returns-in_err-record-clause-adds g c =
    adds_of c.take_kind-kind.result (act_of_op c.args.op.now) c.args.worker (Some c.args.seq) c.args.journal.now c.append_command.new.self c.append_command.result c.tip-tip.ensures.known c.tip-tip.ensures.ended c.append_command.ensures.answer c.append_command.ensures.told c.append_command.ensures.same c.append_command.ensures.area
