use Rattle.std.proofs.Common.{Some}
use Rattle.history.specs.Op.{act_of_op}
use Rattle.journal.proofs.Rests.{kept_log, more_log, rests_as, rests_on}
use Rattle.journal.proofs.Tells.{keeps_refused, keeps_command}
use Rattle.journal.proofs.journal.Journal.append_command.Goals as goal

pub invariant_of-self : goal.invariant_of-self
invariant_of-self g c = (
  keeps_refused g.V.Vault g.J.OfStore.tells c.self.inside.wal c.append.new.self c.self.inside.pen c.self.inside.pages c.args.kind c.in_err-record.field-0.0 c.in_err-record.ensures.answer c.in_err-record.ensures.area c.self.invariant.0,
  rests_as g.V.Vault c.self.inside.wal c.append.new.self (kept_log c.args.kind c.self.inside.wal.tail c.append.new.self.tail c.in_err-record.field-0.0 c.in_err-record.ensures.answer) c.in_err-record.ensures.area c.self.invariant.1,
)

pub invariant_of-self-2 : goal.invariant_of-self-2
invariant_of-self-2 g c = (
  keeps_command g.V.Vault g.J.OfStore.tells c.args.self.now c.self.inside.wal c.append.new.self c.self.inside.pen c.tell_command.new.pen c.self.inside.pages c.args.pages (act_of_op c.args.op.now) c.args.kind c.args.worker (Some c.args.seq) c.in_ok-record.record
      c.self.view_is c.tip-tip.ensures.known c.requires.writable c.requires.next c.in_ok-record.ensures.answer c.in_ok-record.ensures.area c.tell_command.ensures c.self.invariant.0,
  rests_on g.V.Vault c.self.inside.wal c.append.new.self (more_log c.args.kind c.self.inside.wal.tail c.append.new.self.tail c.in_ok-record.record c.in_ok-record.ensures.answer) c.in_ok-record.ensures.area c.self.invariant.1,
)
