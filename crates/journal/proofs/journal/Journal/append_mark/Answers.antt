use Rattle.std.proofs.Common.{None}
use Rattle.journal.specs.Marks.{marking_of}
use Rattle.journal.proofs.Rests.{kept_log, more_log, rests_as, rests_on}
use Rattle.journal.proofs.Tells.{keeps_refused, keeps_mark}
use Rattle.journal.proofs.journal.Journal.append_mark.Goals as goal

pub invariant_of-self : goal.invariant_of-self
invariant_of-self g c = (
  keeps_refused g.V.Vault g.J.OfStore.tells c.self.inside.wal c.append.new.self c.self.inside.pen c.self.inside.pages c.mark_kind.result c.in_err-record.field-0.0 c.in_err-record.ensures.answer c.in_err-record.ensures.area c.self.invariant.0,
  rests_as g.V.Vault c.self.inside.wal c.append.new.self (kept_log c.mark_kind.result c.self.inside.wal.tail c.append.new.self.tail c.in_err-record.field-0.0 c.in_err-record.ensures.answer) c.in_err-record.ensures.area c.self.invariant.1,
)

pub invariant_of-self-2 : goal.invariant_of-self-2
invariant_of-self-2 g c = (
  keeps_mark g.V.Vault g.J.OfStore.tells c.args.self.now c.self.inside.wal c.append.new.self c.self.inside.pen c.tell_mark.new.pen c.self.inside.pages (marking_of c.args.mark) c.mark_kind.result c.args.worker None c.in_ok-record.record
      c.self.view_is c.tip-tip.ensures.known c.mark_kind.ensures.writable c.mark_kind.ensures.kind c.in_ok-record.ensures.answer c.in_ok-record.ensures.area c.tell_mark.ensures c.self.invariant.0,
  rests_on g.V.Vault c.self.inside.wal c.append.new.self (more_log c.mark_kind.result c.self.inside.wal.tail c.append.new.self.tail c.in_ok-record.record c.in_ok-record.ensures.answer) c.in_ok-record.ensures.area c.self.invariant.1,
)
