use Rattle.std.proofs.Common.{List, map, ap, subst, ◌∙◌}
use Rattle.wal_record.specs.declared.record.Record.{Record}
use Rattle.history.specs.Whole.{entry_of}
use Rattle.history.specs.fuzzy_copies.Summary.{summary_of}
use Rattle.wal_summary.specs.Summary.{IsSummary}
use Rattle.store_core.specs.InMemory.{next_redo_in}
use Rattle.core_machine.proofs.Showing.{publish_idle, publish_done}
use Rattle.core_machine.proofs.machine.Machine.publish.Goals as goal

pub returns-in_default : goal.returns-in_default
returns-in_default c s reached shown =
    publish_idle c.args.self.now s c.next_redo.result reached shown (c.next_redo.ensures ∙ ap (next_redo_in c.args.self.now.summed.0) c.deref.ensures.value) c.in_default.is

pub returns : goal.returns
returns c s reached shown =
    publish_done c.args.self.now s c.next_redo.result c.in-Some.end c.in_ok-sum.sum c.push.new.self reached shown (c.next_redo.ensures ∙ ap (next_redo_in c.args.self.now.summed.0) c.deref.ensures.value) c.in-Some.is c.in_ok-sum.ensures.head.0 c.in_ok-sum.ensures.head.1
    (subst (λ (rs : List Record). IsSummary (summary_of (map entry_of rs) c.args.self.now.summed.0 c.in-Some.end.0) c.in_ok-sum.sum.forks) c.deref-2.ensures.value c.in_ok-sum.ensures.forks) c.in_ok-push.ensures.items
