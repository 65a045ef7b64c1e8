use Rattle.std.proofs.Common.{ap, subst, sym}
use mathlib.Core.List.{IsPrefix}
use Rattle.journal.specs.Lawful.{IsLawful}
use Rattle.store_locks.specs.Locked.{RunsOn}
use Rattle.shared_summaries.proofs.summary_publish.Adding.{stays_same}
use Rattle.shared_summaries.proofs.kept.learn.Goals as goal

pub learn-requires-clause-grown : goal.learn-requires-clause-grown
learn-requires-clause-grown g c = λ κs lives. subst (λ n. RunsOn g.J.OfCrew.found n.list) (sym c.split-copy.ensures.copy) c.requires.begins

pub learn-requires-clause-lawful : goal.learn-requires-clause-lawful
learn-requires-clause-lawful g c = λ κs lives told. subst (λ n. IsLawful g.J.OfCrew.settings.segment n.list) (sym c.split-copy.ensures.copy) (c.requires.lawful told)

pub returns-clause-same : goal.returns-clause-same
returns-clause-same g c = ap (λ n. n.list) c.split-copy.ensures.same

pub returns-clause-learnt : goal.returns-clause-learnt
returns-clause-learnt g c = subst (λ n. IsPrefix n.list c.learn.new.pass.list) c.split-copy.ensures.copy c.learn.ensures.that

pub returns-clause-looks : goal.returns-clause-looks
returns-clause-looks g c = record {
  seen = c.learn.ensures.seen.seen;
  worker = c.learn.ensures.seen.worker;
  accepted = c.learn.ensures.accepted;
  marks = c.learn.ensures.marks;
  shares = stays_same c.args.pass.now.faults c.learn.new.pass.faults c.learn.ensures.faults;
}
