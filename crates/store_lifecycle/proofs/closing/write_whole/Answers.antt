use Rattle.std.proofs.Common.{rules, ◌≤◌, IfOk, Ok, refl, sym, subst}
use Rattle.store_lifecycle.specs.Ended.{PartAnswer}
use Rattle.store_lifecycle.proofs.Closed.{all_reached, part_whole}
use Rattle.store_lifecycle.proofs.closing.write_whole.Goals as goal

pub clean_all-requires-after_bounds : goal.clean_all-requires-after_bounds
clean_all-requires-after_bounds g c κs within = (
  search rules,
  all_reached g.row.Q c.args.settings.relseg c.args.journal.now.wal.tail.tip.end c.in-Ok.mark.to.0 _ c.args.journal.now.pen c.args.part.now c.tip-tip.ensures.ended.within
      (subst (λ r. IfOk r (λ m. c.args.journal.now.wal.tail.tip.end ≤ m.to.0)) c.in-Ok.is c.requires.flushed) c.requires.part,
)

pub returns-in-Ok-clean_all-clause-answer : goal.returns-in-Ok-clean_all-clause-answer
returns-in-Ok-clean_all-clause-answer g c =
    subst (λ r. PartAnswer g.row.Q c.args.settings.relseg _ c.args.part.now c.clean_all.new.self.disk c.clean_all.new.self.past c.clean_all.new.self.faults r (Ok c.in-Ok.mark)) (sym c.in-Ok.is)
    (refl, ((λ t. part_whole g.row.Q c.args.settings.relseg _ _ c.args.journal.now.pen c.args.part.now c.clean_all.new.self (subst (λ n. 1 ≤ n) c.relseg-relseg.ensures.value c.relseg-relseg.ensures.least) c.in-Ok-clean_all.ensures.written c.in-Ok-clean_all.ensures.area c.requires.part t), c.in-Ok-clean_all.ensures.written.settled))
