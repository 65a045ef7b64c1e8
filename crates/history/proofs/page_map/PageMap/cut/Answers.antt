use Rattle.std.proofs.Common.{sym, subst}
use Rattle.lsn_core.specs.Store.{Store}
use Rattle.history.specs.Pages.{store_in}
use Rattle.history.proofs.Counts.{IsMoved, recounted, moved_cut}
use Rattle.history.proofs.page_map.PageMap.cut.Goals as goal

pub invariant_of-self : goal.invariant_of-self
invariant_of-self c =
    let old = store_in c.self.inside.forks in
    let new = store_in c.cut_in.new.forks in
    recounted c.self.inside.total c.recounted-self-inside.result c.length_in-before.result c.length_in.result old new c.args.fork.now c.self.invariant c.recounted-self-inside.ensures c.length_in-before.ensures c.length_in.ensures
    (subst (λ (s : Store). IsMoved old s c.args.fork.now) (sym c.cut_in.ensures) (moved_cut old c.args.fork.now c.args.count))
