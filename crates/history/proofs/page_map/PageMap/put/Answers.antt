use Rattle.std.proofs.Common.{sym, subst}
use Rattle.lsn_core.specs.Store.{Store}
use Rattle.history.specs.Pages.{store_in}
use Rattle.history.proofs.Counts.{IsMoved, recounted, moved_insert}
use Rattle.lsn_core.specs.Blocks.{pages_of, with_block}
use Rattle.history.proofs.page_map.PageMap.put.Goals as goal

pub invariant_of-self-2 : goal.invariant_of-self-2
invariant_of-self-2 c =
    let old = store_in c.self.inside.forks in
    let new = store_in c.put_in.new.forks in
    recounted c.self.inside.total c.recounted-self-inside.result c.length_in-before.result c.length_in.result old new c.args.at.now.fork c.self.invariant c.recounted-self-inside.ensures c.length_in-before.ensures c.length_in.ensures
    (subst (λ (s : Store). IsMoved old s c.args.at.now.fork) (sym c.in_ok-put_in.ensures.put) (moved_insert old c.args.at.now.fork (with_block (pages_of old c.args.at.now.fork) c.args.at.now.block c.args.page.now)))
