use Rattle.std.proofs.Common.{subst}
use Rattle.std.proofs.lemmas.Result.{on_ok_weaker}
use Rattle.lsn_core.specs.Store.{Store}
use Rattle.lsn_core.specs.Blocks.{with_cut}
use Rattle.rel_files.specs.Shown.{HoldsStore}
use Rattle.rel_files.proofs.WholePages.{whole_mended, cut_leaves_whole}
use Rattle.rel_files.proofs.forks.ForksPages.cut.Goals as goal

pub returns-clause-cut : goal.returns-clause-cut
returns-clause-cut g c =
    let fork = c.args.fork in
    let to = c.args.to in
    on_ok_weaker c.cut_to.result (λ cuts s h. record {
      holds = subst (λ (t : Store). HoldsStore g.V.Vault c.cut_to.new.self (with_cut t fork to)) (whole_mended s fork h.whole) (cuts s h.holds);
      whole = cut_leaves_whole s fork to h.whole;
    })
    c.cut_to.ensures.left
