use Rattle.std.proofs.Common.{ap, ◌∙◌}
use Rattle.std.proofs.lemmas.Result.{IfOk-weaker}
use Rattle.lsn_core.specs.Store.{Store}
use Rattle.lsn_core.specs.Blocks.{block_count}
use Rattle.lsn_core.specs.Shown.{CountsBlocks}
use Rattle.rel_files.specs.Shown.{HoldsStore, ShowsStore, CountsWhole}
use Rattle.rel_files.proofs.WholePages.{whole_mended}
use Rattle.rel_files.proofs.forks.ForksPages.blocks.Goals as goal

pub returns-clause-blocks : goal.returns-clause-blocks
returns-clause-blocks g c =
    let fork = c.args.fork in
    IfOk-weaker c.count.result (CountsWhole (HoldsStore g.V.Vault c.args.self.now) fork) (CountsBlocks (ShowsStore g.V.Vault c.args.self.now) fork) (λ count counts s h.
    counts s h.holds ∙ ap (λ (t : Store). block_count t fork) (whole_mended s fork h.whole))
    c.count.ensures.whole

pub returns-clause-same : goal.returns-clause-same
returns-clause-same g c s h = record { holds = c.count.ensures.held s h.holds; whole = h.whole }
