use Rattle.std.proofs.Common.{subst}
use Rattle.std.proofs.lemmas.Result.{IfOk-weaker}
use Rattle.lsn_core.specs.Store.{Store}
use Rattle.lsn_core.specs.Shown.{BlockAnswer, ReadsBlock}
use Rattle.rel_files.specs.Shown.{HoldsStore, ShowsStore, ReadsWhole}
use Rattle.rel_files.proofs.WholePages.{whole_mended}
use Rattle.rel_files.proofs.forks.ForksPages.read_block.Goals as goal

pub returns-clause-read : goal.returns-clause-read
returns-clause-read g c =
    let at = c.args.at in
    IfOk-weaker c.read.result (ReadsWhole (HoldsStore g.V.Vault c.args.self.now) at c.args.into.now c.read.new.into) (ReadsBlock (ShowsStore g.V.Vault c.args.self.now) at c.args.into.now c.read.new.into) (λ there reads s h.
    subst (λ (t : Store). BlockAnswer t at c.args.into.now c.read.new.into there) (whole_mended s at.fork h.whole) (reads s h.holds))
    c.read.ensures.whole

pub returns-clause-same : goal.returns-clause-same
returns-clause-same g c s h = record { holds = c.read.ensures.held s h.holds; whole = h.whole }
