use Rattle.std.proofs.Common.{◌∙◌, arith}
use Rattle.std.specs.FinMap.{empty}
use Rattle.store_core.proofs.Stored.{forks_more, whole_copied}
use Rattle.store_core.proofs.stores.copied.Goals as goal

pub loop-i-preserved : goal.loop-i-preserved
loop-i-preserved c =
    let l = c.len-i-end.ensures ∙ c.in_ok-forks.forks.ok.0 in
    forks_more (λ pages. pages) c.args.from.now empty c.loop-i.copy c.copy_fork.new.copy c.in_ok-forks.forks.items c.loop-i.i c.index.result.now (omega (arith, c.loop-i-test.true, l)) c.index.ensures c.loop-i.invariant c.in_ok-copy_fork.ensures

pub returns : goal.returns
returns c =
    let l = c.len-i-end.ensures ∙ c.in_ok-forks.forks.ok.0 in
    whole_copied c.args.from.now c.loop-i.copy c.in_ok-forks.forks.items c.loop-i.i c.in_ok-forks.ensures (omega (arith, c.loop-i-test.false, l)) c.loop-i.invariant
