use Rattle.std.proofs.Common.{◌∙◌, arith}
use Rattle.std.specs.FinMap.{empty, keys}
use Rattle.store_core.specs.Increments.{pages_over}
use Rattle.store_core.proofs.Overlaid.{pages_more, pages_all}
use Rattle.core_machine.proofs.over.copy_over.Goals as goal

pub loop-i-preserved : goal.loop-i-preserved
loop-i-preserved c =
    let l = c.len-i-end.ensures ∙ c.in_ok-forks.forks.ok.0 in
    pages_more (pages_over c.args.sent.now c.args.copy.now c.args.prior.now) empty c.loop-i.store c.put_fork.new.store c.in_ok-forks.forks.items c.loop-i.i c.index.result.now (omega (arith, c.loop-i-test.true, l)) c.index.ensures c.loop-i.invariant c.in_ok-put_fork.ensures

pub returns : goal.returns
returns c =
    let l = c.len-i-end.ensures ∙ c.in_ok-forks.forks.ok.0 in
    pages_all (pages_over c.args.sent.now c.args.copy.now c.args.prior.now) empty c.loop-i.store c.in_ok-forks.forks.items (keys c.args.copy.now) c.loop-i.i c.in_ok-forks.ensures (omega (arith, c.loop-i-test.false, l)) c.loop-i.invariant
