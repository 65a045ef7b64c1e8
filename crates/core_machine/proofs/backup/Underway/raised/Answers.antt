use Rattle.std.proofs.Common.{ℕ, ◌-◌, ◌++◌, ◌∙◌, ap, map, length, replicate, arith}
use Rattle.std.specs.FinMap.{empty, insert, keys}
use Rattle.lsn_core.specs.Blocks.{pages_of}
use Rattle.pg_page.specs.Header.{zero_page}
use Rattle.store_core.specs.Increments.{table_between, raised_pages}
use Rattle.store_core.specs.InMemory.{published_in}
use Rattle.store_core.proofs.Overlaid.{pages_more, pages_all}
use Rattle.core_machine.proofs.backup.Underway.raised.Goals as goal

pub loop-i-preserved : goal.loop-i-preserved
loop-i-preserved c =
    let l = c.len-i-end.ensures ∙ c.in_ok-forks.forks.ok.0 in
    let pages = pages_of c.args.self.now.copy c.index-fork.result.now in
    pages_more (raised_pages c.args.relseg (table_between (map published_in c.args.sums.now) c.args.prior.now.start.0 c.args.self.now.start.0) c.args.prior.now.copy c.args.self.now.copy)
    empty c.loop-i.copy c.raise_fork.new.copy c.in_ok-forks.forks.items c.loop-i.i c.index-fork.result.now (omega (arith, c.loop-i-test.true, l)) c.index-fork.ensures c.loop-i.invariant
    (c.in_ok-raise_fork.ensures ∙ ap (λ (n : ℕ). insert c.loop-i.copy c.index-fork.result.now (pages ++ replicate (n - length pages) zero_page)) c.in_ok-count.ensures)

pub returns : goal.returns
returns c =
    let l = c.len-i-end.ensures ∙ c.in_ok-forks.forks.ok.0 in
    pages_all (raised_pages c.args.relseg (table_between (map published_in c.args.sums.now) c.args.prior.now.start.0 c.args.self.now.start.0) c.args.prior.now.copy c.args.self.now.copy)
    empty c.loop-i.copy c.in_ok-forks.forks.items (keys c.args.self.now.copy) c.loop-i.i c.in_ok-forks.ensures (omega (arith, c.loop-i-test.false, l)) c.loop-i.invariant
