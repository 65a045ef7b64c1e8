use Rattle.std.proofs.Common.{◌-◌, arith}
use Rattle.lsn_core.specs.Blocks.{pages_of}
use Rattle.store_core.proofs.Overlaid.{raised_put}
use Rattle.store_core.proofs.stores.raise_fork.Goals as goal

pub returns-in_ok-put_page : goal.returns-in_ok-put_page
returns-in_ok-put_page c =
    raised_put c.args.copy.now c.copy_fork.new.copy c.put_page.new.store c.args.fork.now (pages_of c.args.from.now c.args.fork.now) (c.args.count - 1) c.args.count c.zero_page.result
    c.in_ok-copy_fork.ensures (omega (arith, c.if-count-size.true)) (omega (arith, c.if-count-size.true, c.blocks_in-size.ensures)) c.zero_page.ensures c.in_ok-put_page.ensures
