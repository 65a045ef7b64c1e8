use Rattle.std.proofs.Common.{arith}
use Rattle.lsn_core.specs.Blocks.{pages_of}
use Rattle.store_core.proofs.Stored.{unread_put}
use Rattle.store_core.proofs.stores.add_unread.Goals as goal

pub returns-in_ok-put_page : goal.returns-in_ok-put_page
returns-in_ok-put_page c =
    unread_put c.args.copy.now c.empty_fork.new.store c.put_page.new.store (pages_of c.args.from.now c.args.fork.now) c.args.fork.now c.in_ok-number.field-0 c.zero_page.result
    c.in_ok-empty_fork.ensures (omega (arith, c.if-count-gt0.true, c.blocks_in-count.ensures, c.in_ok-number.ensures)) c.zero_page.ensures c.in_ok-put_page.ensures
