use Rattle.store_core.specs.Steps.{unread}
use Rattle.store_core.proofs.Stored.{forks_more}
use Rattle.core_machine.proofs.backup.add_forks.Goals as goal

pub loop-i-preserved : goal.loop-i-preserved
loop-i-preserved c =
    forks_more unread c.args.disk.now c.args.copy.now c.loop-i.copy c.add_unread.new.copy c.args.forks.now c.loop-i.i c.index-forks-i.result c.loop-i-test.true c.index-forks-i.is c.loop-i.invariant c.in_ok-add_unread.ensures
