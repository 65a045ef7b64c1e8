use Rattle.std.proofs.Common.{ap, ◌∙◌}
use Rattle.lsn_core.specs.Store.{Store}
use Rattle.lsn_core.specs.Blocks.{with_fork}
use Rattle.store_core.proofs.Stored.{emptied}
use Rattle.store_core.proofs.stores.empty_fork.Goals as goal

pub returns : goal.returns
returns c =
    c.in_ok-make_fork.ensures ∙ ap (λ (s : Store). with_fork s c.args.fork.now) c.in_ok-remove_fork.ensures ∙ emptied c.args.store.now c.args.fork.now
