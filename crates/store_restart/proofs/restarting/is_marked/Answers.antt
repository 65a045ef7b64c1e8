-- A file that has a size is there.
use Rattle.store_restart.proofs.Back.{marked_is}
use Rattle.store_restart.proofs.restarting.is_marked.Goals as goal

pub returns-clause-told : goal.returns-clause-told
returns-clause-told g c = marked_is (g.V.Vault.files c.args.area.now) c.in_ok-size.size c.is_some.result c.is_some.ensures c.in_ok-size.ensures.size
