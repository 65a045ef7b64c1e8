use Rattle.std.proofs.Common.{subst}
use Rattle.store_locks.specs.Inside.{IsOfFirst}
use Rattle.store_insertion.proofs.OfOne.{change_alone}
use Rattle.store_insertion.proofs.form.partition_of_op.Goals as goal

pub returns-in-Change-clause-alone : goal.returns-in-Change-clause-alone
returns-in-Change-clause-alone c = change_alone c.args.op.now c.in-Change.items c.partition_of_items.result c.in-Change.is c.requires (subst (IsOfFirst c.partition_of_items.result) c.as_slice.ensures c.partition_of_items.ensures.first)
