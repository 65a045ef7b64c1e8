use Rattle.chain_check.proofs.Sorted.{read_sorted}
use Rattle.chain_check.proofs.listing.manifest_in.Goals as goal

pub returns-in-Ok-clause-sorted : goal.returns-in-Ok-clause-sorted
returns-in-Ok-clause-sorted c = read_sorted c.args.bytes.now c.in-Ok.manifest c.in-Ok.ensures
