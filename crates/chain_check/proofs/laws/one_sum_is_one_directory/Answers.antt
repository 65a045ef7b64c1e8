use Rattle.chain_check.proofs.Collisions.{one_directory}
use Rattle.chain_check.proofs.laws.one_sum_is_one_directory.Goals as goal

pub returns : goal.returns
returns c = one_directory c.manifests_are_read_again.ensures.one
