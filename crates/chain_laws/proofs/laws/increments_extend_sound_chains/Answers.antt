use Rattle.chain_laws.proofs.Chains.{increments_extend}
use Rattle.chain_laws.proofs.laws.increments_extend_sound_chains.Goals as goal

pub returns : goal.returns
returns c = increments_extend (record { written = c.plans_may_be_written.ensures.written; listed = c.plans_may_be_written.ensures.listed; read = c.heads_are_read_as_written.ensures.files })
