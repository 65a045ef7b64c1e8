use Rattle.chain_laws.proofs.Full.{alike_sound}
use Rattle.chain_laws.proofs.laws.chains_are_sound_alike.Goals as goal

pub returns : goal.returns
returns c = alike_sound c.directories_hold_one_store.ensures.alike
