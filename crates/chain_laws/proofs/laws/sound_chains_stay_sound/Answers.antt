use Rattle.chain_laws.proofs.Full.{chain_later}
use Rattle.chain_laws.proofs.laws.sound_chains_stay_sound.Goals as goal

pub returns : goal.returns
returns c = chain_later
