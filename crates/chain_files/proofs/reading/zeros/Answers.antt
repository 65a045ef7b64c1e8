use Rattle.std.proofs.Common.{refl}
use Rattle.lsn_core.specs.byte_words.Pieces.{zero_page}
use Rattle.chain_files.proofs.reading.zeros.Goals as goal

pub returns : goal.returns
unfolding zero_page
returns c = refl
