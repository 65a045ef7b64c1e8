-- A window takes a piece.
use Rattle.stream_laws.proofs.Moved.{takes}
use Rattle.stream_laws.proofs.windows_take.Goals as goal

pub returns : goal.returns
returns c = takes
