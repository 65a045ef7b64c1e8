-- A window forgets bytes.
use Rattle.stream_laws.proofs.Moved.{forgets}
use Rattle.stream_laws.proofs.windows_forget.Goals as goal

pub returns : goal.returns
returns c = forgets
