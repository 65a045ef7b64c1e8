-- Pieces go on.
use Rattle.follow_laws.proofs.GoOn.{streams_go_on}
use Rattle.follow_laws.proofs.streams_go_on.Goals as goal

pub returns : goal.returns
returns c = streams_go_on c.streams_are_archives.ensures c.reading_waits_for_bytes.ensures.head
