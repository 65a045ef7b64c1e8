-- A window shows the end.
use Rattle.stream_laws.proofs.Shown.{shows}
use Rattle.stream_laws.proofs.windows_show_the_end.Goals as goal

pub returns : goal.returns
returns c = shows c.streams_are_archives.ensures c.reading_waits_for_bytes.ensures.decide
