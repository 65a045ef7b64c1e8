use Rattle.wal_pages.proofs.Written.{head_written}
use Rattle.wal_pages.proofs.laws.written_heads_pass.Goals as goal

pub returns : goal.returns
returns c = head_written
