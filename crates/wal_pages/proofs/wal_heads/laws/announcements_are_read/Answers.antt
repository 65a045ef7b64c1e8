use Rattle.wal_pages.proofs.wal_heads.HeadsTaken.{heads_takes}
use Rattle.wal_pages.proofs.wal_heads.HeadsAgain.{heads_again}
use Rattle.wal_pages.proofs.wal_heads.laws.announcements_are_read.Goals as goal

pub returns-clause-of_grammar : goal.returns-clause-of_grammar
returns-clause-of_grammar c bytes x fits e = let t = heads_takes 34 0 0 bytes x fits e in (t.spelled, t.are)

pub returns-clause-read : goal.returns-clause-read
returns-clause-read c hs main parts are = heads_again hs main parts are
