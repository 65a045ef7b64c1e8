use Rattle.wal_archive.proofs.Chain.{given_stands, stands_given}
use Rattle.wal_archive.proofs.laws.what_stands_is_given.Goals as goal

pub returns : goal.returns
returns c = λ judge mib system a tip r some arch end. (
  given_stands judge mib system a tip r some end,
  stands_given judge mib system a tip r some arch end,
)
