use Rattle.rel_files.proofs.KnownLengths.{ordered}
use Rattle.backup_sending.proofs.listing.lengths.Goals as goal

pub returns-clause-order : goal.returns-clause-order
returns-clause-order c = ordered c.args.known.now c.iter.ensures.ordered
