-- A name is that of one segment.
use Rattle.wal_reader.proofs.WalNames.{other_iff}
use Rattle.wal_reader.proofs.names.is_other_timeline.Goals as goal

pub returns-in-Some : goal.returns-in-Some
returns-in-Some c = other_iff c.args.size c.in-Some.timeline c.in-Some._number c.args.name.now c.in-Some.ensures.found c.in-Some.ensures.named
