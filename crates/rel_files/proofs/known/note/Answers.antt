use Rattle.rel_files.proofs.KnownLengths.{noted, noted_is}
use Rattle.rel_files.proofs.known.note.Goals as goal

pub returns-clause-right : goal.returns-clause-right
returns-clause-right c = noted c.args.known.now c.insert.new.self c.args.fork.now c.args.blocks c.in_ok-insert.ensures.updates

pub returns-clause-noted : goal.returns-clause-noted
returns-clause-noted c = noted_is c.args.known.now c.insert.new.self c.args.fork.now c.args.blocks c.in_ok-insert.ensures.updates
