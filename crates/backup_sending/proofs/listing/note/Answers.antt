use Rattle.backup_sending.proofs.Lengths.{note_found, note_put}
use Rattle.backup_sending.proofs.listing.note.Goals as goal

pub returns-then-contains_key : goal.returns-then-contains_key
returns-then-contains_key c = note_found c.args.fork.now c.args.known.now c.if-contains_key.ensures

pub returns : goal.returns
returns c = note_put c.args.fork.now c.args.known.now c.insert.new.self c.if-contains_key.ensures c.in_ok-insert.ensures.updates
