use Rattle.std.proofs.Common.{Some, sym, ◌∙◌}
use Rattle.rel_files.proofs.KnownLengths.{known_learned, noted_learned}
use Rattle.rel_files.proofs.RawCalls.{whole_is}
use Rattle.rel_files.proofs.raw_calls.ForksRawCalls.count.Goals as goal

pub returns-in-Some-clause-whole : goal.returns-in-Some-clause-whole
returns-in-Some-clause-whole g c s h = sym (h.known c.args.fork.now c.in-Some.count (sym c.find.ensures ∙ c.in-Some.is)) ∙ sym (whole_is s c.args.fork.now)

pub returns-in-Some-clause-known : goal.returns-in-Some-clause-known
returns-in-Some-clause-known g c = known_learned c.args.self.now.known c.args.fork.now (Some c.in-Some.count) (sym c.in-Some.is ∙ c.find.ensures)

pub returns-in_ok-note-clause-whole : goal.returns-in_ok-note-clause-whole
returns-in_ok-note-clause-whole g c s h = sym c.in-Some-count.is ∙ c.in_ok-count.ensures.count s h.files ∙ sym (whole_is s c.args.fork.now)

pub returns-in_ok-note-clause-known : goal.returns-in_ok-note-clause-known
returns-in_ok-note-clause-known g c = noted_learned c.args.self.now.known c.note.new.known c.args.fork.now c.in-Some-count.count c.in_ok-note.ensures.noted
