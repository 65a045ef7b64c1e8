use Rattle.wal_record.proofs.EntryTaken.{record_takes, record_there}
use Rattle.wal_record.proofs.EntryAgain.{record_again, no_beginning}
use Rattle.wal_record.proofs.laws.entries_are_read.Goals as goal

pub returns-clause-of_grammar : goal.returns-clause-of_grammar
returns-clause-of_grammar c bytes place prev r fits e = let t = record_takes place prev bytes r fits e in (t.entry, t.rest, t.whole, t.is)

pub returns-clause-read : goal.returns-clause-read
returns-clause-read c entry behind place prev r is = record_again entry behind place prev r is

pub returns-clause-one : goal.returns-clause-one
returns-clause-one c a b x y place prev before r s is has e = let o = no_beginning a b x y place prev before r s is has e in (o.bytes, o.behind, o.entry)

pub returns-clause-place : goal.returns-clause-place
returns-clause-place c bytes place prev r e = record_there place prev bytes r e
