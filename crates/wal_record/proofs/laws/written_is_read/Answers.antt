use Rattle.wal_record.specs.Entry.{own_place}
use Rattle.wal_record.proofs.Sealed.{sealed_is_entry, sealed_size}
use Rattle.wal_record.proofs.EntryAgain.{record_again}
use Rattle.wal_record.proofs.laws.written_is_read.Goals as goal
use Rattle.wal_record.specs.Spelling.{sealed}

pub returns-clause-of_grammar : goal.returns-clause-of_grammar
returns-clause-of_grammar c r prev w xid before linked comes = sealed_is_entry r prev w xid before linked comes

pub returns-clause-read : goal.returns-clause-read
returns-clause-read c r prev behind w xid before linked comes = record_again (sealed r) behind (own_place r) prev r (sealed_is_entry r prev w xid before linked comes)

pub returns-clause-total : goal.returns-clause-total
returns-clause-total c r w = let s = sealed_size r w in (s.total, (s.least, s.most))
