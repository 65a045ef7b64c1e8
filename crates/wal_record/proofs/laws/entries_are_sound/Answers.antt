use Rattle.wal_record.proofs.Sounding.{read_sound, written_sound}
use Rattle.wal_record.proofs.laws.entries_are_sound.Goals as goal

pub returns-clause-read : goal.returns-clause-read
returns-clause-read c bytes place prev r e = read_sound place prev bytes r e

pub returns-clause-written : goal.returns-clause-written
returns-clause-written c kind w = written_sound kind w
