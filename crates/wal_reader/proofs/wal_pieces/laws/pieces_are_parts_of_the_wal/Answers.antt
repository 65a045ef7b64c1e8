-- A piece of a WAL that is known is a part of its entries.
use Rattle.wal_reader.proofs.wal_pieces.Known.{parts_of_known, up_to_target, no_damage}
use Rattle.wal_reader.proofs.wal_pieces.laws.pieces_are_parts_of_the_wal.Goals as goal

pub returns-clause-parts : goal.returns-clause-parts
returns-clause-parts c = parts_of_known

pub returns-clause-target : goal.returns-clause-target
returns-clause-target c = up_to_target

pub returns-clause-whole : goal.returns-clause-whole
returns-clause-whole c = no_damage
