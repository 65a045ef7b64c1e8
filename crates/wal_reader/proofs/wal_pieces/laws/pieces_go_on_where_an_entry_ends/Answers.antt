-- A reading of known entries goes on where one ends.
use Rattle.wal_reader.proofs.wal_pieces.Places.{going_on, going_on_whole, none_behind}
use Rattle.wal_reader.proofs.wal_pieces.laws.pieces_go_on_where_an_entry_ends.Goals as goal

pub returns-clause-on : goal.returns-clause-on
returns-clause-on c = going_on

pub returns-clause-whole : goal.returns-clause-whole
returns-clause-whole c = going_on_whole

pub returns-clause-behind : goal.returns-clause-behind
returns-clause-behind c = none_behind
