-- The names are those of the picks.
use Rattle.run_command.proofs.Crews.{are_named, are_starts}
use Rattle.std.specs.Prelude.{box_value}
use Rattle.run_command.specs.Inner.{passes_for}
use Rattle.run_command.proofs.running.run_named.Goals as goal

pub run_found-requires-clause-ledgers : goal.run_found-requires-clause-ledgers
run_found-requires-clause-ledgers g c κs within = are_named (passes_for c.args.work.seats.items) c.args.blanks c.requires.ledgers

pub run_found-requires-clause-starts : goal.run_found-requires-clause-starts
run_found-requires-clause-starts g c κs within = are_starts g.V.Vault c.args.found (box_value c.args.sums)
