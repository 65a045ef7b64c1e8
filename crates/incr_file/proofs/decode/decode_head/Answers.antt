use Rattle.std.proofs.Common.{rules}
use Rattle.incr_file.proofs.Heads.{read_places}
use Rattle.incr_file.proofs.decode.decode_head.Goals as goal

pub returns-clause-places : goal.returns-clause-places
returns-clause-places c = read_places c.args.bytes.now c.args.file _ (search rules)
