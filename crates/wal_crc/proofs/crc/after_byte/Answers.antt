use Rattle.std.proofs.Common.{ap, ◌∙◌}
use Rattle.wal_crc.specs.Crc.{byte_step}
use Rattle.wal_crc.proofs.Steps.{byte_joined}
use Rattle.wal_crc.proofs.crc.after_byte.Goals as goal

pub returns : goal.returns
returns c = byte_joined _ _ c.after_zeros.ensures ∙ ap (byte_step c.args.register) c.from.ensures
