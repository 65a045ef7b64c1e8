use Rattle.std.proofs.Common.{◌/◌, length}
use Rattle.wal_crc.proofs.Runs.{whole_run}
use Rattle.wal_crc.proofs.crc.Crc.add.Goals as goal

pub returns : goal.returns
returns c = cc (whole_run 256 (length c.args.bytes.now / 256) c.args.self.now c.args.bytes.now)
