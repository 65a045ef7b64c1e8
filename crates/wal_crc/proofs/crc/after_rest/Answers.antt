use Rattle.std.proofs.Common.{◌/◌, length}
use Rattle.wal_crc.proofs.Runs.{whole_run}
use Rattle.wal_crc.proofs.crc.after_rest.Goals as goal

pub returns : goal.returns
returns c = cc (whole_run 16 (length c.args.bytes.now / 16) c.args.register c.args.bytes.now)
