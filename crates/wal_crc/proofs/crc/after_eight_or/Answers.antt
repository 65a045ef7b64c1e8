use Rattle.std.proofs.Common.{◌/◌, length}
use Rattle.wal_crc.proofs.Runs.{whole_run}
use Rattle.wal_crc.proofs.crc.after_eight_or.Goals as goal

pub returns : goal.returns
returns c = cc (whole_run 8 (length c.args.bytes.now / 8) c.args.register c.args.bytes.now)
