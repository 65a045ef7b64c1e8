use Rattle.std.proofs.Common.{rules}
use Rattle.wal_crc.proofs.Runs.{eight_run}
use Rattle.wal_crc.proofs.crc.after_eight.Goals as goal

pub returns : goal.returns
returns c = cc (eight_run c.args.register c.args.eight (search rules) (search rules))
