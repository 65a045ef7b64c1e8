use Rattle.std.proofs.Common.{rules}
use Rattle.wal_crc.proofs.Runs.{sixteen_whole}
use Rattle.wal_crc.proofs.crc.after_sixteen.Goals as goal

pub returns : goal.returns
returns c = cc (sixteen_whole c.args.register c.args.sixteen (search rules) (search rules))
