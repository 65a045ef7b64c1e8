use Rattle.std.proofs.Common.{◌≡◌, fold, take}
use Rattle.wal_crc.specs.Crc.{crc_run}
use Rattle.wal_crc.proofs.crc.two_runs.Given as goal

abbrev pub invariant-pairs : goal.invariant-pairs
invariant-pairs l = (l.first ≡ fold crc_run l.register (take l.i l.front)) × (l.second ≡ fold crc_run 0 (take l.i l.back))
