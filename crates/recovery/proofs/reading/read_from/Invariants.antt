use Rattle.std.proofs.Common.{◌+◌, ◌-◌, List}
use Rattle.wal_record.specs.declared.record.Record.{Record}
use Rattle.wal_record.specs.Tips.{wal_limit}
use Rattle.recovery.proofs.Stepping.{HasRead}
use Rattle.recovery.proofs.reading.read_from.Given as goal

-- the cursor gave some entries
abbrev pub invariant-loop-entry : goal.invariant-loop-entry
invariant-loop-entry g l = (entries : List Record) × HasRead g.V.Vault l.settings l.fn.begin l.upto l.fn.wal l.wal l.cursor entries

-- each entry ends behind the one before, and within the WAL's room
abbrev pub decreases-loop-entry : goal.decreases-loop-entry
decreases-loop-entry g l = wal_limit l.settings.segment + 1 - l.cursor.tip.end
