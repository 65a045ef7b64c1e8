use Rattle.std.proofs.Common.{◌+◌, ◌-◌}
use Rattle.wal_record.specs.Tips.{wal_limit}
use Rattle.recovery.proofs.Hearing.{KeepsHeard}
use Rattle.recovery.proofs.replaying.redo_from.Given as goal

-- what the cursor gave was told and replayed
abbrev pub invariant-loop-record : goal.invariant-loop-record
invariant-loop-record g l = KeepsHeard g.V.Vault g.P.Pages g.L.Listener l.settings l.fn.begin l.upto l.fn.counted l.fn.wal l.wal l.fn.target l.target l.fn.listener l.listener l.cursor l.progress

-- each entry ends behind the one before, and within the WAL's room
abbrev pub decreases-loop-record : goal.decreases-loop-record
decreases-loop-record g l = wal_limit l.settings.segment + 1 - l.cursor.tip.end
