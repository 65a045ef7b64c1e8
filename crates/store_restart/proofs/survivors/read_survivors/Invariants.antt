use Rattle.std.proofs.Common.{◌+◌, ◌-◌, List}
use Rattle.wal_record.specs.declared.record.Record.{Record}
use Rattle.wal_record.specs.Tips.{wal_limit}
use Rattle.store_restart.proofs.Survived.{HasSurvived, IsNamedBy}
use Rattle.store_restart.proofs.survivors.read_survivors.Given as goal

-- the cursor gave some survivors
abbrev pub invariant-loop-entry : goal.invariant-loop-entry
invariant-loop-entry g l =
    (rs : List Record) × (HasSurvived g.V.Vault l.settings l.fn.wal l.wal l.cursor rs × (IsNamedBy rs l.named))

-- each ends behind the one before, and within the WAL's room
abbrev pub decreases-loop-entry : goal.decreases-loop-entry
decreases-loop-entry g l = wal_limit l.settings.segment + 1 - l.cursor.tip.end
