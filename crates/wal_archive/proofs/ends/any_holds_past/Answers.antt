use Rattle.std.proofs.Common.{arith}
use Rattle.wal_archive.proofs.Scans.{held_reached_by, held_scanned}
use Rattle.wal_archive.proofs.ends.any_holds_past.Goals as goal

pub returns-then-branch-clause-past : goal.returns-then-branch-clause-past
returns-then-branch-clause-past g c =
    held_reached_by (g.V.Vault.files c.args.area.now) (g.V.Vault.files c.loop-name.area) c.args.size
    c.args.x c.as_bytes.result.now c.in_ok-holds_past.field-0 c.loop-name.invariant.reads.files
    c.if-branch.true c.in_ok-holds_past.ensures.past

pub returns-clause-past : goal.returns-clause-past
returns-clause-past g c =
    held_scanned (g.V.Vault.files c.args.area.now) c.args.size c.args.x c.args.names.now
    c.loop-name.name-index (omega (arith, c.loop-name-test.false)) c.requires
    c.loop-name.invariant.scanned
