use Rattle.std.proofs.Common.{arith}
use Rattle.wal_archive.proofs.Scans.{marked_reached_by, marked_scanned}
use Rattle.wal_archive.proofs.ends.any_marks_past.Goals as goal

pub returns-then-branch-clause-past : goal.returns-then-branch-clause-past
returns-then-branch-clause-past g c =
    marked_reached_by (g.V.Vault.files c.args.area.now) (g.V.Vault.files c.loop-name.area)
    c.args.size
    c.args.x c.as_bytes.result.now c.in_ok-marks_past.field-0 c.loop-name.invariant.reads.files
    c.if-branch.true c.in_ok-marks_past.ensures.past

pub returns-clause-past : goal.returns-clause-past
returns-clause-past g c =
    marked_scanned (g.V.Vault.files c.args.area.now) c.args.size c.args.x c.args.names.now
    c.loop-name.name-index (omega (arith, c.loop-name-test.false)) c.requires.names
    c.loop-name.invariant.scanned
