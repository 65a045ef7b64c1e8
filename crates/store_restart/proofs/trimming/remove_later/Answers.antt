-- A file of a later segment is removed, and no other one changes.
use Rattle.std.proofs.Common.{arith}
use Rattle.store_restart.specs.Trimmed.{IsArchiveFile}
use Rattle.store_restart.proofs.TrimCalls.{later_file, archive_file, not_later, removal_added, removal_changes, stays}
use Rattle.store_restart.proofs.trimming.remove_later.Goals as goal

pub returns-then-number-own-clause-events : goal.returns-then-number-own-clause-events
returns-then-number-own-clause-events g c =
    let r = c.remove.ensures in
    removal_added c.args.size c.args.own c.args.name.now (g.V.Vault.past c.args.wal.now) (g.V.Vault.past c.remove.new.self) c.remove.result
    (later_file c.args.size c.args.own c.in-Some.number c.args.name.now c.in-Some.ensures.segment c.if-number-own.true) r.noted r.tried

pub returns-then-number-own-clause-changes : goal.returns-then-number-own-clause-changes
returns-then-number-own-clause-changes g c =
    let r = c.remove.ensures in
    removal_changes g.V.Vault (IsArchiveFile c.args.size) c.args.name.now c.args.wal.now c.remove.new.self c.remove.result
    (archive_file c.args.size c.in-Some.number c.args.name.now c.in-Some.ensures.segment) r.removed r.memory r.failed r.noted r.tried r.cause.later

pub returns-else-number-own-clause-removed : goal.returns-else-number-own-clause-removed
returns-else-number-own-clause-removed g c =
    stays c.args.size c.args.own c.args.name.now (g.V.Vault.files c.args.wal.now)
    (not_later c.args.size c.args.own c.in-Some.number c.args.name.now c.in-Some.ensures.segment (omega (arith, c.if-number-own.false)))
