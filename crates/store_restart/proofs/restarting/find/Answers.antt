-- The WAL is synced, and read.
use Rattle.std.proofs.Common.{Err, ap, sym, subst, ◌∙◌, Option}
use Rattle.lsn_core.specs.Files.{Files}
use Rattle.lsn_core.specs.declared.fault.AreaFault.{AreaFault}
use Rattle.vault.proofs.Changed.{changes_on}
use Rattle.rel_files.proofs.ForkFrames.{reads_change}
use Rattle.data_areas.proofs.Marks.{sync_changes}
use Rattle.store_restart.specs.Restarted.{IsUnread}
use Rattle.store_restart.specs.Survivors.{AreRead}
use Rattle.store_restart.proofs.Back.{durable_find, unread_sync, unread_by}
use Rattle.store_restart.proofs.restarting.find.Goals as goal

pub returns-in-Err-clause-cause : goal.returns-in-Err-clause-cause
returns-in-Err-clause-cause g c =
    let v = g.V.Vault in
    subst (IsUnread v c.args.settings.now c.args.wal.now c.sync.new.self) (sym c.of_wal.ensures)
    (unread_sync v c.args.settings.now c.args.wal.now c.sync.new.self c.in-Err.why (λ e. c.sync.ensures.cause.failed (c.in-Err.is ∙ ap (λ (w : AreaFault). Err w) e)))

pub returns-in-Err-clause-same : goal.returns-in-Err-clause-same
returns-in-Err-clause-same g c =
    let e = c.sync.ensures in
    sync_changes g.V.Vault (λ name. ⊥) c.args.wal.now c.sync.new.self c.sync.result e.same e.noted e.tried e.cause.later

pub returns-in-Ok-clause-found : goal.returns-in-Ok-clause-found
returns-in-Ok-clause-found g c = subst (λ (o : Option Files). AreRead c.args.settings.now o c.in-Ok.found) c.sync.ensures.same c.in-Ok.ensures.found

pub returns-in-Ok-clause-same : goal.returns-in-Ok-clause-same
returns-in-Ok-clause-same g c =
    let v = g.V.Vault in
    let e = c.sync.ensures in
    changes_on v (λ name. ⊥) c.args.wal.now c.sync.new.self c.read_survivors.new.wal (sync_changes v (λ name. ⊥) c.args.wal.now c.sync.new.self c.sync.result e.same e.noted e.tried e.cause.later)
    (reads_change v (λ name. ⊥) c.sync.new.self c.read_survivors.new.wal c.read_survivors.ensures.reads)

pub returns-in-Err-read_survivors-clause-cause : goal.returns-in-Err-read_survivors-clause-cause
returns-in-Err-read_survivors-clause-cause g c =
    let v = g.V.Vault in
    subst (IsUnread v c.args.settings.now c.args.wal.now c.read_survivors.new.wal) (sym c.of_reader.ensures)
    (unread_by v c.args.settings.now c.args.wal.now c.sync.new.self c.read_survivors.new.wal c.in-Err-read_survivors.why c.sync.ensures.same c.sync.ensures.cause.later c.in-Err-read_survivors.ensures.refused)

pub returns-in-Err-read_survivors-clause-same : goal.returns-in-Err-read_survivors-clause-same
returns-in-Err-read_survivors-clause-same g c =
    let v = g.V.Vault in
    let e = c.sync.ensures in
    changes_on v (λ name. ⊥) c.args.wal.now c.sync.new.self c.read_survivors.new.wal (sync_changes v (λ name. ⊥) c.args.wal.now c.sync.new.self c.sync.result e.same e.noted e.tried e.cause.later)
    (reads_change v (λ name. ⊥) c.sync.new.self c.read_survivors.new.wal c.read_survivors.ensures.reads)

pub returns-in-Ok-clause-durable : goal.returns-in-Ok-clause-durable
returns-in-Ok-clause-durable g c =
    let e = c.sync.ensures in
    durable_find g.V.Vault c.args.wal.now c.sync.new.self c.read_survivors.new.wal c.sync.result c.in_default.field-0 c.in_default.is e.same e.noted c.read_survivors.ensures.reads
