-- The later files are removed, the place's own is cut, and that is synced.
use Rattle.std.proofs.Common.{ℕ, subst}
use Rattle.lsn_core.specs.Segment.{IsSegmentMib}
use Rattle.vault.specs.Area.{Related}
use Rattle.vault.proofs.Through.{adds_on, adds_sync}
use Rattle.vault.proofs.Changed.{changes_on}
use Rattle.store_restart.specs.Trimmed.{IsArchiveFile, IsTrim}
use Rattle.store_restart.specs.Trimming.{Clears}
use Rattle.store_restart.proofs.Trimmed.{front_kept, trimmed_on}
use Rattle.store_restart.proofs.TrimCalls.{sync_changes}
use Rattle.store_restart.proofs.trimming.trim.Goals as goal

pub returns-in_err-remove_all_later-clause-keeps : goal.returns-in_err-remove_all_later-clause-keeps
returns-in_err-remove_all_later-clause-keeps g c =
    front_kept c.args.size (subst IsSegmentMib c.mib-mib.ensures.value c.mib-mib.ensures.range).least c.args.end.0 (g.V.Vault.past c.args.wal.now) (g.V.Vault.past c.remove_all_later.new.wal) (c.in_err-remove_all_later.ensures.events c.args.end.0 c.segment_of.ensures)

pub returns-in_err-cut_own-clause-keeps : goal.returns-in_err-cut_own-clause-keeps
returns-in_err-cut_own-clause-keeps g c =
    let p = g.V.Vault.past in
    front_kept c.args.size (subst IsSegmentMib c.mib-mib.ensures.value c.mib-mib.ensures.range).least c.args.end.0 (p c.args.wal.now) (p c.cut_own.new.wal)
    (adds_on (IsTrim c.args.size c.args.end.0) (p c.args.wal.now) (p c.remove_all_later.new.wal) (p c.cut_own.new.wal) (c.in_ok-remove_all_later.ensures.events c.args.end.0 c.segment_of.ensures) c.in_err-cut_own.ensures.events)

pub returns-in_err-cut_own-clause-changes : goal.returns-in_err-cut_own-clause-changes
returns-in_err-cut_own-clause-changes g c =
    changes_on g.V.Vault (IsArchiveFile c.args.size) c.args.wal.now c.remove_all_later.new.wal c.cut_own.new.wal c.in_ok-remove_all_later.ensures.changes c.in_err-cut_own.ensures.changes

pub returns-clause-trimmed : goal.returns-clause-trimmed
returns-clause-trimmed g c =
    let f = g.V.Vault.files in
    trimmed_on c.args.size c.args.end.0 (f c.args.wal.now) (f c.remove_all_later.new.wal) (f c.cut_own.new.wal) (f c.sync.new.self) c.sync.result (subst IsSegmentMib c.mib-mib.ensures.value c.mib-mib.ensures.range).least
    (subst (λ (s : ℕ). Related (Clears c.args.size s) (f c.args.wal.now) (f c.remove_all_later.new.wal)) c.segment_of.ensures c.in_ok-remove_all_later.ensures.removed)
    c.in_ok-cut_own.ensures.cut c.sync.ensures.same

pub returns-clause-keeps : goal.returns-clause-keeps
returns-clause-keeps g c =
    let p = g.V.Vault.past in
    let s = c.sync.ensures in
    let two = adds_on (IsTrim c.args.size c.args.end.0) (p c.args.wal.now) (p c.remove_all_later.new.wal) (p c.cut_own.new.wal) (c.in_ok-remove_all_later.ensures.events c.args.end.0 c.segment_of.ensures) c.in_ok-cut_own.ensures.events in
    front_kept c.args.size (subst IsSegmentMib c.mib-mib.ensures.value c.mib-mib.ensures.range).least c.args.end.0 (p c.args.wal.now) (p c.sync.new.self)
    (adds_on (IsTrim c.args.size c.args.end.0) (p c.args.wal.now) (p c.cut_own.new.wal) (p c.sync.new.self) two
    (adds_sync (IsTrim c.args.size c.args.end.0) (g.V.Vault.files c.cut_own.new.wal) (p c.cut_own.new.wal) (p c.sync.new.self) c.sync.result tt s.noted s.tried))

pub returns-clause-changes : goal.returns-clause-changes
returns-clause-changes g c =
    let s = c.sync.ensures in
    changes_on g.V.Vault (IsArchiveFile c.args.size) c.args.wal.now c.cut_own.new.wal c.sync.new.self
    (changes_on g.V.Vault (IsArchiveFile c.args.size) c.args.wal.now c.remove_all_later.new.wal c.cut_own.new.wal c.in_ok-remove_all_later.ensures.changes c.in_ok-cut_own.ensures.changes)
    (sync_changes g.V.Vault (IsArchiveFile c.args.size) c.cut_own.new.wal c.sync.new.self c.sync.result s.same s.noted s.tried s.cause.later)
