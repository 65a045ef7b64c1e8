-- What the steps of a backup make together, and how they fail.
use Rattle.std.proofs.Common.{◌≡◌, ℕ, ◌+◌, ◌*◌, ◌/◌, ◌<◌, ◌≤◌, List, length, Option, Result, Err, IfErr, ◌∙◌, arith, inl, inr}
use Rattle.std.specs.Result.{IsErrAnd}
use Rattle.std.proofs.Math.Nat.{div-lt_iff_lt-mul}
use mathlib.Core.List.{IsPrefix}
use Rattle.timeline.proofs.Prefixes.{prefix_trans}
use Rattle.lsn_core.specs.Names.{segment_number}
use Rattle.lsn_core.specs.Files.{Files}
use Rattle.lsn_core.specs.Segment.{StoreSettings, segment_bytes}
use Rattle.lsn_core.specs.Sizes.{most_segments}
use Rattle.lsn_core.specs.Store.{Store}
use Rattle.lsn_core.specs.declared.lsn.Lsn.{Lsn}
use Rattle.lsn_core.specs.declared.fault.MarkFault.{MarkFault}
use Rattle.lsn_core.specs.declared.fault.MarkFault.TheVariants as mark
use Rattle.vault.specs.declared.area.Vault.{Ghosts}
use Rattle.wal_record.specs.Tips.{wal_limit}
use Rattle.wal_writer.specs.declared.state.Flushed.{Flushed}
use Rattle.history.specs.Entry.{Entry, BackupEnd}
use Rattle.history.specs.fuzzy_copies.Taken.{IsTaken}
use Rattle.store_locks.specs.declared.receipt.Redo.{Redo}
use Rattle.manifest.specs.declared.listing.FileRow.{FileRow}
use Rattle.store_locks.specs.Seen.{Seen}
use Rattle.shared_store.specs.Shared.{HasCheckpointIn, HasEnded, MayFindNoRoom, MayFindNoRoomFor, TakesMarkFault}
use Rattle.store_locks.specs.Calls.{IsPlaced}
use Rattle.shared_store.proofs.Booked.{takes_rose}
use Rattle.shared_store.proofs.SharedLaws.{end_comes_behind}
use Rattle.store_faults.specs.declared.backup_fault.BackupFault.{BackupFault}
use Rattle.store_faults.specs.declared.backup_fault.BackupFault.TheVariants as fault
use Rattle.backup_sending.specs.Backup.{LooksOn, site_of, BackupCause}
use Rattle.backup_sending.specs.Inside.{CopyCause, CopiesStore, IsCopiedSoFar, IsRun}
use Rattle.store_faults.specs.Giving.{mark_fault}
use Rattle.backup_files.proofs.Passed.{err_cause}
use Rattle.backup_sending.proofs.Marks.{checkpoint_at, checkpoint_on, has_backup, start_below}
use Rattle.backup_sending.proofs.Steps.{share_later}

-- ---- places

pub in_segment : (mib start end : ℕ) → 1 ≤ mib → start < end → end ≤ wal_limit mib → segment_number start mib ≤ most_segments
in_segment mib start end some rises room =
    let within : start < (most_segments + 1) * segment_bytes mib = omega (arith, rises, room) in
    let less : start / segment_bytes mib < most_segments + 1 = (div-lt_iff_lt-mul {k = segment_bytes mib} {x = start} {y = most_segments + 1} (omega (arith, some))).1 within in
    omega (arith, less)

-- ---- the copy

pub taken : (worker start : ℕ) (seen old new : List Entry) (from : ℕ) (copy : Store) (end : Lsn) (flushed : Flushed) → IsPrefix seen old → HasEnded worker start old new end flushed → IsCopiedSoFar seen from copy → IsTaken copy new from end.0
taken worker start seen old new from copy end flushed p b so_far = record {
  forks = λ fork.
      let l = so_far.forks fork in
      record { seen = l.moment; prefix = end_comes_behind worker start from l.moment old new end flushed l.redo (prefix_trans l.moment seen old l.before p) b; listed = l.listed };
  blocks = λ fork block page is.
      let c = so_far.pages fork block page is in
      record {
        seen = c.moment;
        prefix = end_comes_behind worker start from c.moment old new end flushed c.redo (prefix_trans c.moment seen old c.before p) b;
        answer = c.answer;
        copied = c.copied;
        written = c.written;
      };
}

pub is_run : (tells : Type 0) (settings : StoreSettings) (old mid now new : Seen) (seen : List Entry) (modified : List ℕ) (files : Option Files) (redo : Redo) (end : Lsn) (flushed later : Flushed) (rows : List FileRow)
    → HasCheckpointIn old.worker old.list mid.list redo flushed → LooksOn 2 old mid → LooksOn 0 mid now → IsPrefix seen now.list → CopiesStore tells seen redo.redo.0 settings.relseg modified files rows → HasEnded now.worker redo.redo.0 now.list new.list end later
    → IsPrefix now.list new.list → IsPlaced settings.segment new.list end.0 → 1 ≤ settings.segment → IsRun tells settings old new modified files redo end rows
is_run tells settings old mid now new seen modified files redo end flushed later rows h first on p copies b q placed some =
    let above = start_below old.worker old.list mid.list new.list redo flushed end.0 h (prefix_trans mid.list now.list new.list on.stays.seen q) placed.last in
    record {
      entries = has_backup old.worker now.worker old.list mid.list now.list new.list redo end flushed later h on.stays.seen (on.stays.worker ∙ first.stays.worker) b;
      copy = copies.copy;
      held = copies.held;
      taken = λ t. taken now.worker redo.redo.0 seen now.list new.list redo.redo.0 copies.copy end later p b (copies.copied t);
      rises = above;
      segment = in_segment settings.segment redo.redo.0 end.0 some above placed.room;
    }

-- ---- steps that failed

checkpoint_cause : {V : Type 0} (g : Ghosts V) (mib : ℕ) (was now : Seen) (out : V) (why : MarkFault) → MayFindNoRoom mib was.worker (length was.list) now.list why → TakesMarkFault {T = Unit {0}} was now (Err why) → BackupCause g mib (site_of was out) (site_of now out) (mark_fault why)
checkpoint_cause g mib was now out (mark.Failed which) full takes = takes_rose which was now takes
checkpoint_cause g mib was now out (mark.WalFull n) full takes = (full.0, inl full.1)
checkpoint_cause g mib was now out mark.NoMemory full takes = tt

pub checkpoint_failed : {V T : Type 0} (g : Ghosts V) (mib : ℕ) (was now : Seen) (out : V) (r : Result T BackupFault) (why : MarkFault) → IsErrAnd r (λ x. x ≡ mark_fault why) → MayFindNoRoom mib was.worker (length was.list) now.list why → TakesMarkFault {T = Unit {0}} was now (Err why)
    → IfErr r (BackupCause g mib (site_of was out) (site_of now out))
checkpoint_failed g mib was now out r why is full takes =
    err_cause r (mark_fault why) (BackupCause g mib (site_of was out) (site_of now out)) is (checkpoint_cause g mib was now out why full takes)

copying_cause : {V : Type 0} (g : Ghosts V) (mib : ℕ) (was mid now : Seen) (before behind : V) (why : BackupFault) → LooksOn 2 was mid → CopyCause g (site_of mid before) (site_of now behind) why → BackupCause g mib (site_of was before) (site_of now behind) why
copying_cause g mib was mid now before behind fault.NotEmpty on is = absurd is
copying_cause g mib was mid now before behind (fault.WalFull n) on is = absurd is
copying_cause g mib was mid now before behind (fault.StoreFailed which) on is = share_later which was mid now on is
copying_cause g mib was mid now before behind fault.OutFailed on is = is
copying_cause g mib was mid now before behind fault.NoMemory on is = tt

pub copying_failed : {V T : Type 0} (g : Ghosts V) (mib : ℕ) (was mid now : Seen) (before behind : V) (r : Result T BackupFault) (why : BackupFault) → IsErrAnd r (λ x. x ≡ why) → LooksOn 2 was mid → CopyCause g (site_of mid before) (site_of now behind) why
    → IfErr r (BackupCause g mib (site_of was before) (site_of now behind))
copying_failed g mib was mid now before behind r why is on cause = err_cause r why (BackupCause g mib (site_of was before) (site_of now behind)) is (copying_cause g mib was mid now before behind why on cause)

-- the end of a backup failed behind a checkpoint
ending_cause : {V : Type 0} (g : Ghosts V) (mib : ℕ) (was mid now : Seen) (done : List Entry) (before behind : V) (redo : Redo) (flushed : Flushed) (why : MarkFault) → HasCheckpointIn was.worker was.list done redo flushed → IsPrefix done now.list → LooksOn 2 was mid
    → MayFindNoRoomFor (BackupEnd redo.redo.0) mib now.list why → TakesMarkFault {T = Unit {0}} mid now (Err why) → BackupCause g mib (site_of was before) (site_of now behind) (mark_fault why)
ending_cause g mib was mid now done before behind redo flushed (mark.Failed which) h p on full takes = share_later which was mid now on (takes_rose which mid now takes)
ending_cause g mib was mid now done before behind redo flushed (mark.WalFull n) h p on full takes =
    (full.0, inr (redo.redo.0, checkpoint_on was.worker (length was.list) done now.list redo.redo.0 p (checkpoint_at was.worker was.list done redo flushed h), full.1))
ending_cause g mib was mid now done before behind redo flushed mark.NoMemory h p on full takes = tt

pub ending_failed : {V T : Type 0} (g : Ghosts V) (mib : ℕ) (was mid now : Seen) (done : List Entry) (before behind : V) (redo : Redo) (flushed : Flushed) (r : Result T BackupFault) (why : MarkFault) → IsErrAnd r (λ x. x ≡ mark_fault why)
    → HasCheckpointIn was.worker was.list done redo flushed → IsPrefix done now.list → LooksOn 2 was mid → MayFindNoRoomFor (BackupEnd redo.redo.0) mib now.list why → TakesMarkFault {T = Unit {0}} mid now (Err why) → IfErr r (BackupCause g mib (site_of was before) (site_of now behind))
ending_failed g mib was mid now done before behind redo flushed r why is h p on full takes =
    err_cause r (mark_fault why) (BackupCause g mib (site_of was before) (site_of now behind)) is (ending_cause g mib was mid now done before behind redo flushed why h p on full takes)
