-- By what an answer stops a worker (profile).
use Rattle.std.specs.Prelude.{◌||◌, Bool, true, false, Option, Some, None}
use Rattle.std.specs.Option.{is_some}
use Rattle.lsn_core.specs.declared.fault.MarkFault.{MarkFault}
use Rattle.lsn_core.specs.declared.fault.MarkFault.TheVariants as mark
use Rattle.lsn_core.specs.declared.fault.StoreArea.TheVariants.{Sums}
use Rattle.lsn_core.specs.declared.fault.StoreFault.TheVariants as store
use Rattle.store_faults.specs.declared.backup_fault.BackupFault.{BackupFault}
use Rattle.store_faults.specs.declared.backup_fault.BackupFault.TheVariants as backup
use Rattle.store_faults.specs.declared.incr_fault.IncrFault.{IncrFault}
use Rattle.store_faults.specs.declared.incr_fault.IncrFault.TheVariants as incr
use Rattle.store_faults.specs.declared.insert_fault.InsertFault.{InsertFault}
use Rattle.store_faults.specs.declared.insert_fault.InsertFault.TheVariants as insert
use Rattle.run_answers.specs.declared.answer.Answer.{Answer}
use Rattle.run_answers.specs.declared.answer.Answer.TheVariants.{Accepted, Refused, Grown, Stopped, Redo, CheckpointRefused, Wrote, Published, CallFailed, Backup, BackupRefused, IncrRefused, NotRun}
use Rattle.run_answers.specs.declared.answer.Stop.{Stop}
use Rattle.run_answers.specs.declared.answer.Stop.TheVariants as stop

-- by what the refusal of a command stops it, that of a checkpoint, and those of backups: a device
-- that failed, or want of memory, but not want of room in the WAL, no area that holds a file, and
-- nothing that is judged of a prior backup
abbrev pub insert_stop : InsertFault → Option Stop
insert_stop (insert.Failed area) = Some (stop.Store (store.Failed area))
insert_stop insert.NoMemory = Some (stop.Store store.NoMemory)
insert_stop why = None

abbrev pub mark_stop : MarkFault → Option Stop
mark_stop (mark.Failed area) = Some (stop.Store (store.Failed area))
mark_stop (mark.WalFull n) = None
mark_stop mark.NoMemory = Some (stop.Store store.NoMemory)

abbrev pub backup_stop : BackupFault → Option Stop
backup_stop backup.NotEmpty = None
backup_stop (backup.WalFull n) = None
backup_stop (backup.StoreFailed area) = Some (stop.Store (store.Failed area))
backup_stop backup.OutFailed = Some stop.Backup
backup_stop backup.NoMemory = Some (stop.Store store.NoMemory)

abbrev pub incr_stop : IncrFault → Option Stop
incr_stop incr.NotEmpty = None
incr_stop incr.NoManifest = None
incr_stop (incr.ManifestRefused why) = None
incr_stop (incr.SystemDiffers have expected) = None
incr_stop (incr.Overlap start end) = None
incr_stop (incr.Gap place) = None
incr_stop (incr.WalFull n) = None
incr_stop (incr.StoreFailed area) = Some (stop.Store (store.Failed area))
incr_stop incr.SumsFailed = Some (stop.Store (store.Failed Sums))
incr_stop incr.PriorFailed = Some stop.Prior
incr_stop incr.OutFailed = Some stop.Backup
incr_stop incr.NoMemory = Some (stop.Store store.NoMemory)

abbrev pub stop_of : Answer → Option Stop
stop_of (Accepted place) = None
stop_of (Refused why) = insert_stop why
stop_of (Grown k place) = None
stop_of (Stopped k why) = insert_stop why
stop_of (Redo redo) = None
stop_of (CheckpointRefused why) = mark_stop why
stop_of (Wrote k) = None
stop_of (Published k) = None
stop_of (CallFailed why) = Some (stop.Store why)
stop_of (Backup start end) = None
stop_of (BackupRefused why) = backup_stop why
stop_of (IncrRefused why) = incr_stop why
stop_of NotRun = None

abbrev pub is_not_run : Answer → Bool
is_not_run NotRun = true
is_not_run answer = false

-- behind such an answer no line is run
abbrev pub stops_with : Answer → Bool
stops_with answer = is_not_run answer || is_some (stop_of answer)
