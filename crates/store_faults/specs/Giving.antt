-- Which fault of a backup another fault gives.
use Rattle.lsn_core.specs.declared.fault.AreaFault.{AreaFault}
use Rattle.lsn_core.specs.declared.fault.AreaFault.TheVariants as area
use Rattle.lsn_core.specs.declared.fault.MarkFault.{MarkFault}
use Rattle.lsn_core.specs.declared.fault.MarkFault.TheVariants as mark
use Rattle.lsn_core.specs.declared.fault.StoreArea.TheVariants.{Sums}
use Rattle.lsn_core.specs.declared.fault.StoreFault.{StoreFault}
use Rattle.lsn_core.specs.declared.fault.StoreFault.TheVariants as store
use Rattle.manifest.specs.declared.fault.ManifestFault.{ManifestFault}
use Rattle.manifest.specs.declared.fault.ManifestFault.TheVariants as manifest
use Rattle.store_faults.specs.declared.advance_fault.AdvanceFault.{AdvanceFault}
use Rattle.store_faults.specs.declared.advance_fault.AdvanceFault.TheVariants as advance
use Rattle.store_faults.specs.declared.backup_fault.BackupFault.{BackupFault}
use Rattle.store_faults.specs.declared.backup_fault.BackupFault.TheVariants as backup
use Rattle.store_faults.specs.declared.incr_fault.IncrFault.{IncrFault}
use Rattle.store_faults.specs.declared.incr_fault.IncrFault.TheVariants as incr

-- ---- a full backup

abbrev pub area_fault : AreaFault → BackupFault
area_fault area.Failed = backup.OutFailed
area_fault area.NoMemory = backup.NoMemory

abbrev pub store_fault : StoreFault → BackupFault
store_fault (store.Failed which) = backup.StoreFailed which
store_fault store.NoMemory = backup.NoMemory

abbrev pub mark_fault : MarkFault → BackupFault
mark_fault (mark.Failed which) = backup.StoreFailed which
mark_fault (mark.WalFull n) = backup.WalFull n
mark_fault mark.NoMemory = backup.NoMemory

-- ---- an incremental one

abbrev pub incr_fault : BackupFault → IncrFault
incr_fault backup.NotEmpty = incr.NotEmpty
incr_fault (backup.WalFull n) = incr.WalFull n
incr_fault (backup.StoreFailed which) = incr.StoreFailed which
incr_fault backup.OutFailed = incr.OutFailed
incr_fault backup.NoMemory = incr.NoMemory

abbrev pub manifest_fault : ManifestFault → IncrFault
manifest_fault manifest.NoMemory = incr.NoMemory
manifest_fault why = incr.ManifestRefused why

abbrev pub advance_fault : AdvanceFault → IncrFault
advance_fault (advance.Gap place) = incr.Gap place
advance_fault (advance.Store (store.Failed Sums)) = incr.SumsFailed
advance_fault (advance.Store (store.Failed which)) = incr.StoreFailed which
advance_fault (advance.Store store.NoMemory) = incr.NoMemory
