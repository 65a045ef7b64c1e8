-- Why a call that reads the WAL fails: the cause of each fault, once for all calls.
use Rattle.std.specs.Prelude.{◌≢◌, ℕ, List}
use Rattle.lsn_core.specs.Causes.{Rose}
use Rattle.lsn_core.specs.declared.fault.AreaFault.{AreaFault}
use Rattle.lsn_core.specs.declared.fault.AreaFault.TheVariants as area
use Rattle.wal_archive.specs.declared.fault.Damage.{Damage}
use Rattle.wal_archive.specs.declared.fault.ReadFault.{ReadFault}
use Rattle.wal_archive.specs.declared.fault.ReadFault.TheVariants as read
use Rattle.wal_reader.specs.declared.fault.WalFault.{WalFault}
use Rattle.wal_reader.specs.declared.fault.WalFault.TheVariants.{Damaged, SettingsDamaged, Timeline, NotInit, Failed, NoMemory}

-- when a call refuses what the area holds: the archive is damaged so, the settings are damaged, a
-- name is of another timeline, or there is no WAL
pub record WalCauses : Type 1 where
  pub damaged : Damage → Type 0
  pub settings : Type 0
  pub timeline : List ℕ → Type 0
  pub missing : Type 0

-- of a call that refuses nothing
abbrev pub no_causes : WalCauses
no_causes = record { damaged = λ damage. ⊥; settings = ⊥; timeline = λ name. ⊥; missing = ⊥ }

-- the cause of a fault, where a call refuses so, and the area's count of faults was one number
-- before it and is another one now
abbrev pub CauseOf : WalCauses → ℕ → ℕ → WalFault → Type 0
CauseOf causes before now (Damaged damage) = causes.damaged damage
CauseOf causes before now SettingsDamaged = causes.settings
CauseOf causes before now (Timeline name) = causes.timeline name
CauseOf causes before now NotInit = causes.missing
CauseOf causes before now Failed = Rose before now
CauseOf causes before now NoMemory = Unit {0}

-- a fault that the area's bytes decide, and not a device that failed or want of memory
abbrev pub IsOfFiles : WalFault → Type 0
IsOfFiles fault = (fault ≢ Failed) × (fault ≢ NoMemory)

-- what an area's fault is to a reader of the WAL
abbrev pub wal_fault_of : AreaFault → WalFault
wal_fault_of area.Failed = Failed
wal_fault_of area.NoMemory = NoMemory

-- what the fault of a reading of the archive is to it
abbrev pub wal_fault_read : ReadFault → WalFault
wal_fault_read (read.Bad damage) = Damaged damage
wal_fault_read read.Failed = Failed
wal_fault_read read.NoMemory = NoMemory
