-- Why a WAL isn't replayed: the cause of each fault.
use Rattle.std.specs.Prelude.{◌≡◌, ◌≢◌, ℕ, List, Option, Some, Result, Ok, Err, IfSome}
use Rattle.lsn_core.specs.Causes.{Rose}
use Rattle.lsn_core.specs.declared.fault.AreaFault.{AreaFault}
use Rattle.lsn_core.specs.declared.fault.AreaFault.TheVariants as area
use Rattle.lsn_core.specs.Files.{Files}
use Rattle.lsn_core.specs.declared.lsn.Lsn.{Lsn}
use Rattle.lsn_core.specs.Segment.{StoreSettings, IsRelseg}
use Rattle.vault.specs.declared.area.Vault.{Ghosts}
use Rattle.wal_archive.specs.declared.fault.Damage.{Damage}
use Rattle.wal_reader.specs.declared.fault.WalFault.{WalFault}
use Rattle.wal_reader.specs.declared.fault.WalFault.TheVariants as wal
use Rattle.wal_reader.specs.Settings.{IsSettingsOf, settings_causes as wal_refusals}
use Rattle.recovery.specs.declared.fault.RecoveryFault.{RecoveryFault}
use Rattle.recovery.specs.declared.fault.RecoveryFault.TheVariants.{Damaged, Short, BadDelta, SettingsDamaged, Timeline, NotInit, Failed, NoMemory}
use Rattle.recovery.specs.declared.replaying.ReadWal.{ReadWal}
use Rattle.recovery.specs.declared.reading.Beginning.{Beginning}
use Rattle.recovery.specs.declared.reading.Beginning.TheVariants.{FirstEntry}
use Rattle.recovery.specs.Onward.{HasDamageFrom, EndsEarlyFrom}
use Rattle.recovery.specs.Replay.{IsReadWal, IsDamagedBefore, HasBadDelta}

-- when a call refuses what the area holds: the archive, with segments of so many MiB, is damaged;
-- it ends at a place before the target; the entry at a place can't be applied; the settings are
-- damaged; a name is of another timeline; or there is no WAL
pub record RecoveryCauses : Type 1 where
  pub damaged : ℕ → Damage → Type 0
  pub short : Lsn → Lsn → Type 0
  pub bad : Lsn → Type 0
  pub settings : Type 0
  pub timeline : List ℕ → Type 0
  pub missing : Type 0

-- the cause of a fault, where a call refuses so, and the area's count of faults was one number
-- before it and is another one now
abbrev pub CauseOf : RecoveryCauses → ℕ → ℕ → RecoveryFault → Type 0
CauseOf causes before now (Damaged mib damage) = causes.damaged mib damage
CauseOf causes before now (Short end target) = causes.short end target
CauseOf causes before now (BadDelta place) = causes.bad place
CauseOf causes before now SettingsDamaged = causes.settings
CauseOf causes before now (Timeline name) = causes.timeline name
CauseOf causes before now NotInit = causes.missing
CauseOf causes before now Failed = Rose before now
CauseOf causes before now NoMemory = Unit {0}

-- a fault that the area's bytes decide, and not a device that failed or want of memory
abbrev pub IsOfFiles : RecoveryFault → Type 0
IsOfFiles fault = (fault ≢ Failed) × (fault ≢ NoMemory)

-- what a fault of a reader is to a replay, of an archive with segments of so many MiB
abbrev pub fault_of : ℕ → WalFault → RecoveryFault
fault_of mib (wal.Damaged damage) = Damaged mib damage
fault_of mib wal.SettingsDamaged = SettingsDamaged
fault_of mib (wal.Timeline name) = Timeline name
fault_of mib wal.NotInit = NotInit
fault_of mib wal.Failed = Failed
fault_of mib wal.NoMemory = NoMemory

-- what an area's fault is to a replay
abbrev pub area_fault_of : AreaFault → RecoveryFault
area_fault_of area.Failed = Failed
area_fault_of area.NoMemory = NoMemory

-- ---- by settings that are known

-- the target is past where the archive ends
abbrev pub IsShortFrom :
    StoreSettings → Files → Beginning → Option Lsn → Lsn → Lsn → Type 0
IsShortFrom s files begin upto end target =
    (upto ≡ Some target) × EndsEarlyFrom s files begin end target

-- a reading is refused for what the archive is, and never for what an entry says
abbrev pub reading_causes : StoreSettings → Beginning → Option Lsn → Option Files → RecoveryCauses
reading_causes s begin upto files = record {
  damaged = λ mib damage.
      (mib ≡ s.segment) × IfSome files (λ m. HasDamageFrom s m begin upto damage);
  short = λ end target. IfSome files (λ m. IsShortFrom s m begin upto end target);
  bad = λ place. ⊥;
  settings = ⊥;
  timeline = λ name. ⊥;
  missing = ⊥;
}

abbrev pub IsShort : StoreSettings → Files → Option Lsn → Lsn → Lsn → Type 0
IsShort s files upto end target = IsShortFrom s files FirstEntry upto end target

abbrev pub replay_causes : StoreSettings → Option Lsn → Option Files → RecoveryCauses
replay_causes s upto files = record (reading_causes s FirstEntry upto files) {
  bad = λ place. IfSome files (λ m. HasBadDelta s m upto place);
}

abbrev pub ReplayAnswer :
    StoreSettings → Option Lsn → Option Files → ℕ → ℕ → Result ReadWal RecoveryFault → Type 0
ReplayAnswer s upto files before now (Ok read) = IsReadWal s files upto read
ReplayAnswer s upto files before now (Err fault) =
    CauseOf (replay_causes s upto files) before now fault

abbrev pub Replays : {V : Type 0} → Ghosts V
    → StoreSettings → Option Lsn → V → V → Result ReadWal RecoveryFault → Type 0
Replays g s upto old now result =
    ReplayAnswer s upto (g.files old) (g.faults old) (g.faults now) result

-- ---- the same of what an area holds, its settings too

-- the settings of the WAL of these files
pub record HasSettings (files : Option Files) (s : StoreSettings) : Type 0 where
  pub given : IfSome files (λ m. IsSettingsOf m s)
  pub blocks : IsRelseg s.relseg

-- settings can't be read for the reasons of `wal_reader`
abbrev pub settings_causes : Option Files → RecoveryCauses
settings_causes files = record {
  damaged = λ mib damage. ⊥;
  short = λ end target. ⊥;
  bad = λ place. ⊥;
  settings = (wal_refusals files).settings;
  timeline = (wal_refusals files).timeline;
  missing = (wal_refusals files).missing;
}

abbrev pub SettingsAnswer : Option Files → ℕ → ℕ → Result StoreSettings RecoveryFault → Type 0
SettingsAnswer files before now (Ok s) = HasSettings files s
SettingsAnswer files before now (Err fault) = CauseOf (settings_causes files) before now fault

-- by the settings that files have, their archive is damaged, and it has segments of so many MiB
abbrev pub HasDamage : Files → Option Lsn → ℕ → Damage → Type 0
HasDamage m upto mib damage =
    (s : StoreSettings) × (IsSettingsOf m s × ((mib ≡ s.segment) × IsDamagedBefore s m upto damage))

-- it ends before the target
abbrev pub HasEnd : Files → Option Lsn → Lsn → Lsn → Type 0
HasEnd m upto end target = (s : StoreSettings) × (IsSettingsOf m s × IsShort s m upto end target)

-- an entry of it can't be applied
abbrev pub HasBadEntry : Files → Option Lsn → Lsn → Type 0
HasBadEntry m upto place = (s : StoreSettings) × (IsSettingsOf m s × HasBadDelta s m upto place)

-- a WAL can't be replayed where its settings can't be read; and where they can, by its archive
abbrev pub wal_causes : Option Lsn → Option Files → RecoveryCauses
wal_causes upto files = record (settings_causes files) {
  damaged = λ mib damage. IfSome files (λ m. HasDamage m upto mib damage);
  short = λ end target. IfSome files (λ m. HasEnd m upto end target);
  bad = λ place. IfSome files (λ m. HasBadEntry m upto place);
}

abbrev pub WalCause : Option Lsn → Option Files → ℕ → ℕ → RecoveryFault → Type 0
WalCause upto files before now fault = CauseOf (wal_causes upto files) before now fault

abbrev pub WalAnswer :
    Option Lsn → Option Files → ℕ → ℕ → Result (StoreSettings × ReadWal) RecoveryFault → Type 0
WalAnswer upto files before now (Ok x) =
    HasSettings files x.0 × IsReadWal x.0 files upto x.1
WalAnswer upto files before now (Err fault) = WalCause upto files before now fault
