-- That the answers on a WAL's files shut each other out.
use Rattle.std.specs.Prelude.{◌≡◌, ℕ, List}
use Rattle.lsn_core.specs.Files.{Files}
use Rattle.lsn_core.specs.Segment.{StoreSettings}
use Rattle.lsn_core.specs.Tip.{Tip}
use Rattle.wal_record.specs.declared.record.Record.{Record}
use Rattle.wal_archive.specs.declared.fault.Damage.{Damage}
use Rattle.wal_reader.specs.declared.fault.WalFault.{WalFault}
use Rattle.wal_reader.specs.Causes.{CauseOf, IsOfFiles}
use Rattle.wal_reader.specs.Settings.{refusals, IsSettingsOf}
use Rattle.wal_reader.specs.Wal.{IsWal, IsDamaged, IsWalFrom, IsDamagedFrom}

-- ---- settings

-- files have one system of settings at most
abbrev pub HasOneSettings : Type 0
HasOneSettings =
    (files : Files) (s t : StoreSettings) → IsSettingsOf files s → IsSettingsOf files t → s ≡ t

-- files that have settings aren't refused
abbrev pub HasSettingsOrIsRefused : Type 0
HasSettingsOrIsRefused =
    (files : Files) (s : StoreSettings) (fault : WalFault) → IsOfFiles fault
    → IsSettingsOf files s → CauseOf (refusals files) 0 0 fault → ⊥

-- and files without settings are refused by one fault
abbrev pub HasOneRefusal : Type 0
HasOneRefusal =
    (files : Files) (fault other : WalFault) → IsOfFiles fault → IsOfFiles other
    → CauseOf (refusals files) 0 0 fault → CauseOf (refusals files) 0 0 other → fault ≡ other

-- ---- the WAL

-- whatever the files are, they are one list of entries at most, and end with one tip
abbrev pub HasOneReading : Type 0
HasOneReading =
    (s : StoreSettings) (files : Files) (rs qs : List Record) (tip end : Tip)
    → IsWal s files rs tip → IsWal s files qs end → (rs ≡ qs) × (tip ≡ end)

-- a WAL that ends is damaged nowhere
abbrev pub EndsOrIsDamaged : Type 0
EndsOrIsDamaged =
    (s : StoreSettings) (files : Files) (rs qs : List Record) (tip : Tip) (damage : Damage)
    → IsWal s files rs tip → IsDamaged s files qs damage → ⊥

-- a damaged WAL is damaged at one place in one way, behind one list of entries
abbrev pub HasOneDamage : Type 0
HasOneDamage =
    (s : StoreSettings) (files : Files) (rs qs : List Record) (damage other : Damage)
    → IsDamaged s files rs damage → IsDamaged s files qs other
    → (rs ≡ qs) × (damage ≡ other)

-- the same of what is read from a place on
abbrev pub HasOneReadingFrom : Type 0
HasOneReadingFrom =
    (s : StoreSettings) (files : Files) (from : ℕ) (rs qs : List Record) (tip end : Tip)
    → IsWalFrom s files from rs tip → IsWalFrom s files from qs end → (rs ≡ qs) × (tip ≡ end)

abbrev pub EndsOrIsDamagedFrom : Type 0
EndsOrIsDamagedFrom =
    (s : StoreSettings) (files : Files) (from : ℕ) (rs qs : List Record) (tip : Tip)
    (damage : Damage)
    → IsWalFrom s files from rs tip → IsDamagedFrom s files from qs damage → ⊥

abbrev pub HasOneDamageFrom : Type 0
HasOneDamageFrom =
    (s : StoreSettings) (files : Files) (from : ℕ) (rs qs : List Record) (damage other : Damage)
    → IsDamagedFrom s files from rs damage → IsDamagedFrom s files from qs other
    → (rs ≡ qs) × (damage ≡ other)
