-- Why a store isn't brought back: the cause of each fault.
use Rattle.std.specs.Prelude.{◌≡◌, ℕ, ◌<◌, Result, Ok, Err}
use Rattle.lsn_core.specs.Causes.{Rose}
use Rattle.lsn_core.specs.declared.fault.AreaFault.{AreaFault}
use Rattle.lsn_core.specs.declared.fault.AreaFault.TheVariants as area
use Rattle.lsn_core.specs.declared.fault.StoreArea.TheVariants.{Wal, Data, Sums}
use Rattle.lsn_core.specs.declared.fault.StoreFault.{StoreFault}
use Rattle.lsn_core.specs.declared.fault.StoreFault.TheVariants as store
use Rattle.lsn_core.specs.declared.lsn.Lsn.{Lsn}
use Rattle.vault.specs.declared.area.Vault.{Ghosts}
use Rattle.wal_archive.specs.declared.fault.Damage.{Damage}
use Rattle.wal_archive.specs.declared.fault.Damage.TheVariants as damage
use Rattle.wal_archive.specs.declared.fault.Broken.TheVariants as broken
use Rattle.wal_reader.specs.declared.fault.WalFault.{WalFault}
use Rattle.wal_reader.specs.declared.fault.WalFault.TheVariants as wal
use Rattle.recovery.specs.declared.fault.RecoveryFault.{RecoveryFault}
use Rattle.recovery.specs.declared.fault.RecoveryFault.TheVariants as recovery
use Rattle.recovery.specs.declared.fault.ReplayFault.{ReplayFault}
use Rattle.recovery.specs.declared.fault.ReplayFault.TheVariants as replay
use Rattle.recovery.specs.declared.replaying.Replayed.{Replayed}
use Rattle.recovery.specs.declared.tally.Tally.{Tally}
use Rattle.data_areas.specs.declared.areas.DataAreas.{DataAreas}
use Rattle.data_areas.specs.Areas.{area_of, data_fault, DataCause}
use Rattle.store_restart.specs.declared.fault.RestartWhy.{RestartWhy}
use Rattle.store_restart.specs.declared.fault.RestartWhy.TheVariants.{Damaged, BadDelta, Failed, NoMemory}

-- the fault of an area, of a store's area, of who reads a WAL, and of a replay up to where what was
-- read before ended: an archive that ends earlier now was cut off meanwhile
abbrev pub why_of_wal : AreaFault → RestartWhy
why_of_wal area.Failed = Failed Wal
why_of_wal area.NoMemory = NoMemory

abbrev pub why_of : StoreFault → RestartWhy
why_of (store.Failed area) = Failed area
why_of store.NoMemory = NoMemory

abbrev pub reader_why : WalFault → RestartWhy
reader_why (wal.Damaged damage) = Damaged damage
reader_why wal.SettingsDamaged = Failed Wal
reader_why (wal.Timeline name) = Failed Wal
reader_why wal.NotInit = Failed Wal
reader_why wal.Failed = Failed Wal
reader_why wal.NoMemory = NoMemory

abbrev pub replay_why : RecoveryFault → RestartWhy
replay_why (recovery.Damaged mib damage) = Damaged damage
replay_why (recovery.Short end target) = Damaged (damage.Broken end broken.Torn)
replay_why (recovery.BadDelta place) = BadDelta place
replay_why recovery.SettingsDamaged = Failed Wal
replay_why (recovery.Timeline name) = Failed Wal
replay_why recovery.NotInit = Failed Wal
replay_why recovery.Failed = Failed Wal
replay_why recovery.NoMemory = NoMemory

-- what a replay into the pages of areas comes to, of which the one of a number failed last
abbrev pub replayed_to_tally : ℕ → Result Replayed ReplayFault → Result Tally RestartWhy
replayed_to_tally q (Ok done) = Ok (record { forks = done.forks; pages = done.pages })
replayed_to_tally q (Err (replay.Wal why)) = Err (replay_why why)
replayed_to_tally q (Err (replay.Out why)) = Err (why_of (data_fault q why))

-- a store isn't brought back where its WAL is refused, or where an entry can't be redone; and an
-- area failed only where its count of faults rose
abbrev pub RestartCause : {V : Type 0} → Ghosts V → (Damage → Type 0) → (Lsn → Type 0)
    → V → V → DataAreas V → DataAreas V → RestartWhy → Type 0
RestartCause g damaged bad wal now old new (Damaged damage) = damaged damage
RestartCause g damaged bad wal now old new (BadDelta place) = bad place
RestartCause g damaged bad wal now old new (Failed Wal) = Rose (g.faults wal) (g.faults now)
RestartCause g damaged bad wal now old new (Failed (Data q)) =
    (q < 4) × Rose (g.faults (area_of old q)) (g.faults (area_of new q))
RestartCause g damaged bad wal now old new (Failed Sums) = ⊥
RestartCause g damaged bad wal now old new NoMemory = Unit {0}

-- a data area failed so, or memory ran out
abbrev pub IsDataWhy : {V : Type 0} → Ghosts V → DataAreas V → DataAreas V → RestartWhy → Type 0
IsDataWhy g old new why = (fault : StoreFault) × ((why ≡ why_of fault) × DataCause g old new fault)
