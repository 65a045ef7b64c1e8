-- Why a WAL can't be replayed, by what each of its readings was refused for.
use Rattle.std.proofs.Common.{◌≡◌, ℕ, ◌≤◌, true, Option, IfSome, refl, arith}
use Rattle.lsn_core.specs.byte_words.Told.{when_both_told}
use Rattle.lsn_core.specs.Causes.{Rose}
use Rattle.lsn_core.specs.Files.{Files}
use Rattle.lsn_core.specs.Segment.{StoreSettings}
use Rattle.lsn_core.specs.declared.lsn.Lsn.{Lsn}
use Rattle.wal_reader.specs.Settings.{IsSettingsOf}
use Rattle.recovery.specs.declared.fault.RecoveryFault.{RecoveryFault}
use Rattle.recovery.specs.declared.fault.RecoveryFault.TheVariants.{Damaged, Short, BadDelta, SettingsDamaged, Timeline, NotInit, Failed, NoMemory}
use Rattle.recovery.specs.Replay.{IsDamagedBefore, HasBadDelta}
use Rattle.recovery.specs.Causes.{CauseOf, IsShort, HasSettings, HasDamage, HasEnd, HasBadEntry, WalCause}
use Rattle.recovery.specs.Replayed.{into_causes}
use Rattle.store_commands.specs.Replay.{is_of_pages}

-- a count that rose meanwhile
pub rises : (start before now end : ℕ) → start ≤ before → now ≤ end → Rose before now → Rose start end
rises start before now end low high rose = omega (arith, low, high, rose)

is_damaged : (upto : Option Lsn) (s : StoreSettings) (files : Option Files) (mib : ℕ) (damage : _) → HasSettings files s → mib ≡ s.segment
    → IfSome files (λ m. IsDamagedBefore s m upto damage) → IfSome files (λ m. HasDamage m upto mib damage)
is_damaged upto s files mib damage given size held =
    when_both_told files (λ m. IsSettingsOf m s) (λ m. IsDamagedBefore s m upto damage) (λ m. HasDamage m upto mib damage) (λ m set found. (s, (set, (size, found)))) given.given held

is_short : (upto : Option Lsn) (s : StoreSettings) (files : Option Files) (at target : Lsn) → HasSettings files s → IfSome files (λ m. IsShort s m upto at target) → IfSome files (λ m. HasEnd m upto at target)
is_short upto s files at target given held =
    when_both_told files (λ m. IsSettingsOf m s) (λ m. IsShort s m upto at target) (λ m. HasEnd m upto at target) (λ m set found. (s, (set, found))) given.given held

-- what a replay was refused for, where what the pages decide is of an empty output
pub replay_told : (upto : Option Lsn) (s : StoreSettings) (files : Option Files) (fresh : Type 0) (start before now end : ℕ) (why : RecoveryFault) → HasSettings files s → start ≤ before → now ≤ end → (is_of_pages why ≡ true → fresh)
    → CauseOf (into_causes s upto files fresh) before now why → WalCause upto files start end why
replay_told upto s files fresh start before now end (Damaged mib damage) given low high of cause = is_damaged upto s files mib damage given cause.0 cause.1
replay_told upto s files fresh start before now end (Short at target) given low high of cause = is_short upto s files at target given cause
replay_told upto s files fresh start before now end (BadDelta place) given low high of cause =
    when_both_told files (λ m. IsSettingsOf m s) (λ m. fresh → HasBadDelta s m upto place) (λ m. HasBadEntry m upto place) (λ m set bad. (s, (set, bad (of refl)))) given.given cause
replay_told upto s files fresh start before now end SettingsDamaged given low high of cause = elim cause [ ]
replay_told upto s files fresh start before now end (Timeline name) given low high of cause = elim cause [ ]
replay_told upto s files fresh start before now end NotInit given low high of cause = elim cause [ ]
replay_told upto s files fresh start before now end Failed given low high of cause = rises start before now end low high cause
replay_told upto s files fresh start before now end NoMemory given low high of cause = tt
