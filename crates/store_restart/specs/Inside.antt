-- What functions inside the crate answer. No public contract cites these.
use Rattle.std.specs.Prelude.{◌≡◌, ℕ, ◌==◌, ◌||◌, Bool, true, List, Option, Some, None, Result, Ok, Err, IfSome, if◌then◌else◌}
use Rattle.lsn_core.specs.Files.{Files}
use Rattle.lsn_core.specs.Segment.{StoreSettings}
use Rattle.lsn_core.specs.Tip.{Tip}
use Rattle.lsn_core.specs.declared.lsn.Lsn.{Lsn}
use Rattle.vault.specs.declared.area.Vault.{Ghosts}
use Rattle.wal_record.specs.declared.record.Record.{Record}
use Rattle.wal_reader.specs.declared.fault.WalFault.{WalFault}
use Rattle.wal_reader.specs.declared.fault.WalFault.TheVariants.{Damaged, SettingsDamaged, Timeline, NotInit, Failed, NoMemory}
use Rattle.wal_reader.specs.Cursor.{Cursor, Steps}
use Rattle.store_restart.specs.declared.survivors.Named.{Named}
use Rattle.store_restart.specs.Survivors.{named_by, has_start, if_started, cuts_off, SurviveIn}

-- ---- a step

-- what a step of a cursor behind a tip is to a reader of survivors: none follows where the archive
-- is cut off there
abbrev pub survivor_of : Tip → Result (Option Record) WalFault → Result (Option Record) WalFault
survivor_of tip (Ok found) = Ok found
survivor_of tip (Err (Damaged damage)) =
    if cuts_off tip damage then Ok None else Err (Damaged damage)
survivor_of tip (Err SettingsDamaged) = Err SettingsDamaged
survivor_of tip (Err (Timeline name)) = Err (Timeline name)
survivor_of tip (Err NotInit) = Err NotInit
survivor_of tip (Err Failed) = Err Failed
survivor_of tip (Err NoMemory) = Err NoMemory

abbrev pub StepsOn : {V : Type 0} → Ghosts V
    → Cursor → Cursor → V → V → Result (Option Record) WalFault → Type 0
StepsOn g c new old now result =
    (r : Result (Option Record) WalFault)
    × (Steps g c new old now r × (result ≡ survivor_of c.tip r))

-- ---- a redo point

-- the redo point that is named, with one more entry that names one or none, and behind which that
-- is the latest redo point
abbrev pub naming : Named → Record → ℕ → Option Lsn → Named
naming before r redo None = before
naming before r redo (Some place) = record {
  place = Some place;
  seen = (place.0 == r.start.0) || (place.0 == redo);
}

abbrev pub named_after : Named → Record → ℕ → Named
named_after before r redo = naming before r redo (named_by r.kind)

-- whether one of the survivors starts at a place
pub record IsStartTold (s : StoreSettings) (place : Lsn) (there : Bool) (files : Files)
    : Type 0 where
  pub records : List Record
  pub tip : Tip
  pub survive : SurviveIn s files records tip
  pub told : there ≡ has_start records place.0

abbrev pub TellsStart : StoreSettings → Option Files → Lsn → Bool → Type 0
TellsStart s told place there = IfSome told (IsStartTold s place there)

-- a place that is named, where one of the survivors starts there: so it is where that was seen only
-- of those that do
abbrev pub IsPlaceTold : StoreSettings → Named → Option Lsn → Files → Type 0
IsPlaceTold s named redo files =
    (records : List Record) (tip : Tip) → SurviveIn s files records tip
    → (named.seen ≡ true → if_started records named.place ≡ named.place)
    → redo ≡ if_started records named.place

abbrev pub TellsPlace : StoreSettings → Option Files → Named → Option Lsn → Type 0
TellsPlace s told named redo = IfSome told (IsPlaceTold s named redo)
