-- A WAL that is read from its first entry on, up to a target, and the store that its entries make.
use Rattle.std.specs.Prelude.{◌≡◌, ℕ, ◌≤◌, false, List, [], ◌∷◌, map, Option, Some, None, IfSome}
use Rattle.std.specs.FinMap.{empty}
use Rattle.lsn_core.specs.Files.{Files}
use Rattle.lsn_core.specs.declared.lsn.Lsn.{Lsn}
use Rattle.lsn_core.specs.Segment.{StoreSettings}
use Rattle.lsn_core.specs.Store.{Store}
use Rattle.lsn_core.specs.Tip.{Tip}
use Rattle.wal_record.specs.declared.record.Record.{Record}
use Rattle.wal_record.specs.Tips.{first_tip, tip_behind, IsWithin}
use Rattle.wal_archive.specs.Rules.{Found, End}
use Rattle.wal_archive.specs.declared.fault.Damage.{Damage}
use Rattle.history.specs.Entry.{Entry}
use Rattle.history.specs.Apply.{apply}
use Rattle.history.specs.Whole.{entry_of, whole}
use Rattle.recovery.specs.declared.replaying.ReadWal.{ReadWal}
use Rattle.recovery.specs.declared.reading.Beginning.TheVariants.{FirstEntry}
use Rattle.recovery.specs.Onward.{found_on, ReadsOn, IsReadFrom, replayed_to, ending_by, AllEndBy, end_from, HasDamageFrom, EndsEarlyFrom}

-- ---- what is read

-- what stands behind a tip of a WAL that is read up to a target, where one is given: nothing more
-- is looked at once the tip ends at the target or past it
abbrev pub found_to : StoreSettings → Files → Option Lsn → Tip → Found
found_to s files upto tip = found_on s files upto false tip

-- from a tip on these entries are read
abbrev pub Reads : StoreSettings → Files → Option Lsn → Tip → List Record → Tip → Type 0
Reads s files upto tip rs last = ReadsOn s files upto false tip rs last

-- from the beginning of the WAL of these files on these entries are read, and then this is found
abbrev pub IsRead : StoreSettings → Files → Option Lsn → List Record → Tip → Found → Type 0
IsRead s files upto rs last found = IsReadFrom s files FirstEntry upto rs last found

-- ---- what is replayed

-- where the last of some entries ends; where there is none, where the WAL begins
abbrev pub last_end : ℕ → List Record → ℕ
last_end mib rs = end_from mib FirstEntry rs

-- a WAL was read up to a target, or to its end: the entries that were read, the tip behind them,
-- the store that those make from nothing which end at the target or before it, and where the last
-- of these ends
pub record IsReadWal
    (s : StoreSettings) (files : Option Files) (upto : Option Lsn) (read : ReadWal)
    : Type 0 where
  pub entries : List Record
  pub archive : IfSome files (λ m. IsRead s m upto entries read.tip End)
  pub tip : read.tip ≡ tip_behind (first_tip s.segment) entries
  pub ends : AllEndBy entries read.tip.end
  pub reached : replayed_to upto read.tip ≤ read.tip.end
  pub store : whole entries (replayed_to upto read.tip) ≡ Some read.store
  pub end : read.end.0 ≡ last_end s.segment (ending_by (replayed_to upto read.tip) entries)
  pub within : IsWithin s.segment read.tip

-- ---- what can't be

-- the archive is damaged so, before the target is reached
abbrev pub IsDamagedBefore : StoreSettings → Files → Option Lsn → Damage → Type 0
IsDamagedBefore s files upto damage = HasDamageFrom s files FirstEntry upto damage

-- the archive ends at a place before a target
abbrev pub EndsBefore : StoreSettings → Files → Lsn → Lsn → Type 0
EndsBefore s files end target = EndsEarlyFrom s files FirstEntry end target

-- the start of the first entry that can't be applied to what those before it make of a store
abbrev pub bad_behind : ℕ → Option Store → (Store → Option ℕ) → Option ℕ
bad_behind start None later = Some start
bad_behind start (Some store) later = later store

abbrev pub first_bad : Store → List Entry → Option ℕ
first_bad store [] = None
first_bad store (e ∷ es) = bad_behind e.start (apply store e) (λ next. first_bad next es)

-- the archive is read up to the target, and the entry at a place is the first of those that end at
-- the target or before it which can't be applied
pub record HasBadDelta (s : StoreSettings) (files : Files) (upto : Option Lsn) (place : Lsn)
    : Type 0 where
  pub entries : List Record
  pub last : Tip
  pub read : IsRead s files upto entries last End
  pub reached : replayed_to upto last ≤ last.end
  pub bad :
      first_bad empty (map entry_of (ending_by (replayed_to upto last) entries)) ≡ Some place.0
