-- The survivors of a WAL as they are read, and from where on they are replayed.
use Rattle.std.specs.Prelude.{◌≡◌, ℕ, ◌==◌, ◌&&◌, Bool, true, false, List, [], ◌∷◌, Option, Some, None, IfSome, nat_lt, if◌then◌else◌}
use Rattle.std.specs.List.{list_any}
use Rattle.lsn_core.specs.Files.{Files}
use Rattle.lsn_core.specs.Segment.{StoreSettings}
use Rattle.lsn_core.specs.Tip.{Tip}
use Rattle.lsn_core.specs.declared.lsn.Lsn.{Lsn}
use Rattle.wal_record.specs.declared.record.Record.{Record}
use Rattle.wal_record.specs.declared.record.Kind.{Kind}
use Rattle.wal_record.specs.declared.record.Kind.TheVariants.{Shutdown, Online, RedoMark, NoOp, BackupEnd, Images, Generic, Create, Truncate, Commit}
use Rattle.wal_record.specs.Decoding.{record_at}
use Rattle.wal_record.specs.Tips.{first_tip}
use Rattle.wal_archive.specs.Rules.{Bad}
use Rattle.wal_archive.specs.declared.fault.Damage.{Damage}
use Rattle.wal_archive.specs.declared.fault.Damage.TheVariants as damage
use Rattle.wal_reader.specs.Causes.{WalCauses, no_causes}
use Rattle.wal_reader.specs.Wal.{stands_behind, ReadsOn}
use Rattle.survivor_laws.specs.Survivors.{AreSurvivors}
use Rattle.store_restart.specs.declared.survivors.Survivors.{Survivors}

-- ---- from where on

-- the redo point that an entry names, where it is a checkpoint
abbrev pub named_by : Kind → Option Lsn
named_by (Shutdown redo) = Some redo
named_by (Online redo) = Some redo
named_by (RedoMark n) = None
named_by NoOp = None
named_by (BackupEnd start) = None
named_by (Images blocks) = None
named_by (Generic blocks) = None
named_by (Create fork) = None
named_by (Truncate rel count flags) = None
named_by (Commit time rels) = None

-- a place that is named later, where one is
abbrev pub later_named : Option Lsn → Option Lsn → Option Lsn
later_named found None = found
later_named found (Some place) = Some place

-- the redo point that the last checkpoint of some entries names, behind those that named one before
abbrev pub last_named : Option Lsn → List Record → Option Lsn
last_named found [] = found
last_named found (r ∷ rs) = last_named (later_named found (named_by r.kind)) rs

-- one of the entries starts at a place
abbrev pub has_start : List Record → ℕ → Bool
has_start rs place = list_any (λ r. r.start.0 == place) rs

-- a place, where one of the entries starts there
abbrev pub if_started : List Record → Option Lsn → Option Lsn
if_started rs None = None
if_started rs (Some place) = if has_start rs place.0 then Some place else None

-- where replay of entries begins: at the redo point that the last checkpoint among them names,
-- where one of them starts there
abbrev pub replay_start : List Record → Option Lsn
replay_start rs = if_started rs (last_named None rs)

-- ---- what is read

-- damage as a stop may leave it: the archive is broken, or a segment is missing
abbrev pub is_torn : Damage → Bool
is_torn (damage.Missing seg) = true
is_torn (damage.Broken at why) = true
is_torn (damage.Unsupported at manager info) = false
is_torn (damage.Content at why) = false

-- an archive that is damaged so behind a tip is one that a stop cut off there, behind its first
-- entry
abbrev pub cuts_off : Tip → Damage → Bool
cuts_off tip damage = nat_lt 0 tip.count && is_torn damage

-- the entries of these files that survived a stop, and the tip behind them
abbrev pub SurviveIn : StoreSettings → Files → List Record → Tip → Type 0
SurviveIn s files rs tip = AreSurvivors record_at s.segment s.system files rs tip

-- they are the survivors: behind them the archive ends, or is cut off
pub record IsCutOff (s : StoreSettings) (files : Files) (rs : List Record) (tip : Tip)
    : Type 0 where
  pub survive : SurviveIn s files rs tip
  pub cut : (damage : Damage) → stands_behind s files tip ≡ Bad damage
      → cuts_off tip damage ≡ true

-- the survivors were read
pub record AreReadIn (s : StoreSettings) (found : Survivors) (files : Files) : Type 0 where
  pub records : List Record
  pub off : IsCutOff s files records found.tip
  pub redo : found.redo ≡ replay_start records

abbrev pub AreRead : StoreSettings → Option Files → Survivors → Type 0
AreRead s told found = IfSome told (AreReadIn s found)

-- the archive is damaged so as no stop leaves it
pub record IsSpoilt (s : StoreSettings) (damage : Damage) (files : Files) : Type 0 where
  pub records : List Record
  pub tip : Tip
  pub walk : ReadsOn s files (first_tip s.segment) records tip
  pub broken : stands_behind s files tip ≡ Bad damage
  pub here : cuts_off tip damage ≡ false

abbrev pub survivor_causes : StoreSettings → Option Files → WalCauses
survivor_causes s told = record no_causes {
  damaged = λ damage. IfSome told (IsSpoilt s damage);
}
