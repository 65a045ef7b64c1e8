-- The WAL that files are under some settings: its entries in order, where it ends and with which
-- tip, or how it is damaged. `wal_archive` has the rules; here the entries are those of the grammar
-- of `wal_record`.
use Rattle.std.specs.Prelude.{◌≡◌, ℕ, List, [], ◌∷◌}
use Rattle.lsn_core.specs.Files.{Files}
use Rattle.lsn_core.specs.Segment.{StoreSettings}
use Rattle.lsn_core.specs.Tip.{Tip, tip_with}
use Rattle.wal_record.specs.declared.record.Record.{Record}
use Rattle.wal_record.specs.Decoding.{record_at}
use Rattle.wal_record.specs.Tips.{tip_after}
use Rattle.wal_archive.specs.declared.fault.Damage.{Damage}
use Rattle.wal_archive.specs.Archive.{archive_of}
use Rattle.wal_archive.specs.Rules.{Found, End, Gives, Bad, next_in, first_in, Walks}
use Rattle.wal_archive.specs.Rules as rules

-- ---- read from its beginning

-- what stands behind a tip
abbrev pub stands_behind : StoreSettings → Files → Tip → Found
stands_behind s files tip = next_in record_at s.segment s.system (archive_of s.segment files) tip

-- just these entries come behind a tip, one behind the other
abbrev pub ReadsOn : StoreSettings → Files → Tip → List Record → Tip → Type 0
ReadsOn s files tip rs last =
    Walks record_at s.segment s.system (archive_of s.segment files) tip rs last

-- the WAL of these files is just these entries, and ends with a tip
abbrev pub IsWal : StoreSettings → Files → List Record → Tip → Type 0
IsWal s files rs tip = rules.IsWal record_at s.segment s.system files rs tip

-- the WAL of these files is damaged so, behind these entries
abbrev pub IsDamaged : StoreSettings → Files → List Record → Damage → Type 0
IsDamaged s files rs damage = rules.IsDamaged record_at s.segment s.system files rs damage

-- ---- read from a place

-- where a reading from a place begins: without an entry
abbrev pub tip_at : ℕ → Tip
tip_at from = tip_with from 0 0 0

-- what stands at a place where a reading begins: the link of an entry there isn't tested
abbrev pub stands_at : StoreSettings → Files → ℕ → Found
stands_at s files from =
    first_in record_at s.segment s.system (archive_of s.segment files) from

-- just these entries come from a place on, one behind the other
abbrev pub ReadsFrom : StoreSettings → Files → ℕ → List Record → Tip → Type 0
ReadsFrom s files from [] last = last ≡ tip_at from
ReadsFrom s files from (r ∷ rs) last =
    (stands_at s files from ≡ Gives r) × ReadsOn s files (tip_after (tip_at from) r) rs last

-- what stands behind some entries that come from a place on, the last of them with a tip
abbrev pub found_from : StoreSettings → Files → ℕ → List Record → Tip → Found
found_from s files from [] last = stands_at s files from
found_from s files from (r ∷ rs) last = stands_behind s files last

-- from a place on the WAL of these files is just these entries, and ends with a tip
pub record IsWalFrom (s : StoreSettings) (files : Files) (from : ℕ) (rs : List Record) (tip : Tip)
    : Type 0 where
  pub walk : ReadsFrom s files from rs tip
  pub ended : found_from s files from rs tip ≡ End

-- from a place on the WAL of these files is damaged so, behind these entries
pub record IsDamagedFrom (s : StoreSettings) (files : Files) (from : ℕ) (rs : List Record)
    (damage : Damage) : Type 0 where
  pub tip : Tip
  pub walk : ReadsFrom s files from rs tip
  pub broken : found_from s files from rs tip ≡ Bad damage
