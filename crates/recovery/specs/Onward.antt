-- A WAL that is read from its first entry on, or from a place on, up to a target or to its end.
use Rattle.std.specs.Prelude.{◌≡◌, ℕ, ◌<◌, ◌≤◌, Bool, true, false, List, [], ◌∷◌, Option, Some, None, IfSome, nat_le, if◌then◌else◌}
use Rattle.std.specs.List.{filter}
use Rattle.lsn_core.specs.Files.{Files}
use Rattle.lsn_core.specs.declared.lsn.Lsn.{Lsn}
use Rattle.lsn_core.specs.Segment.{StoreSettings}
use Rattle.lsn_core.specs.Tip.{Tip}
use Rattle.wal_record.specs.declared.record.Record.{Record}
use Rattle.wal_record.specs.Tips.{first_tip, tip_after, tip_behind, IsWithin}
use Rattle.wal_archive.specs.Rules.{Found, End, Gives, Bad}
use Rattle.wal_archive.specs.declared.fault.Damage.{Damage}
use Rattle.wal_reader.specs.Cursor.{Cursor, at_start, at_place, found_at}
use Rattle.wal_reader.specs.Wal.{tip_at}
use Rattle.recovery.specs.declared.reading.Beginning.{Beginning}
use Rattle.recovery.specs.declared.reading.Beginning.TheVariants.{FirstEntry, AtPlace}

-- ---- what is read

-- the tip with which a reading begins, of a WAL with segments of so many MiB
abbrev pub begin_tip : ℕ → Beginning → Tip
begin_tip mib FirstEntry = first_tip mib
begin_tip mib (AtPlace from) = tip_at from.0

-- the cursor with which it begins
abbrev pub cursor_from : StoreSettings → Beginning → Cursor
cursor_from s FirstEntry = at_start s
cursor_from s (AtPlace from) = at_place s from.0

-- it is set at a place
abbrev pub is_at_place : Beginning → Bool
is_at_place FirstEntry = false
is_at_place (AtPlace from) = true

-- and is so still when these entries were read
abbrev pub is_set_behind : Bool → List Record → Bool
is_set_behind false rs = false
is_set_behind true [] = true
is_set_behind true (r ∷ rs) = false

-- what a cursor finds of a WAL that is read up to a target, where one is given: nothing more is
-- looked at once the tip ends at the target or past it
abbrev pub found_on : StoreSettings → Files → Option Lsn → Bool → Tip → Found
found_on s files None set tip = found_at s set tip files
found_on s files (Some target) set tip =
    if nat_le target.0 tip.end then End else found_at s set tip files

-- these entries are read, one behind the other
abbrev pub ReadsOn : StoreSettings → Files → Option Lsn → Bool → Tip → List Record → Tip → Type 0
ReadsOn s files upto set tip [] last = last ≡ tip
ReadsOn s files upto set tip (r ∷ rs) last =
    (found_on s files upto set tip ≡ Gives r)
    × ReadsOn s files upto false (tip_after tip r) rs last

-- from the beginning on these entries are read, and then this is found
pub record IsReadFrom
    (s : StoreSettings) (files : Files) (begin : Beginning) (upto : Option Lsn)
    (rs : List Record) (last : Tip) (found : Found)
    : Type 0 where
  pub reads : ReadsOn s files upto (is_at_place begin) (begin_tip s.segment begin) rs last
  pub behind : found_on s files upto (is_set_behind (is_at_place begin) rs) last ≡ found

-- ---- up to where

-- the place up to which a WAL that ends with a tip is replayed: the target, or where it ends
abbrev pub replayed_to : Option Lsn → Tip → ℕ
replayed_to None last = last.end
replayed_to (Some target) last = target.0

-- those entries that end at a place or before it
abbrev pub ending_by : ℕ → List Record → List Record
ending_by place rs = filter (λ r. nat_le r.end.0 place) rs

-- each of some entries ends at a place or before it
abbrev pub AllEndBy : List Record → ℕ → Type 0
AllEndBy [] place = Unit {0}
AllEndBy (r ∷ rs) place = (r.end.0 ≤ place) × AllEndBy rs place

-- where the last of some entries ends; where there is none, where the reading begins
abbrev pub end_from : ℕ → Beginning → List Record → ℕ
end_from mib begin rs = (tip_behind (begin_tip mib begin) rs).end

-- an end that was read is within the WAL's room; a place where a cursor is set may be any
abbrev pub StandsWithin : ℕ → Bool → Tip → Type 0
StandsWithin mib false tip = IsWithin mib tip
StandsWithin mib true tip = Unit

-- a WAL was read up to a target, or to its end: these entries, and the tip behind them
pub record IsReadFromTo
    (s : StoreSettings) (files : Option Files) (begin : Beginning) (upto : Option Lsn)
    (entries : List Record) (last : Tip)
    : Type 0 where
  pub archive : IfSome files (λ m. IsReadFrom s m begin upto entries last End)
  pub tip : last ≡ tip_behind (begin_tip s.segment begin) entries
  pub ends : AllEndBy entries last.end
  pub reached : replayed_to upto last ≤ last.end
  pub within : StandsWithin s.segment (is_set_behind (is_at_place begin) entries) last

-- ---- what can't be

-- the archive is damaged so, before the target is reached
pub record HasDamageFrom
    (s : StoreSettings) (files : Files) (begin : Beginning) (upto : Option Lsn) (damage : Damage)
    : Type 0 where
  pub entries : List Record
  pub last : Tip
  pub read : IsReadFrom s files begin upto entries last (Bad damage)

-- the archive ends at a place before a target
pub record EndsEarlyFrom
    (s : StoreSettings) (files : Files) (begin : Beginning) (end target : Lsn)
    : Type 0 where
  pub entries : List Record
  pub last : Tip
  pub read : IsReadFrom s files begin (Some target) entries last End
  pub end_is : end.0 ≡ last.end
  pub short : end.0 < target.0
