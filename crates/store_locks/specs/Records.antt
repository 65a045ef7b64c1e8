-- The records that a store's WAL has for its history, from a place on.
use Rattle.std.specs.Prelude.{◌≡◌, ℕ, ◌<◌, ◌≤◌, ◌==◌, ◌||◌, Bool, true, List, [], ◌∷◌, length, take, Option, Some}
use Rattle.std.specs.List.{All, list_any}
use mathlib.Core.List.{IsPrefix}
use Rattle.lsn_core.specs.Files.{Files}
use Rattle.lsn_core.specs.Segment.{IsSegmentMib, StoreSettings}
use Rattle.lsn_core.specs.Tip.{Tip}
use Rattle.wal_record.specs.declared.record.Record.{Record}
use Rattle.wal_record.specs.Sound.{IsSound}
use Rattle.wal_record.specs.Tips.{first_tip, wal_limit}
use Rattle.wal_archive.specs.Archive.{archive_of}
use Rattle.wal_archive.specs.Laws.{HasNoGap}
use Rattle.wal_reader.specs.Wal.{IsWal, ReadsOn}
use Rattle.wal_reader.specs.wal_pieces.Laws.{from_place}
use Rattle.history.specs.Entry.{Entry}
use Rattle.history.specs.Written.{tip_of}
use Rattle.history.specs.fuzzy_copies.Logged.{log_of}
use Rattle.journal.specs.Lawful.{IsLawful}

-- an entry starts at a place, or ends there
abbrev pub is_place_of : ℕ → Entry → Bool
is_place_of place e = (e.start == place) || (e.end == place)

-- one of a history's entries does
abbrev pub IsPlaceOf : List Entry → ℕ → Type 0
IsPlaceOf history place = list_any (is_place_of place) history ≡ true

-- these records are read of the files of a WAL up to a place, where it then ends, unless it goes on
-- there over a missing file
pub record HoldsRecords (s : StoreSettings) (records : List Record) (end : ℕ) (files : Files)
    : Type 0 where
  pub tip : Tip
  pub at : tip.end ≡ end
  pub read : ReadsOn s files (first_tip s.segment) records tip
  pub whole : HasNoGap s.segment (archive_of s.segment files) tip.end → IsWal s files records tip

-- a WAL has records for a history, up to where that ends, and its area holds them; these are the
-- first of those that start at a place or past it, so many
pub record ArePartOf (s : StoreSettings) (history : List Entry) (wal : Option Files)
    (from most : ℕ) (records : List Record) : Type 0 where
  pub lawful : IsLawful s.segment history
  pub files : Files
  pub told : wal ≡ Some files
  pub held :
      HoldsRecords s (log_of s.segment lawful.found lawful.own) (tip_of s.segment history).end files
  pub are : records ≡ take most (from_place from (log_of s.segment lawful.found lawful.own))

-- so of an open store whose history was seen
abbrev pub HasRecords : StoreSettings → List Entry → ℕ → ℕ → List Record → Type 0
HasRecords s seen from most records = (wal : Option Files) × ArePartOf s seen wal from most records

-- records that end one behind the other, the first of them past a place, each sound and within the
-- room of the WAL
abbrev pub EndBehind : ℕ → ℕ → List Record → Type 0
EndBehind mib place [] = Unit {0}
EndBehind mib place (r ∷ rs) =
    (place < r.end.0) × (r.end.0 ≤ wal_limit mib) × IsSound r.kind × EndBehind mib r.end.0 rs

-- so many at most of them, whatever the area tells
abbrev pub AreSome : ℕ → ℕ → ℕ → List Record → Type 0
AreSome mib place most records = (length records ≤ most) × EndBehind mib place records

-- ---- laws

-- each record that is answered ends where an entry of the history does, so that the next piece can
-- be asked for from there
abbrev pub RecordsEndAtEntries : Type 0
RecordsEndAtEntries =
    (s : StoreSettings) (seen : List Entry) (from most : ℕ) (records : List Record)
    → IsSegmentMib s.segment → HasRecords s seen from most records
    → All (λ r. IsPlaceOf seen r.end.0) records

-- and this stays as the history goes on
abbrev pub PlacesStay : Type 0
PlacesStay =
    (place : ℕ) (old new : List Entry) → IsPlaceOf old place → IsPrefix old new
    → IsPlaceOf new place
