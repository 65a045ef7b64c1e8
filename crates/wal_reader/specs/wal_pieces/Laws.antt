-- What a piece has of a WAL whose first entries are known.
use Rattle.std.specs.Prelude.{◌≡◌, ℕ, ◌<◌, ◌≤◌, ◌==◌, ◌||◌, Bool, true, nat_le, List, [], ◌∷◌, ◌++◌, length, take, Some, None}
use Rattle.std.specs.List.{filter, list_any}
use Rattle.lsn_core.specs.Files.{Files}
use Rattle.lsn_core.specs.Segment.{IsSegmentMib, StoreSettings}
use Rattle.lsn_core.specs.Tip.{Tip}
use Rattle.wal_pages.specs.Places.{start_after}
use Rattle.wal_record.specs.declared.record.Record.{Record}
use Rattle.wal_record.specs.Tips.{first_tip}
use Rattle.wal_archive.specs.declared.fault.Damage.{Damage}
use Rattle.wal_archive.specs.Rules.{lsn}
use Rattle.wal_reader.specs.Wal.{ReadsOn}
use Rattle.wal_reader.specs.wal_pieces.Piece.{IsPiece, HasDamagedPiece}

-- the first entries of a WAL: the older ones, one, and the later ones, the last of which ends with
-- a tip
abbrev pub AreKnown : StoreSettings → Files → List Record → Record → List Record → Tip → Type 0
AreKnown s files older r later last =
    ReadsOn s files (first_tip s.segment) (older ++ (r ∷ later)) last

-- a piece from an entry's start on has the entries from there on, as far as they are known
abbrev pub PiecesAreParts : Type 0
PiecesAreParts =
    (s : StoreSettings) (files : Files) (older later piece : List Record) (r : Record) (last : Tip)
    (most : ℕ)
    → IsSegmentMib s.segment → AreKnown s files older r later last
    → IsPiece s (Some files) r.start.0 None most piece
    → take (length (r ∷ later)) piece ≡ take most (r ∷ later)

-- and no others, where the target is where the known ones end
abbrev pub PiecesEndAtTheTarget : Type 0
PiecesEndAtTheTarget =
    (s : StoreSettings) (files : Files) (older later piece : List Record) (r : Record) (last : Tip)
    (most : ℕ)
    → IsSegmentMib s.segment → AreKnown s files older r later last
    → IsPiece s (Some files) r.start.0 (Some (lsn last.end)) most piece
    → piece ≡ take most (r ∷ later)

-- before that target it meets no damage
abbrev pub KnownPiecesAreWhole : Type 0
KnownPiecesAreWhole =
    (s : StoreSettings) (files : Files) (older later : List Record) (r : Record) (last : Tip)
    (most : ℕ) (damage : Damage)
    → IsSegmentMib s.segment → AreKnown s files older r later last
    → HasDamagedPiece s files r.start.0 (Some (lsn last.end)) most damage → ⊥

-- ---- from where an entry ends

-- an entry starts at a place, or ends there
abbrev pub is_place_of : ℕ → Record → Bool
is_place_of place r = (r.start.0 == place) || (r.end.0 == place)

-- one of some entries does
abbrev pub IsPlaceAmong : List Record → ℕ → Type 0
IsPlaceAmong rs place = list_any (is_place_of place) rs ≡ true

-- those that start at a place or past it
abbrev pub from_place : ℕ → List Record → List Record
from_place place rs = filter (λ r. nat_le place r.start.0) rs

-- read from where an entry may start behind such a place, a piece of known entries, up to where
-- these end, has those that start at the place or past it
abbrev pub PiecesGoOn : Type 0
PiecesGoOn =
    (s : StoreSettings) (files : Files) (rs piece : List Record) (last : Tip) (place most : ℕ)
    → IsSegmentMib s.segment → ReadsOn s files (first_tip s.segment) rs last
    → IsPlaceAmong rs place → place < last.end
    → IsPiece s (Some files) (start_after s.segment place) (Some (lsn last.end)) most piece
    → piece ≡ take most (from_place place rs)

-- and meets no damage
abbrev pub PiecesGoOnWhole : Type 0
PiecesGoOnWhole =
    (s : StoreSettings) (files : Files) (rs : List Record) (last : Tip) (place most : ℕ)
    (damage : Damage)
    → IsSegmentMib s.segment → ReadsOn s files (first_tip s.segment) rs last
    → IsPlaceAmong rs place → place < last.end
    → HasDamagedPiece s files (start_after s.segment place) (Some (lsn last.end)) most damage → ⊥

-- none of them starts where the last one ends, or past it
abbrev pub NoneStartsBehind : Type 0
NoneStartsBehind =
    (s : StoreSettings) (files : Files) (rs : List Record) (last : Tip) (place : ℕ)
    → IsSegmentMib s.segment → ReadsOn s files (first_tip s.segment) rs last → last.end ≤ place
    → from_place place rs ≡ []
