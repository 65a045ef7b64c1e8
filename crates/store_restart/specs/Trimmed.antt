-- A WAL's archive cut behind a place.
use Rattle.std.specs.Prelude.{◌≡◌, ℕ, ◌<◌, ◌≤◌, ◌%◌, true, List, Option, None}
use Rattle.std.proofs.Common.{inl, inr}
use Rattle.lsn_core.specs.Files.{Files}
use Rattle.lsn_core.specs.Names.{segment_name_bytes, segment_number}
use Rattle.lsn_core.specs.Segment.{segment_bytes}
use Rattle.vault.specs.Frame.{LeavesNow, LeavesOnly}
use Rattle.vault.specs.Stops.{Event}
use Rattle.wal_archive.specs.Archive.{Archive, Extends, archive_of, is_segment}

-- a name is that of a segment of the archive, and of one behind this one
pub record IsArchiveFile (mib : ℕ) (name : List ℕ) : Type 0 where
  pub seg : ℕ
  pub there : is_segment seg ≡ true
  pub named : name ≡ segment_name_bytes seg mib

pub record IsLaterFile (mib own : ℕ) (name : List ℕ) : Type 0 where
  pub seg : ℕ
  pub there : is_segment seg ≡ true
  pub later : own < seg
  pub named : name ≡ segment_name_bytes seg mib

-- a segment file behind that of a place is removed, the place's own is cut to it, or the area is
-- synced
abbrev pub IsTrim : ℕ → ℕ → Event → Type 0
IsTrim mib end (inl w) = ⊥
IsTrim mib end (inr (inl k)) =
    (is_segment (segment_number end mib) ≡ true)
    × ((k.0 ≡ segment_name_bytes (segment_number end mib) mib) × (k.1 ≡ end % segment_bytes mib))
IsTrim mib end (inr (inr (inl name))) = IsLaterFile mib (segment_number end mib) name
IsTrim mib end (inr (inr (inr files))) = Unit {0}

-- an archive holds just what another one holds before a place
pub record IsCutAt (end : ℕ) (old new : Archive) : Type 0 where
  pub before : (x : ℕ) → x < end → new.byte x ≡ old.byte x
  pub none : (x : ℕ) → end ≤ x → new.byte x ≡ None

abbrev pub AreCutAt : ℕ → ℕ → Files → Files → Type 0
AreCutAt mib end old new = IsCutAt end (archive_of mib old) (archive_of mib new)

-- what a stop left of the archive before a place, it leaves at each moment
abbrev pub HoldsFront : ℕ → ℕ → Archive → Files → Type 0
HoldsFront mib end a files = Extends a (archive_of mib files) end

abbrev pub KeepsFront : ℕ → ℕ → Option (List Event) → Option (List Event) → Type 0
KeepsFront mib end old new = (a : Archive) → LeavesNow (HoldsFront mib end a) old
    → LeavesOnly (HoldsFront mib end a) old new
