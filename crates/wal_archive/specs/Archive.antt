-- The archive of a WAL as the bytes at its places.
use Rattle.std.specs.Prelude.{◌≡◌, ℕ, zero, suc, ◌+◌, ◌-◌, ◌*◌, ◌/◌, ◌%◌, ◌<◌, max, Bool, true, List, [], ◌∷◌, length, get_or, take, Option, Some, None, nat_lt, nat_le, ◌==◌, ◌&&◌, if◌then◌else◌}
use Rattle.std.specs.FinMap.{contains_key}
use Rattle.lsn_core.specs.Files.{Files}
use Rattle.lsn_core.specs.Segment.{segment_bytes}
use Rattle.lsn_core.specs.Sizes.{most_segments}
use Rattle.lsn_core.specs.Names.{segment_name_bytes}
use Rattle.vault.specs.Area.{bytes_of}

-- the byte at each place that is held, which segments have a file, where the bytes of a segment's
-- file end, where the held bytes end, and where those of them other than zero end
pub record Archive : Type 0 where
  pub byte : ℕ → Option ℕ
  pub has_file : ℕ → Bool
  pub file_end : ℕ → ℕ
  pub top : ℕ
  pub mark : ℕ

-- an archive has the segments from 1 to the last one
unfoldable pub is_segment : ℕ → Bool
is_segment seg = nat_le 1 seg && nat_le seg most_segments

-- the bytes of a segment; those of its file past the segment's size are passed over
unfoldable pub held_in : ℕ → Files → ℕ → List ℕ
held_in mib files seg =
    if is_segment seg then take (segment_bytes mib) (bytes_of files (segment_name_bytes seg mib))
    else []

-- the byte at an index, where it is there
abbrev pub nth : List ℕ → ℕ → Option ℕ
nth bytes i = if nat_lt i (length bytes) then Some (get_or bytes i 0) else None

-- behind the last byte that isn't zero
abbrev pub nonzero_end : List ℕ → ℕ
nonzero_end [] = 0
nonzero_end (b ∷ bs) =
    if nat_lt 0 (nonzero_end bs) then nonzero_end bs + 1 else (if b == 0 then 0 else 1)

-- an end within a segment as a place; 0 where there is none
abbrev pub end_at : ℕ → ℕ → ℕ → ℕ
end_at mib seg count = if count == 0 then 0 else seg * segment_bytes mib + count

-- the greatest of the values at 1 to so many
unfoldable pub greatest : (ℕ → ℕ) → ℕ → ℕ
greatest f zero = 0
greatest f (suc n) = max (greatest f n) (f (suc n))

unfoldable pub top_of : ℕ → Files → ℕ
top_of mib files =
    greatest (λ seg. end_at mib seg (length (held_in mib files seg))) most_segments

unfoldable pub mark_of : ℕ → Files → ℕ
mark_of mib files =
    greatest (λ seg. end_at mib seg (nonzero_end (held_in mib files seg))) most_segments

unfoldable pub byte_of : ℕ → Files → ℕ → Option ℕ
byte_of mib files x = nth (held_in mib files (x / segment_bytes mib)) (x % segment_bytes mib)

unfoldable pub has_segment : ℕ → Files → ℕ → Bool
has_segment mib files seg = is_segment seg && contains_key files (segment_name_bytes seg mib)

-- the archive that files are, with segments of so many MiB
abbrev pub archive_of : ℕ → Files → Archive
archive_of mib files = record {
  byte = byte_of mib files;
  has_file = has_segment mib files;
  file_end = λ seg. seg * segment_bytes mib + length (held_in mib files seg);
  top = top_of mib files;
  mark = mark_of mib files;
}

-- what the bytes of an archive, its files and its two ends say of one another
pub record IsArchive (mib : ℕ) (a : Archive) : Type 0 where
  pub held : (x b : ℕ) → a.byte x ≡ Some b → x < a.top
  pub top_held : 0 < a.top → (b : ℕ) × (a.byte (a.top - 1) ≡ Some b)
  pub marked : (x b : ℕ) → a.byte x ≡ Some b → 0 < b → x < a.mark
  pub mark_held : 0 < a.mark → (b : ℕ) × (a.byte (a.mark - 1) ≡ Some b) × (0 < b)
  pub filed : (x b : ℕ) → a.byte x ≡ Some b → a.has_file (x / segment_bytes mib) ≡ true

-- an archive holds what another one holds before a place
abbrev pub Extends : Archive → Archive → ℕ → Type 0
Extends old new limit = (x b : ℕ) → x < limit → old.byte x ≡ Some b → new.byte x ≡ Some b
