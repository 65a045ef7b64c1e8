-- Entries laid out behind the archive's end, and what is written of them.
use Rattle.std.specs.Prelude.{◌≡◌, ℕ, zero, suc, ◌+◌, ◌-◌, ◌/◌, ◌%◌, ◌<◌, ◌≤◌, List, [], ◌∷◌, ◌++◌, length, take, drop, Some, Ok}
use Rattle.lsn_core.specs.byte_words.Numbers.{u32_in}
use Rattle.lsn_core.specs.Files.{Files}
use Rattle.lsn_core.specs.Segment.{segment_bytes}
use Rattle.lsn_core.specs.Names.{segment_name_bytes}
use Rattle.lsn_core.specs.Tip.{Tip}
use Rattle.vault.specs.Area.{after_write}
use Rattle.wal_pages.specs.Places.{start_after, end_of}
use Rattle.wal_pages.specs.Spread.{spread}
use Rattle.wal_pages.specs.wal_heads.Header.{least_total, most_total}
use Rattle.wal_record.specs.Spelling.{sealed}
use Rattle.wal_record.specs.Tips.{tip_after, wal_limit}
use Rattle.wal_record.specs.declared.record.Record.{Record}
use Rattle.wal_archive.specs.Archive.{Archive}
use Rattle.wal_archive.specs.Rules.{Judge, lsn, place_behind}

-- the entry that comes next behind a tip: it can be written, ends within the archive, and the judge
-- takes what is written
pub record IsNext (judge : Judge) (mib : ℕ) (tip : Tip) (r : Record) : Type 0 where
  pub start : r.start.0 ≡ start_after mib tip.end
  pub end : r.end.0 ≡ end_of mib (start_after mib tip.end) (length (sealed r))
  pub total : u32_in (sealed r) 0 ≡ length (sealed r)
  pub least : least_total ≤ length (sealed r)
  pub most : length (sealed r) ≤ most_total
  pub within : r.end.0 ≤ wal_limit mib
  pub taken : judge (place_behind mib tip.end (sealed r)) (Some (lsn tip.prev)) (sealed r) ≡ Ok r

-- entries one behind the other from a tip on
abbrev pub IsChain : Judge → ℕ → Tip → List Record → Tip → Type 0
IsChain judge mib tip [] last = last ≡ tip
IsChain judge mib tip (r ∷ rs) last =
    IsNext judge mib tip r × IsChain judge mib (tip_after tip r) rs last

-- the archive's bytes of these entries, from a place on
abbrev pub laid_out : ℕ → ℕ → ℕ → List Record → List ℕ
laid_out mib system at [] = []
laid_out mib system at (r ∷ rs) =
    spread mib system at (sealed r) ++ laid_out mib system r.end.0 rs

-- how many bytes are from a place to the next multiple of 1 MiB, which no segment's end is within
abbrev pub room_in : ℕ → ℕ
room_in at = 1048576 - at % 1048576

-- a piece that stands in one segment, written at its place
abbrev pub piece_written : ℕ → ℕ → List ℕ → Files → Files
piece_written mib at piece files =
    after_write (segment_name_bytes (at / segment_bytes mib) mib) (at % segment_bytes mib) piece
    files

-- the bytes of the archive written from a place on, over at most so many pieces: each piece ends at
-- the next multiple of 1 MiB, and goes into the file of its segment. No bytes make no file
unfoldable pub archive_written : ℕ → ℕ → ℕ → List ℕ → Files → Files
archive_written mib zero at bytes files = files
archive_written mib (suc pieces) at [] files = files
archive_written mib (suc pieces) at (b ∷ bytes) files =
    archive_written mib pieces (at + room_in at) (drop (room_in at) (b ∷ bytes))
    (piece_written mib at (take (room_in at) (b ∷ bytes)) files)

-- what a write of so many bytes from a place on may leave where it failed: bytes that were held
-- before it are held still, and behind it nothing changed
pub record IsLeft (old new : Archive) (from count : ℕ) : Type 0 where
  pub before : (x b : ℕ) → x < from → old.byte x ≡ Some b → new.byte x ≡ Some b
  pub behind : (x : ℕ) → from + count ≤ x → new.byte x ≡ old.byte x
