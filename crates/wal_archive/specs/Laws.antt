-- What reading and writing an archive have to do with one another.
use Rattle.std.specs.Prelude.{◌≡◌, ℕ, ◌+◌, ◌/◌, ◌^◌, ◌<◌, ◌≤◌, ◌⊎◌, ◌↔◌, max, true, List, ◌∷◌, ◌++◌, length, Option, Some, Ok}
use Rattle.lsn_core.specs.Files.{Files}
use Rattle.lsn_core.specs.Segment.{segment_bytes}
use Rattle.lsn_core.specs.Tip.{Tip}
use Rattle.lsn_core.specs.declared.lsn.Lsn.{Lsn}
use Rattle.lsn_core.specs.declared.lsn.Place.{Place}
use Rattle.wal_pages.specs.Places.{start_after}
use Rattle.wal_record.specs.Decoding.{record_at}
use Rattle.wal_record.specs.Tips.{first_tip}
use Rattle.wal_record.specs.declared.record.Record.{Record}
use Rattle.wal_archive.specs.Archive.{Archive, archive_of, IsArchive, Extends}
use Rattle.wal_archive.specs.Rules.{Judge, lsn, place_behind, Gives, next_in, Walks, IsWal}
use Rattle.wal_archive.specs.Stands.{IsEnd, Stands}
use Rattle.wal_archive.specs.Writing.{IsChain, laid_out, archive_written, IsLeft}

-- a judge gives an entry the place that it was told
abbrev pub IsFair : Judge → Type 0
IsFair judge = (place : Place) (prev : Option Lsn) (bytes : List ℕ) (r : Record)
    → judge place prev bytes ≡ Ok r → (r.start ≡ place.start) × (r.end ≡ place.end)

-- and so does the reading of entries
abbrev pub EntriesAreFair : Type 0
EntriesAreFair = IsFair record_at

-- behind a place the archive doesn't go on over a missing file: nothing is held at the place or
-- behind it, or its segment has a file
abbrev pub HasNoGap : ℕ → Archive → ℕ → Type 0
HasNoGap mib a e = (a.top ≤ e) ⊎ (a.has_file (e / segment_bytes mib) ≡ true)

-- these entries are read, and no byte other than zero is held at a limit or behind it: so a WAL is,
-- and so a failed write behind it leaves it
pub record IsKept (judge : Judge) (mib system : ℕ) (files : Files) (rs : List Record) (tip : Tip)
    (limit : ℕ) : Type 0 where
  pub walk : Walks judge mib system (archive_of mib files) (first_tip mib) rs tip
  pub zeros : (x b : ℕ) → (archive_of mib files).byte x ≡ Some b → 0 < b → x < limit

-- the files after these entries were written behind a tip
abbrev pub entries_written : ℕ → ℕ → Tip → List Record → Files → Files
entries_written mib system tip rs files =
    archive_written mib (length (laid_out mib system tip.end rs)) tip.end
    (laid_out mib system tip.end rs) files

-- files are an archive
abbrev pub FilesAreAnArchive : Type 0
FilesAreAnArchive =
    (mib : ℕ) (files : Files) → 1 ≤ mib → IsArchive mib (archive_of mib files)

-- the own bytes of an entry that is given behind a tip
pub record IsTaken (judge : Judge) (mib system : ℕ) (a : Archive) (tip : Tip) (r : Record)
    : Type 0 where
  pub bytes : List ℕ
  pub stands : Stands a mib system tip.end bytes
  pub taken : judge (place_behind mib tip.end bytes) (Some (lsn tip.prev)) bytes ≡ Ok r

-- an entry is given exactly where its bytes stand and the judge takes them
abbrev pub GivesWhatStands : Type 0
GivesWhatStands =
    (judge : Judge) (mib system : ℕ) (a : Archive) (tip : Tip) (r : Record)
    → 1 ≤ mib → IsArchive mib a → IsEnd mib tip.end
    → (next_in judge mib system a tip ≡ Gives r) ↔ IsTaken judge mib system a tip r

-- entries that are read are read in each archive that holds the same up to their end
abbrev pub HeldIsRead : Type 0
HeldIsRead =
    (judge : Judge) (mib system : ℕ) (old new : Archive) (rs : List Record) (tip : Tip)
    → 1 ≤ mib → IsFair judge → IsArchive mib new → Extends old new tip.end
    → Walks judge mib system old (first_tip mib) rs tip
    → Walks judge mib system new (first_tip mib) rs tip

-- what is written behind an archive's end is read behind what was there, over pages and segments,
-- also after a write that failed
abbrev pub WrittenIsRead : Type 0
WrittenIsRead =
    (judge : Judge) (mib system : ℕ) (files : Files) (rs news : List Record) (r : Record)
    (tip last : Tip) (limit : ℕ)
    → IsFair judge → 1 ≤ mib → mib ≤ 1024 → system < 2 ^ 64
    → IsKept judge mib system files rs tip limit → limit ≤ last.end
    → IsChain judge mib tip (r ∷ news) last
    → HasNoGap mib (archive_of mib (entries_written mib system tip (r ∷ news) files)) last.end
    → IsWal judge mib system (entries_written mib system tip (r ∷ news) files)
    (rs ++ (r ∷ news)) last

-- after a write behind its end that failed the entries of an archive are read still
abbrev pub LeftIsKept : Type 0
LeftIsKept =
    (judge : Judge) (mib system : ℕ) (old new : Files) (rs : List Record) (tip : Tip)
    (limit count : ℕ)
    → IsFair judge → 1 ≤ mib → IsKept judge mib system old rs tip limit
    → IsLeft (archive_of mib old) (archive_of mib new) tip.end count
    → IsKept judge mib system new rs tip (max limit (tip.end + count))

-- a WAL is kept, with zeros alone from where the next entry would start
abbrev pub WalIsKept : Type 0
WalIsKept =
    (judge : Judge) (mib system : ℕ) (files : Files) (rs : List Record) (tip : Tip)
    → IsFair judge → 1 ≤ mib → IsWal judge mib system files rs tip
    → IsKept judge mib system files rs tip (start_after mib tip.end)

-- a write that failed, or didn't, leaves nothing behind both its end and that of what was held
abbrev pub LeftEndsBefore : Type 0
LeftEndsBefore =
    (mib : ℕ) (old new : Archive) (from count : ℕ)
    → IsArchive mib old → IsArchive mib new → IsLeft old new from count
    → new.top ≤ max old.top (from + count)
