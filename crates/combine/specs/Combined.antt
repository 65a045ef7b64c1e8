-- What a chain of backups is combined to (PostgreSQL manual, pg_combinebackup).
use Rattle.std.specs.Prelude.{◌≡◌, ℕ, true, false, List, [], ◌∷◌, ◌++◌, Some, if◌then◌else◌}
use Rattle.std.specs.Str.{bytes_eq}
use Rattle.lsn_core.specs.Files.{Files}
use Rattle.lsn_core.specs.Store.{ForkPages}
use Rattle.vault.specs.Area.{bytes_of}
use Rattle.incr_file.specs.Form.{pages_bytes}
use Rattle.manifest.specs.Listing.{Listing}
use Rattle.backup_files.specs.Directory.{label_name}
use Rattle.chain_files.specs.Segments.{chain_pages}
use Rattle.chain_files.specs.Paths.{file_path, IsIncrementalPath}
use Rattle.directory_files.specs.Labels.{first_lines}
use Rattle.directory_files.specs.Relisted.{IsRelisted}
-- which rows are listed again, and how
pub use Rattle.directory_files.specs.Relisted.{other_rows, relisted}

-- a chain ends with its newest member
abbrev pub EndsWith : List Files → Files → Type 0
EndsWith chain newest = (older : List Files) × (chain ≡ older ++ (newest ∷ []))

-- ---- its files

-- what a file holds that isn't rebuilt: what it held. Of the label the lines are left out that only
-- an incremental backup has: it keeps the first seven
abbrev pub kept_bytes : Files → List ℕ → List ℕ
kept_bytes newest path =
    if bytes_eq path label_name then first_lines 7 (bytes_of newest path) else bytes_of newest path

-- a file of a folder, with its path: it is plain, and has the pages that the chain is combined to
abbrev pub IsRebuilt : List Files → List ℕ → List ℕ → List ℕ × List ℕ → Type 0
IsRebuilt chain folder name file =
    (pages : ForkPages) × (chain_pages chain folder name ≡ Some pages)
    × (file ≡ (file_path folder name false, pages_bytes pages))

-- the file that stands for the newest member's file of a path: an incremental one is rebuilt, any
-- other keeps its path
pub record IsCombinedFile (chain : List Files) (newest : Files) (path : List ℕ)
    (file : List ℕ × List ℕ) : Type 0 where
  pub rebuilt : (f : IsIncrementalPath path) → IsRebuilt chain f.folder f.name file
  pub kept : (IsIncrementalPath path → ⊥) → file ≡ (path, kept_bytes newest path)

-- ---- its directory

-- a directory is what a chain is combined to, whose newest member's manifest is this: its files are
-- those that stand for the listed ones, and a manifest that lists them, so many, and no others. The
-- rows tell the moment of combining, and the range of the WAL is the newest member's. The manifest
-- is read as what it was written from
abbrev pub IsCombined : List Files → Files → Listing → ℕ → ℕ → Files → Type 0
IsCombined chain newest m when count out =
    IsRelisted (IsCombinedFile chain newest) m when count out
