-- The directory of a backup that is as its manifest lists it (PostgreSQL manual, pg_verifybackup).
use Rattle.std.specs.Prelude.{◌≡◌, ℕ, ◌%◌, Bool, true, false, List, length, codes, nat_eq, ◌||◌, Some, None, Ok}
use Rattle.std.specs.Str.{bytes_eq}
use Rattle.std.specs.List.{AllByRecursion, list_any, starts_with}
use Rattle.std.specs.FinMap.{get}
use Rattle.lsn_core.specs.Files.{Files}
use Rattle.vault.specs.Area.{bytes_of}
use Rattle.backup_label.specs.Label.{IsLabel}
use Rattle.backup_label.specs.declared.label.Label.{Label}
use Rattle.backup_files.specs.Directory.{manifest_name, label_name}
use Rattle.chain_files.specs.Paths.{file_path, IsIncrementalPath, IsForkFile}
use Rattle.chain_files.specs.Segments.{IsIncrFile}
use Rattle.manifest.specs.Listing.{Listing}
use Rattle.manifest.specs.Reading.{ReadAnswers}
use Rattle.manifest.specs.declared.listing.FileRow.{FileRow}
use Rattle.file_sums.specs.Sums.{HasSum}
use Rattle.chain_check.specs.declared.member.Member.{Member}

-- ---- what the manifest lists

-- the directory's manifest is of a version that is read and of its grammar, and says this
abbrev pub HasManifest : Files → Listing → Type 0
HasManifest files m =
    (bytes : List ℕ) × (get files manifest_name ≡ Some bytes) × ReadAnswers bytes (Ok m)

-- the file of a row is there, and has the row's size and sum
pub record IsRowAsListed (files : Files) (row : FileRow) : Type 0 where
  pub bytes : List ℕ
  pub there : get files row.path ≡ Some bytes
  pub size : length bytes ≡ row.size
  pub summed : HasSum row bytes

-- whether a row has this path
abbrev pub is_listed : List FileRow → List ℕ → Bool
is_listed rows path = list_any (λ row. bytes_eq row.path path) rows

-- whether a file may stand beside those of the rows: it is one of these, the manifest itself, or
-- in the folder of the WAL, whose files need no row
abbrev pub may_stand : List FileRow → List ℕ → Bool
may_stand rows name =
    bytes_eq name manifest_name
    || (starts_with nat_eq name (codes "pg_wal/") || is_listed rows name)

-- no other file stands there
abbrev pub HasNoOther : Files → List FileRow → Type 0
HasNoOther files rows = (name : List ℕ) → may_stand rows name ≡ false → get files name ≡ None

-- ---- the label

-- the text is that of a label, and the start that it tells is this place
abbrev pub IsLabelFrom : ℕ → List ℕ → Label → Type 0
IsLabelFrom start text label = IsLabel text label × (label.start.0 ≡ start)

-- ---- the forms of files

-- the file of a row has its form: an incremental file is one by its head, and isn't there in the
-- plain form too; the plain file of a fork's segment is of whole pages
pub record HasForm (files : Files) (row : FileRow) : Type 0 where
  pub alone : (f : IsIncrementalPath row.path) → get files (file_path f.folder f.name false) ≡ None
  pub incremental : IsIncrementalPath row.path → IsIncrFile (bytes_of files row.path) row.size
  pub pages : IsForkFile row.path → row.size % 8192 ≡ 0

-- ---- the whole

-- the files of a directory are those of a backup as its manifest lists them: what its label and
-- its manifest tell, the member has
pub record IsAsListed (files : Files) (member : Member) : Type 0 where
  pub manifest : HasManifest files member.manifest
  pub rows : AllByRecursion (IsRowAsListed files) member.manifest.files
  pub label_row : is_listed member.manifest.files label_name ≡ true
  pub others : HasNoOther files member.manifest.files
  pub label : IsLabelFrom member.manifest.start (bytes_of files label_name) member.label
  pub forms : AllByRecursion (HasForm files) member.manifest.files
