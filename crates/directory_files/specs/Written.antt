-- Files that are written one after the other, and listed.
use Rattle.std.specs.Prelude.{◌≡◌, ◌<◌, ℕ, ◌+◌, ◌*◌, ◌^◌, true, List, [], ◌∷◌, ◌++◌, map, take, drop, length, Option, Some, IfSome, IsSome}
use Rattle.std.specs.List.{AllByRecursion, IsDistinct}
use Rattle.std.specs.Str.{IsUtf8}
use Rattle.std.specs.Ordering.{nat_cmp, eq_by_cmp}
use Rattle.std.specs.Cmp.Lexicographic.{slice_cmp}
use Rattle.std.specs.FinMap.{empty}
use Rattle.sha2.specs.Hashers.{Holds256}
use Rattle.lsn_core.specs.Files.{Files}
use Rattle.lsn_core.specs.Store.{with_files}
use Rattle.vault.specs.Area.{bytes_of}
use Rattle.incr_file.specs.Form.{pages_bytes}
use Rattle.manifest.specs.Listing.{Listing}
use Rattle.manifest.specs.Shape.{is_path}
use Rattle.manifest.specs.declared.listing.FileRow.{FileRow}
use Rattle.backup_files.specs.Directory.{row_of}
use Rattle.backup_files.specs.Area.{with_file}
use Rattle.backup_files.specs.Rows.{ListsRows}
use Rattle.chain_files.specs.Segments.{chain_pages}
use Rattle.chain_files.specs.Sources.{OfChain, IsSourceAt}
use Rattle.chain_files.specs.declared.source.SegmentSource.{SegmentSource}
use Rattle.directory_files.specs.Relisted.{File}
use Rattle.directory_files.specs.declared.growing.Growing.{Growing}
use Rattle.directory_files.specs.declared.targets.Target.{Target}

abbrev pub to_of : Target → List ℕ
to_of target = target.to

abbrev pub itself : List ℕ → List ℕ
itself path = path

-- a path that a manifest can have
abbrev pub IsTextPath : List ℕ → Type 0
IsTextPath path = IsUtf8 path × (is_path path ≡ true)

-- a manifest can list files of these paths, and the rest that another manifest tells
pub record CanList (m : Listing) (paths : List (List ℕ)) : Type 0 where
  pub system : IsSome m.system
  pub rises : m.start < m.end
  pub texts : AllByRecursion (λ path. IsUtf8 path × (is_path path ≡ true)) paths
  pub distinct : IsDistinct (eq_by_cmp (slice_cmp nat_cmp)) paths

-- ---- a file that grows

-- it holds these bytes
abbrev pub Holds : Growing → List ℕ → Type 0
Holds file bytes = (file.size ≡ length bytes) × Holds256 file.hasher bytes

-- a file of the output, which wasn't there, was written, and what it holds has P
pub record IsMade (P : List ℕ → Type 0) (path : List ℕ) (old new : Option Files)
    (file : Growing) : Type 0 where
  pub bytes : List ℕ
  pub holds : Holds file bytes
  pub content : P bytes
  pub stands : new ≡ with_file path bytes old

-- a piece was written behind what a file held: of another file from a place on, at most so many
-- bytes
pub record AddsPiece (told : Option Files) (from : List ℕ) (at most : ℕ) (path : List ℕ)
    (old new : Option Files) (before now : Growing) : Type 0 where
  pub piece : List ℕ
  pub few : now.size < before.size + most + 1
  pub read : IfSome told (λ m. piece ≡ take most (drop at (bytes_of m from)))
  pub holds : (bytes : List ℕ) → Holds before bytes → Holds now (bytes ++ piece)
  pub written : (bytes : List ℕ) (empty : Option Files) → Holds before bytes
      → old ≡ with_file path bytes empty → new ≡ with_file path (bytes ++ piece) empty

-- the same of a source's pages from a number on, at most so many
pub record AddsPages (told : Option (List Files)) (source : SegmentSource) (number most : ℕ)
    (path : List ℕ) (old new : Option Files) (before now : Growing) : Type 0 where
  pub piece : List ℕ
  pub few : now.size < before.size + most * 8192 + 1
  pub read : OfChain told (λ chain. (folder name : List ℕ)
      → IsSourceAt chain folder name (Some source)
      → IfSome (chain_pages chain folder name) (λ pages.
      piece ≡ pages_bytes (take most (drop number pages))))
  pub holds : (bytes : List ℕ) → Holds before bytes → Holds now (bytes ++ piece)
  pub written : (bytes : List ℕ) (empty : Option Files) → Holds before bytes
      → old ≡ with_file path bytes empty → new ≡ with_file path (bytes ++ piece) empty

-- ---- files, one after the other

-- a file was put into the output, which didn't have it, and listed; what it holds has P
pub record PutsFile (P : List ℕ → Type 0) (to modified : List ℕ) (old new : Option Files)
    (before rows : List FileRow) : Type 0 where
  pub bytes : List ℕ
  pub fits : length bytes < 2 ^ 64
  pub content : P bytes
  pub stands : new ≡ with_file to bytes old
  pub listed : rows ≡ before ++ (row_of modified (to, bytes) ∷ [])

-- which bytes may stand for a file
abbrev pub Content : Type 1
Content = Target → List ℕ → Type 0

-- files stand for others, in their order
abbrev pub AreFilesFor : Content → List Target → List File → Type 0
AreFilesFor content [] files = files ≡ []
AreFilesFor content (target ∷ targets) files =
    (bytes : List ℕ) × (more : List File) × (files ≡ (target.to, bytes) ∷ more)
    × content target bytes × AreFilesFor content targets more

-- they are all that stands in the output, and are listed
pub record PutsFiles (content : Content) (targets : List Target) (modified : List ℕ)
    (now : Option Files) (rows : List FileRow) : Type 0 where
  pub files : List File
  pub stand_for : AreFilesFor content targets files
  pub stand : IfSome now (λ m. m ≡ with_files empty files)
  pub listed : rows ≡ map (row_of modified) files
  pub fit : AllByRecursion (λ f. length f.1 < 2 ^ 64) files

-- ---- the manifest

-- a text is that of a manifest with other rows, in order of their paths
pub record Relists (m : Listing) (rows : List FileRow) (text : List ℕ) : Type 0 where
  pub system : ℕ
  pub told : m.system ≡ Some system
  pub lists : ListsRows system rows (record { 0 = m.start }) (record { 0 = m.end }) text
