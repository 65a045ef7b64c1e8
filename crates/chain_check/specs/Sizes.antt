-- What is known of the sizes of listed files.
use Rattle.std.specs.Prelude.{◌≡◌, ℕ, List, [], length, take, drop, Option, Some, None, Err}
use Rattle.std.specs.List.{AllByRecursion}
use Rattle.std.specs.FinMap.{get}
use Rattle.lsn_core.specs.Files.{Files}
use Rattle.manifest.specs.declared.listing.FileRow.{FileRow}
use Rattle.chain_check.specs.Refusals.{row_fault, rows_fault, rows_checked}
use Rattle.chain_check.specs.Inside.{Answers}
use Rattle.chain_check.specs.declared.fault.ChainFault.{ChainFault}
use Rattle.chain_check.specs.declared.fault.ChainFault.TheVariants.{FileMissing, FileSize}

-- the file of a row is there, and has the row's size
pub record IsSized (files : Files) (row : FileRow) : Type 0 where
  pub bytes : List ℕ
  pub there : get files row.path ≡ Some bytes
  pub size : length bytes ≡ row.size

-- what is wrong with the size of a row's file, if anything
abbrev pub SizeAnswer : Files → FileRow → Option ChainFault → Type 0
SizeAnswer files row None = IsSized files row
SizeAnswer files row (Some (FileMissing path)) = row_fault files row ≡ Some (FileMissing path)
SizeAnswer files row (Some (FileSize path have listed)) =
    row_fault files row ≡ Some (FileSize path have listed)
SizeAnswer files row (Some fault) = ⊥

-- the first of some rows has this fault, or there is no row
abbrev pub FirstAnswer : Files → List FileRow → Option ChainFault → Type 0
FirstAnswer files rows None = rows ≡ []
FirstAnswer files rows (Some fault) =
    Answers (rows_fault files rows) (Err fault) × (rows_checked files rows ≡ 0)

-- so many rows have files of their sizes, and the next one has this fault, if there is one
pub record SizesAnswer (files : Files) (rows : List FileRow) (sized : ℕ) (fault : Option ChainFault)
    : Type 0 where
  pub before : AllByRecursion (IsSized files) (take sized rows)
  pub next : FirstAnswer files (drop sized rows) fault
