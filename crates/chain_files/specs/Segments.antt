-- The files that the directory of a backup has, and those that a chain of such directories stands
-- for (PostgreSQL manual, pg_combinebackup).
use Rattle.std.specs.Prelude.{◌≡◌, ℕ, true, false, List, map, length, reverse, Option, Some, None}
use Rattle.std.specs.List.{AllByRecursion}
use Rattle.std.specs.Option.{option_map}
use Rattle.std.specs.FinMap.{get}
use Rattle.lsn_core.specs.Files.{Files}
use Rattle.lsn_core.specs.Names.{fork_path_bytes}
use Rattle.lsn_core.specs.Store.{ForkPages}
use Rattle.lsn_core.specs.declared.ids.ForkId.{ForkId}
use Rattle.incr_file.specs.Form.{Form, form_in, pages_in_chain, whole_pages}
use Rattle.incr_file.specs.Head.{IsHead}
use Rattle.incr_file.specs.Reading.{head_in, HasFront}
use Rattle.chain_files.specs.Paths.{file_path, fork_folder, fork_name, IsRelationFile}

-- for each segment of each fork the pages of the file that stands for it, where there is one
abbrev pub Segments : Type 0
Segments = ForkId → ℕ → Option ForkPages

-- those of the plain files of a directory
abbrev pub plain_segments : Files → Segments
plain_segments files fork seg = option_map whole_pages (get files (fork_path_bytes fork seg false))

-- ---- chains

-- the form in which a directory has the file of a folder and a plain name
abbrev pub form_at : List ℕ → List ℕ → Files → Form
form_at folder name files =
    form_in (get files (file_path folder name true)) (get files (file_path folder name false))

-- its forms in a chain of directories, the newest one first; the chain has its oldest member first
abbrev pub forms_at : List Files → List ℕ → List ℕ → List Form
forms_at chain folder name = map (form_at folder name) (reverse chain)

-- the pages of the file that a chain is combined to
abbrev pub chain_pages : List Files → List ℕ → List ℕ → Option ForkPages
chain_pages chain folder name = pages_in_chain (forms_at chain folder name)

-- the same of segment files of forks
abbrev pub form_of : ForkId → ℕ → Files → Form
form_of fork seg = form_at (fork_folder fork) (fork_name fork seg)

abbrev pub forms_of : List Files → ForkId → ℕ → List Form
forms_of chain fork seg = map (form_of fork seg) (reverse chain)

abbrev pub chain_segments : List Files → Segments
chain_segments chain fork seg = pages_in_chain (forms_of chain fork seg)

-- ---- directories whose incremental files are of their grammar

-- bytes begin as an incremental file of this size does: its head is of the grammar, and gives the
-- size
pub record IsIncrFile (bytes : List ℕ) (size : ℕ) : Type 0 where
  pub front : HasFront bytes size
  pub head : IsHead (head_in bytes)

-- each of them is one by its head, and isn't there in the plain form too
pub record HasForms (files : Files) : Type 0 where
  pub incremental : (folder name bytes : List ℕ) → IsRelationFile folder name
      → get files (file_path folder name true) ≡ Some bytes → IsIncrFile bytes (length bytes)
  pub alone : (folder name bytes : List ℕ) → IsRelationFile folder name
      → get files (file_path folder name true) ≡ Some bytes
      → get files (file_path folder name false) ≡ None

-- so it is in each directory of a chain
abbrev pub AllHaveForms : List Files → Type 0
AllHaveForms chain = AllByRecursion HasForms chain
