-- The names of an area's files as paths below its folder.
use Rattle.std.specs.Prelude.{◌≡◌, ℕ, ◌+◌, Bool, true, false, cond, not, ◌&&◌, ◌||◌, eqb, bytes_eq, List, [], ◌∷◌, ◌++◌, length, drop, Option, Some, None}
use Rattle.std.specs.List.{list_all, list_any, slice_split}
use Rattle.std.specs.Option.{option_map}
use Rattle.std.specs.FinMap.{entries, from_entries}
use Rattle.lsn_core.specs.Files.{Files}
pub use Rattle.system_calls.specs.Parts.{is_no_letter, is_name_part}

-- a name leads to one place below a folder: parts between slashes
unfoldable pub leads_below : List ℕ → Bool
leads_below name = list_all is_name_part (slice_split (λ b. eqb b 47) name)

-- the path of a name below a folder
abbrev pub path_in : List ℕ → List ℕ → List ℕ
path_in folder name = folder ++ (47 ∷ name)

-- the path of a name below a folder, where it leads to one
abbrev pub LeadsTo : List ℕ → List ℕ → Option (List ℕ) → Type 0
LeadsTo folder name None = leads_below name ≡ false
LeadsTo folder name (Some path) = (path ≡ path_in folder name) × (leads_below name ≡ true)

-- what stands behind a folder's path and a slash
abbrev pub name_below : List ℕ → List ℕ → List ℕ
name_below folder path = drop (length folder + 1) path

-- a path is that of a name below a folder
abbrev pub is_below : List ℕ → List ℕ → Bool
is_below folder path =
    bytes_eq path (path_in folder (name_below folder path)) && leads_below (name_below folder path)

-- of a list of files by their paths, those below a folder, by their names
abbrev pub entries_below : List ℕ → List (List ℕ × List ℕ) → List (List ℕ × List ℕ)
entries_below folder [] = []
entries_below folder (e ∷ es) =
    cond (is_below folder e.0)
    ((name_below folder e.0, e.1) ∷ entries_below folder es)
    (entries_below folder es)

-- the files below a folder, by their names
unfoldable pub files_below : List ℕ → Files → Files
files_below folder files = from_entries (entries_below folder (entries files))

-- the same, where the files are told
abbrev pub told_in : List ℕ → Option Files → Option Files
told_in folder files = option_map (files_below folder) files
