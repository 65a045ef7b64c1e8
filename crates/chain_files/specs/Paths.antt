-- The paths of incremental files (PostgreSQL manual, pg_combinebackup).
use Rattle.std.specs.Prelude.{◌≡◌, ℕ, Bool, true, false, List, [], ◌∷◌, ◌++◌, not, ◌==◌, ◌||◌, codes, nat_eq}
use Rattle.std.specs.Fmt.{decimal}
use Rattle.std.specs.Str.{bytes_eq}
use Rattle.std.specs.List.{list_any, starts_with}
use Rattle.lsn_core.specs.Names.{file_prefix, plain_name, fork_path_bytes, IsNamed}
use Rattle.lsn_core.specs.declared.ids.ForkId.{ForkId}

-- the path of a file of a folder, by its plain name: in the plain form or the incremental one
abbrev pub file_path : List ℕ → List ℕ → Bool → List ℕ
file_path folder name incr = folder ++ (47 ∷ (file_prefix incr ++ name))

-- ---- which files may be incremental

-- those of the shared catalogs, and all below the folders of databases and of tablespaces
abbrev pub is_relation_folder : List ℕ → Bool
is_relation_folder folder =
    bytes_eq folder (codes "global")
    || (starts_with nat_eq folder (codes "base/") || starts_with nat_eq folder (codes "pg_tblspc/"))

abbrev pub is_slash : ℕ → Bool
is_slash b = b == 47

-- no file has such a name, or it is that of an incremental file itself
abbrev pub is_odd_name : List ℕ → Bool
is_odd_name name =
    bytes_eq name []
    || (bytes_eq name (codes ".")
    || (bytes_eq name (codes "..") || starts_with nat_eq name (file_prefix true)))

-- a folder and a plain name of files that may be incremental
pub record IsRelationFile (folder name : List ℕ) : Type 0 where
  pub relations : is_relation_folder folder ≡ true
  pub flat : list_any is_slash name ≡ false
  pub even : is_odd_name name ≡ false

-- a path is that of an incremental file
pub record IsIncrementalPath (path : List ℕ) : Type 0 where
  pub folder : List ℕ
  pub name : List ℕ
  pub placed : IsRelationFile folder name
  pub spelled : path ≡ file_path folder name true

-- ---- the segment files of forks: theirs are `fork_path_bytes`

abbrev pub fork_folder : ForkId → List ℕ
fork_folder fork = codes "base/" ++ decimal fork.rel.db

abbrev pub fork_name : ForkId → ℕ → List ℕ
fork_name fork seg = plain_name fork.rel.rel fork.kind seg

-- a path is that of a segment of a fork, in the plain form
pub record IsForkFile (path : List ℕ) : Type 0 where
  pub fork : ForkId
  pub seg : ℕ
  pub named : IsNamed fork seg
  pub spelled : path ≡ fork_path_bytes fork seg false
