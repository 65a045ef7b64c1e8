-- The files that an area keeps open, and what a contract sees of the area.
use Rattle.std.specs.Prelude.{◌≡◌, ℕ, true, List, Option, IfSome}
use Rattle.std.specs.List.{All}
use Rattle.vault_os.specs.Paths.{leads_below, path_in}
use Rattle.vault_os.specs.declared.open_files.OpenFile.{OpenFile}
use Rattle.vault_os.specs.declared.open_files.OpenFiles.{OpenFiles}

module _ {F : Type 0} (is_at : F → List ℕ → Type 0) (folder : List ℕ) where
  -- an open file is the one of its name, which leads below the folder
  abbrev pub IsOpenAt : OpenFile F → Type 0
  IsOpenAt file =
      is_at file.file (path_in folder file.name.items) × (leads_below file.name.items ≡ true)

  -- each file that is kept open is the one of its name
  abbrev pub AreOpenAt : OpenFiles F → Type 0
  AreOpenAt open_files = All IsOpenAt open_files.read.items × IfSome open_files.written IsOpenAt

-- an area over a system: the system, the path of the folder, and the count of its faults
pub record Folder (S : Type 0) : Type 0 where
  pub system : S
  pub path : List ℕ
  pub faults : ℕ
  pub said : Option (List ℕ)
