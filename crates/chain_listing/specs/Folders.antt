-- The folders of an area, and what each of them shows.
use Rattle.std.specs.Prelude.{◌≡◌, ℕ, Bool, true, not, List, [], ◌∷◌, ◌++◌, ◌-◌, length, slice_get, All, map, Option, Some, None, Result, if◌then◌else◌}
use Rattle.std.specs.Str.{bytes_eq}
use Rattle.std.specs.Option.{option_map}
use Rattle.std.specs.Global.{Vec}
use Rattle.std.specs.FinMap.{get, keys}
use Rattle.lsn_core.specs.byte_words.Cuts.{cut_at}
use Rattle.lsn_core.specs.Files.{Files}
use Rattle.vault.specs.Area.{bytes_of}
use Rattle.chain_listing.specs.Shown.{Shows, TextsTell, manifest_path, label_path}
use Rattle.chain_listing.specs.declared.backup.Backup.{Backup}
use Rattle.chain_listing.specs.declared.shown.FolderFault.{FolderFault}
use Rattle.chain_listing.specs.declared.reading.Folder.{Folder}

abbrev pub Names : Type 0
Names = List (List ℕ)

-- a folder isn't the last of these
abbrev pub differs : Option (List ℕ) → List ℕ → Bool
differs None folder = true
differs (Some last) folder = not (bytes_eq last folder)

abbrev pub is_other : Names → List ℕ → Bool
is_other folders folder = differs (slice_get folders (length folders - 1)) folder

-- these folders, and behind them that of a file, where it has one that isn't the last of them
abbrev pub with_cut : Names → Option (List ℕ × List ℕ) → Names
with_cut folders None = folders
with_cut folders (Some cut) =
    if is_other folders cut.0 then folders ++ (cut.0 ∷ []) else folders

abbrev pub with_folder : Names → List ℕ → Names
with_folder folders name = with_cut folders (cut_at 47 name)

-- these folders, and behind them those of files of these names
abbrev pub folders_in : Names → Names → Names
folders_in folders [] = folders
folders_in folders (name ∷ names) = folders_in (with_folder folders name) names

-- the folders of an area: in the byte order of names, files of one folder stand together
abbrev pub folders_of : Files → Names
folders_of files = folders_in [] (keys files)

-- an entry of a listing is what its folder shows
abbrev pub EntryShows : Files → Folder → Type 0
EntryShows files folder = Shows files folder.name folder.shows

-- these are the folders of an area, with what each shows
pub record AreShown (files : Files) (folders : List Folder) : Type 0 where
  pub names : map (λ folder. folder.name) folders ≡ folders_of files
  pub shows : All (EntryShows files) folders

-- ---- for the crate's own contracts

abbrev pub IsFile : Files → List ℕ → Option (Vec ℕ) → Type 0
IsFile files path found = option_map (λ bytes. bytes.items) found ≡ get files path

abbrev pub TellsIn : Files → List ℕ → Result Backup FolderFault → Type 0
TellsIn files folder shows =
    TextsTell folder (get files (manifest_path folder)) (bytes_of files (label_path folder)) shows
