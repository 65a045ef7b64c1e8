-- What is listed of an area: a function of what each of its folders shows.
use Rattle.std.specs.Prelude.{◌≡◌, ℕ, List, [], ◌∷◌, ◌++◌, map, Result, Ok, Err}
use Rattle.lsn_core.specs.Files.{Files}
use Rattle.chain_listing.specs.Words.{plain_byte}
use Rattle.chain_listing.specs.Order.{with_backup}
use Rattle.chain_listing.specs.Folders.{AreShown}
use Rattle.chain_listing.specs.declared.backup.Backup.{Backup}
use Rattle.chain_listing.specs.declared.shown.FolderFault.{FolderFault}
use Rattle.chain_listing.specs.declared.reading.Folder.{Folder}
use Rattle.chain_listing.specs.declared.listing.Damaged.{Damaged}

-- the backups in their order, and the folders that are none
pub record View : Type 0 where
  pub backups : List Backup
  pub damaged : List Damaged

abbrev pub nothing : View
nothing = record { backups = []; damaged = [] }

-- with a folder that shows this
abbrev pub with_answer : View → List ℕ → Result Backup FolderFault → View
with_answer view name (Ok backup) =
    record { backups = with_backup view.backups backup; damaged = view.damaged }
with_answer view name (Err why) = record {
  backups = view.backups;
  damaged = view.damaged ++ (record { name = map plain_byte name; fault = why } ∷ []);
}

abbrev pub with_shown : View → Folder → View
with_shown view folder = with_answer view folder.name folder.shows

-- with these folders
abbrev pub listing_in : View → List Folder → View
listing_in view [] = view
listing_in view (folder ∷ folders) = listing_in (with_shown view folder) folders

-- this is listed of an area with these files
abbrev pub IsListing : Files → View → Type 0
IsListing files view =
    (folders : List Folder) × AreShown files folders × (view ≡ listing_in nothing folders)
