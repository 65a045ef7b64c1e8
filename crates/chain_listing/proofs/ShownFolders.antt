-- Folders one by one, and what each of them shows.
use Rattle.std.proofs.Common.{◌≡◌, ◌∙◌, ap, subst, ℕ, true, List, [], ◌∷◌, ◌++◌, map, Option, Result, Ok, Err, refl}
use Rattle.std.specs.Global.{Vec}
use Rattle.std.specs.Option.{option_map}
use Rattle.std.specs.FinMap.{get}
use Rattle.lsn_core.specs.Files.{Files}
use Rattle.vault.specs.Area.{bytes_of}
use Rattle.chain_listing.specs.Words.{is_name}
use Rattle.chain_listing.specs.Shown.{Shows, TextsTell, manifest_path, label_path}
use Rattle.chain_listing.specs.Folders.{IsFile, TellsIn}
use Rattle.chain_listing.specs.declared.backup.Backup.{Backup}
use Rattle.chain_listing.specs.declared.shown.FolderFault.{FolderFault}
use Rattle.chain_listing.specs.declared.shown.FolderFault.TheVariants.{Name, NoManifest, Manifest, Label, Version, Timeline, NoMemory}
use Rattle.chain_listing.specs.declared.reading.Folder.{Folder}

pub names_pushed : (folders : List Folder) (folder : Folder) (rest : List (List ℕ)) → map (λ f. f.name) (folders ++ folder ∷ []) ++ rest ≡ map (λ f. f.name) folders ++ (folder.name ∷ rest)
names_pushed [] folder rest = refl
names_pushed (f ∷ folders) folder rest = ap (λ (l : List (List ℕ)). f.name ∷ l) (names_pushed folders folder rest)

-- what was read of two files is what they hold
pub told_in : (m : Files) (folder p q : List ℕ) (found : Option (Vec ℕ)) (text : List ℕ) (seen : Option (List ℕ)) (shows : Result Backup FolderFault)
    → p ≡ manifest_path folder → q ≡ label_path folder → seen ≡ option_map (λ v. v.items) found
    → IsFile m p found → text ≡ bytes_of m q → TextsTell folder seen text shows → TellsIn m folder shows
told_in m folder p q found text seen shows ep eq same is held told =
    let manifest : seen ≡ get m (manifest_path folder) = same ∙ (is ∙ ap (λ (x : List ℕ). get m x) ep) in
    let label : text ≡ bytes_of m (label_path folder) = held ∙ ap (λ (x : List ℕ). bytes_of m x) eq in
    subst (λ (x : Option (List ℕ)). TextsTell folder x (bytes_of m (label_path folder)) shows) manifest (subst (λ (x : List ℕ). TextsTell folder seen x shows) label told)

-- a folder whose name is a backup's shows what its texts tell
pub shows_told : (m : Files) (folder : List ℕ) (shows : Result Backup FolderFault) → is_name folder ≡ true → TellsIn m folder shows → Shows m folder shows
shows_told m folder (Ok backup) named told = (named, told)
shows_told m folder (Err Name) named told = absurd told
shows_told m folder (Err NoManifest) named told = (named, told)
shows_told m folder (Err (Manifest why)) named told = (named, told)
shows_told m folder (Err (Label line)) named told = (named, told)
shows_told m folder (Err (Version v)) named told = (named, told)
shows_told m folder (Err (Timeline v)) named told = (named, told)
shows_told m folder (Err NoMemory) named told = (named, told)
