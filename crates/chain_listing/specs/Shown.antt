-- What a folder shows: the backup that its manifest and its label tell of, or its first fault.
use Rattle.std.specs.Prelude.{◌≡◌, ◌≢◌, ℕ, true, false, not, ◌==◌, List, ◌∷◌, ◌++◌, Option, Some, None, Result, Ok, Err}
use Rattle.std.specs.List.{find}
use Rattle.std.specs.FinMap.{get}
use Rattle.lsn_core.specs.Files.{Files}
use Rattle.vault.specs.Area.{bytes_of}
use Rattle.backup_files.specs.Directory.{manifest_name, label_name}
use Rattle.backup_label.specs.declared.label.Label.{Label}
use Rattle.manifest.specs.Listing.{Listing}
use Rattle.manifest.specs.Reading.{ReadAnswers}
use Rattle.chain_check.specs.Chain.{timelines_of}
use Rattle.chain_check.specs.Directory.{IsLabelFrom}
use Rattle.chain_check.specs.Refusals.{RefusesLine}
use Rattle.chain_listing.specs.Words.{is_name}
use Rattle.chain_listing.specs.Backups.{backup_of}
use Rattle.chain_listing.specs.declared.backup.Backup.{Backup}
use Rattle.chain_listing.specs.declared.shown.FolderFault.{FolderFault}
use Rattle.chain_listing.specs.declared.shown.FolderFault.TheVariants.{Name, NoManifest, Manifest, Label as LabelLine, Version, Timeline, NoMemory}

-- ---- the two texts

-- a text is a manifest's, where there is one
abbrev pub IsManifest : Option (List ℕ) → Listing → Type 0
IsManifest text m = (bytes : List ℕ) × (text ≡ Some bytes) × ReadAnswers bytes (Ok m)

-- the first timeline that isn't 1, of those that a label tells
abbrev pub other_timeline : Label → Option ℕ
other_timeline label = find (λ t. not (t == 1)) (timelines_of label)

-- the texts are those of a manifest and of its label
abbrev pub AreTexts : Option (List ℕ) → List ℕ → Listing → Label → Type 0
AreTexts manifest text m label = IsManifest manifest m × IsLabelFrom m.start text label

-- the version is 2, and the first other timeline than 1 is this
abbrev pub AreHeads : Option (List ℕ) → List ℕ → Listing → Label → Option ℕ → Type 0
AreHeads manifest text m label other =
    AreTexts manifest text m label × (m.version ≡ 2) × (other_timeline label ≡ other)

-- the version is this one, and not 2
abbrev pub AreOld : Option (List ℕ) → List ℕ → ℕ → Type 0
AreOld manifest text v = (m : Listing) × (label : Label) × AreTexts manifest text m label
    × (m.version ≡ v) × (v ≢ 2)

-- what the texts of a folder of this name tell: the backup, or the first fault
abbrev pub TextsTell :
    List ℕ → Option (List ℕ) → List ℕ → Result Backup FolderFault → Type 0
TextsTell folder manifest text (Ok backup) = (m : Listing) × (label : Label)
    × AreHeads manifest text m label None × (backup ≡ backup_of folder m label)
TextsTell folder manifest text (Err Name) = ⊥
TextsTell folder manifest text (Err NoManifest) = manifest ≡ None
TextsTell folder manifest text (Err (Manifest why)) =
    (bytes : List ℕ) × (manifest ≡ Some bytes) × ReadAnswers bytes (Err why)
TextsTell folder manifest text (Err (LabelLine line)) =
    (m : Listing) × IsManifest manifest m × RefusesLine m.start text line
TextsTell folder manifest text (Err (Version v)) = AreOld manifest text v
TextsTell folder manifest text (Err (Timeline v)) =
    (m : Listing) × (label : Label) × AreHeads manifest text m label (Some v)
TextsTell folder manifest text (Err NoMemory) = ⊥

-- ---- the folder

-- the paths of a folder's manifest and label
abbrev pub manifest_path : List ℕ → List ℕ
manifest_path folder = folder ++ (47 ∷ manifest_name)

abbrev pub label_path : List ℕ → List ℕ
label_path folder = folder ++ (47 ∷ label_name)

-- what a folder shows: that its name is none of a backup, or else what its texts tell
abbrev pub Shows : Files → List ℕ → Result Backup FolderFault → Type 0
Shows files folder (Err Name) = is_name folder ≡ false
Shows files folder answer = (is_name folder ≡ true)
    × TextsTell folder (get files (manifest_path folder))
    (bytes_of files (label_path folder)) answer

-- ---- what each step answers, for the crate's own contracts

abbrev pub ManifestAnswer : Option (List ℕ) → Result Listing FolderFault → Type 0
ManifestAnswer text (Ok m) = IsManifest text m
ManifestAnswer text (Err NoManifest) = text ≡ None
ManifestAnswer text (Err (Manifest why)) =
    (bytes : List ℕ) × (text ≡ Some bytes) × ReadAnswers bytes (Err why)
ManifestAnswer text (Err NoMemory) = Unit {0}
ManifestAnswer text (Err why) = ⊥

abbrev pub LabelAnswer : ℕ → List ℕ → Result Label FolderFault → Type 0
LabelAnswer start text (Ok label) = IsLabelFrom start text label
LabelAnswer start text (Err (LabelLine line)) = RefusesLine start text line
LabelAnswer start text (Err NoMemory) = Unit {0}
LabelAnswer start text (Err why) = ⊥

abbrev pub HeadsAnswer :
    Option (List ℕ) → List ℕ → Result (Listing × Label) FolderFault → Type 0
HeadsAnswer manifest text (Ok heads) = AreHeads manifest text heads.0 heads.1 None
HeadsAnswer manifest text (Err NoManifest) = manifest ≡ None
HeadsAnswer manifest text (Err (Manifest why)) =
    (bytes : List ℕ) × (manifest ≡ Some bytes) × ReadAnswers bytes (Err why)
HeadsAnswer manifest text (Err (LabelLine line)) =
    (m : Listing) × IsManifest manifest m × RefusesLine m.start text line
HeadsAnswer manifest text (Err (Version v)) = AreOld manifest text v
HeadsAnswer manifest text (Err (Timeline v)) =
    (m : Listing) × (label : Label) × AreHeads manifest text m label (Some v)
HeadsAnswer manifest text (Err NoMemory) = Unit {0}
HeadsAnswer manifest text (Err Name) = ⊥

-- the same of the backup, where memory may run out
abbrev pub TextsAnswer :
    List ℕ → Option (List ℕ) → List ℕ → Result Backup FolderFault → Type 0
TextsAnswer folder manifest text (Err NoMemory) = Unit {0}
TextsAnswer folder manifest text answer = TextsTell folder manifest text answer
