-- What the crate's private functions answer: no public contract cites these.
use Rattle.std.specs.Prelude.{◌≡◌, ◌≢◌, ℕ, List, Option, Some, None, Result, Ok, Err}
use Rattle.std.specs.Global.{Vec}
use Rattle.std.specs.List.{AllByRecursion}
use Rattle.std.specs.Option.{option_map}
use Rattle.std.specs.FinMap.{get}
use Rattle.lsn_core.specs.Files.{Files}
use Rattle.vault.specs.Area.{bytes_of}
use Rattle.backup_label.specs.declared.label.Label.{Label}
use Rattle.manifest.specs.Listing.{Listing}
use Rattle.manifest.specs.Reading.{ReadAnswers}
use Rattle.manifest.specs.declared.fault.ManifestFault.TheVariants as manifest
use Rattle.manifest.specs.declared.listing.FileRow.{FileRow}
use Rattle.incr_file.specs.Reading.{HeadAnswers}
use Rattle.incr_file.specs.declared.decode.HeadFault.TheVariants as head
use Rattle.chain_files.specs.Segments.{IsIncrFile}
use Rattle.chain_check.specs.Chain.{IsHeld, IsFirstUnheld, IsLinked, AreLinked, RefusesLater, IsFirstUnlinked}
use Rattle.backup_files.specs.Directory.{manifest_name, label_name}
use Rattle.chain_check.specs.Directory.{HasManifest, HasForm, IsLabelFrom}
use Rattle.chain_check.specs.Refusals.{fault_of, rows_fault, rows_checked, others_fault, listing_fault, RefusesManifest, RefusesLine, HasFormFault, IsFirstForm, HasRefusal}
use Rattle.chain_check.specs.declared.member.Member.{Member}
use Rattle.chain_check.specs.declared.chain.ChainRefusal.{ChainRefusal}
use Rattle.chain_check.specs.declared.link.LinkFault.{LinkFault}
use Rattle.chain_check.specs.declared.link.LinkFault.TheVariants as link
use Rattle.chain_check.specs.declared.fault.FileWhy.{FileWhy}
use Rattle.chain_check.specs.declared.fault.FileWhy.TheVariants.{Both, Length, Magic, Range, Order, PageLength}
use Rattle.chain_check.specs.declared.refusal.Refusal.{Refusal}
use Rattle.chain_check.specs.declared.fault.ChainFault.{ChainFault}
use Rattle.chain_check.specs.declared.fault.ChainFault.TheVariants.{NoManifest, ManifestDamaged, ManifestVersion, TimelineDiffers, FileMissing, FileSize, FileSum, FileExtra, LabelDamaged, FileDamaged, Failed, NoMemory}

-- the path of a row
abbrev pub path_of : FileRow → List ℕ
path_of row = row.path

-- no device has failed
abbrev pub NeverFails : {T : Type 0} → Result T ChainFault → Type 0
NeverFails result = result ≡ Err Failed → ⊥

-- the fault of a file that there is, or none
abbrev pub Answers : Option ChainFault → Result (Unit {0}) ChainFault → Type 0
Answers found (Ok done) = found ≡ None
Answers found (Err (FileMissing path)) = found ≡ Some (FileMissing path)
Answers found (Err (FileSize path have listed)) = found ≡ Some (FileSize path have listed)
Answers found (Err (FileSum path)) = found ≡ Some (FileSum path)
Answers found (Err (FileExtra path)) = found ≡ Some (FileExtra path)
Answers found (Err Failed) = Unit {0}
Answers found (Err NoMemory) = Unit {0}
Answers found (Err fault) = ⊥

-- how many rows stand before the one with this fault
abbrev pub CountsRows : Files → List FileRow → ChainFault → ℕ → Type 0
CountsRows files rows Failed checked = Unit {0}
CountsRows files rows NoMemory checked = Unit {0}
CountsRows files rows fault checked = checked ≡ rows_checked files rows

-- the first fault of the rows' files, and how many stand before it
abbrev pub RowsAnswer : Files → List FileRow → Result (Unit {0}) Refusal → Type 0
RowsAnswer files rows (Ok done) = rows_fault files rows ≡ None
RowsAnswer files rows (Err refusal) =
    Answers (rows_fault files rows) (Err refusal.fault)
    × CountsRows files rows refusal.fault refusal.checked

-- what a text is read as, or refused for
abbrev pub TextAnswer : List ℕ → Result Listing ChainFault → Type 0
TextAnswer bytes (Ok m) = ReadAnswers bytes (Ok m)
TextAnswer bytes (Err (ManifestDamaged why)) = ReadAnswers bytes (Err (fault_of why))
TextAnswer bytes (Err (ManifestVersion v)) = ReadAnswers bytes (Err (manifest.Version v))
TextAnswer bytes (Err (TimelineDiffers v)) = ReadAnswers bytes (Err (manifest.TimelineIs v))
TextAnswer bytes (Err NoMemory) = Unit {0}
TextAnswer bytes (Err fault) = ⊥

-- the bytes of a file, where it is there
abbrev pub IsFile : Files → List ℕ → Option (Vec ℕ) → Type 0
IsFile files name found = option_map (λ v. v.items) found ≡ get files name

-- the manifest, or why there is none
abbrev pub ManifestAnswer : Files → Result Listing ChainFault → Type 0
ManifestAnswer files (Ok m) = HasManifest files m
ManifestAnswer files (Err NoManifest) = get files manifest_name ≡ None
ManifestAnswer files (Err (ManifestDamaged why)) = RefusesManifest files (fault_of why)
ManifestAnswer files (Err (ManifestVersion v)) = RefusesManifest files (manifest.Version v)
ManifestAnswer files (Err (TimelineDiffers v)) = RefusesManifest files (manifest.TimelineIs v)
ManifestAnswer files (Err Failed) = Unit {0}
ManifestAnswer files (Err NoMemory) = Unit {0}
ManifestAnswer files (Err fault) = ⊥

-- the label of a text that tells this start, or which line is refused
abbrev pub LabelAnswer : ℕ → List ℕ → Result Label ChainFault → Type 0
LabelAnswer start text (Ok label) = IsLabelFrom start text label
LabelAnswer start text (Err (LabelDamaged line)) = RefusesLine start text line
LabelAnswer start text (Err Failed) = Unit {0}
LabelAnswer start text (Err NoMemory) = Unit {0}
LabelAnswer start text (Err fault) = ⊥

-- whether each row's file has its form
abbrev pub FormsAnswer : Files → List FileRow → Result (Unit {0}) ChainFault → Type 0
FormsAnswer files rows (Ok done) = AllByRecursion (HasForm files) rows
FormsAnswer files rows (Err (FileDamaged path why)) = IsFirstForm files rows path why
FormsAnswer files rows (Err Failed) = Unit {0}
FormsAnswer files rows (Err NoMemory) = Unit {0}
FormsAnswer files rows (Err fault) = ⊥

-- the rows that are left, where each before them has its form, decide of all
pub record FormsLeft (files : Files) (rows left : List FileRow) : Type 0 where
  pub first : (path : List ℕ) (why : FileWhy)
      → IsFirstForm files left path why → IsFirstForm files rows path why
  pub all : AllByRecursion (HasForm files) left → AllByRecursion (HasForm files) rows

-- what is wrong with the head of an incremental file of this size, if anything
abbrev pub HeadWhy : List ℕ → ℕ → Option FileWhy → Type 0
HeadWhy bytes size None = IsIncrFile bytes size
HeadWhy bytes size (Some Both) = ⊥
HeadWhy bytes size (Some Length) = HeadAnswers bytes size (Err head.Length)
HeadWhy bytes size (Some Magic) = HeadAnswers bytes size (Err head.Magic)
HeadWhy bytes size (Some Range) = HeadAnswers bytes size (Err head.Range)
HeadWhy bytes size (Some Order) = HeadAnswers bytes size (Err head.Order)
HeadWhy bytes size (Some PageLength) = ⊥

-- what is wrong with the form of a row's file, if anything
abbrev pub FormWhy : Files → FileRow → Option FileWhy → Type 0
FormWhy files row None = HasForm files row
FormWhy files row (Some why) = HasFormFault files row why

-- what is judged behind the listed files: the label where nothing is wrong, or the first fault
abbrev pub BehindAnswer : Files → Listing → Result Label ChainFault → Type 0
BehindAnswer files m (Ok label) =
    (others_fault files m.files ≡ None)
    × IsLabelFrom m.start (bytes_of files label_name) label
    × AllByRecursion (HasForm files) m.files
BehindAnswer files m (Err (LabelDamaged line)) =
    (others_fault files m.files ≡ None) × RefusesLine m.start (bytes_of files label_name) line
BehindAnswer files m (Err (FileDamaged path why)) =
    (label : Label) × (others_fault files m.files ≡ None)
    × IsLabelFrom m.start (bytes_of files label_name) label
    × IsFirstForm files m.files path why
BehindAnswer files m (Err fault) = Answers (others_fault files m.files) (Err fault)

-- what is judged behind the manifest: the label where nothing is wrong, or why it is refused
abbrev pub ListedAnswer : Files → Listing → Result Label Refusal → Type 0
ListedAnswer files m (Ok label) =
    (listing_fault files m.files ≡ None)
    × IsLabelFrom m.start (bytes_of files label_name) label
    × AllByRecursion (HasForm files) m.files
ListedAnswer files m (Err refusal) = HasManifest files m → HasRefusal files refusal

-- ---- chains

-- rows whose files can be rebuilt from a backup, or the first one whose can't
abbrev pub HeldAnswer : List FileRow → List FileRow → Result (Unit {0}) LinkFault → Type 0
HeldAnswer held rows (Ok done) = AllByRecursion (λ row. IsHeld held row.path) rows
HeldAnswer held rows (Err (link.NoPriorFile path)) = IsFirstUnheld held rows path
HeldAnswer held rows (Err why) = why ≡ link.NoMemory

-- a later member that is linked to its predecessor, or what it is refused for
abbrev pub LaterAnswer : Member → Member → Result (Unit {0}) LinkFault → Type 0
LaterAnswer prior member (Ok done) = IsLinked prior member
LaterAnswer prior member (Err why) = why ≢ link.NoMemory → RefusesLater prior member why

-- later members, each linked to the one before, or the first that isn't
abbrev pub AllLaterAnswer : Member → List Member → Result (Unit {0}) ChainRefusal → Type 0
AllLaterAnswer first later (Ok done) = AreLinked first later
AllLaterAnswer first later (Err refusal) =
    refusal.why ≢ link.NoMemory → IsFirstUnlinked 1 first later refusal
