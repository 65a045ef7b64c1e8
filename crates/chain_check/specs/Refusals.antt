-- What a directory of a backup is refused for: the first fault, in the order in which the parts of
-- a directory are judged.
use Rattle.std.specs.Prelude.{◌≡◌, ◌≢◌, ◌⊎◌, ℕ, ◌%◌, true, false, List, [], ◌∷◌, length, not, ◌==◌, Option, Some, None, Result, Ok, Err, IfErr, if◌then◌else◌}
use Rattle.std.specs.List.{find, position_or_len}
use Rattle.std.specs.Option.{option_map, option_or, is_some}
use Rattle.std.specs.FinMap.{get, keys}
use Rattle.lsn_core.specs.Files.{Files}
use Rattle.lsn_core.specs.Causes.{Rose}
use Rattle.lsn_core.specs.declared.fault.AreaFault.{AreaFault}
use Rattle.lsn_core.specs.declared.fault.AreaFault.TheVariants as area
use Rattle.vault.specs.Area.{bytes_of}
use Rattle.backup_label.specs.Label.{IsLabel, IsLabelRefusedAt}
use Rattle.backup_label.specs.declared.label.Label.{Label}
use Rattle.incr_file.specs.Reading.{HeadAnswers}
use Rattle.incr_file.specs.declared.decode.HeadFault.{HeadFault}
use Rattle.incr_file.specs.declared.decode.HeadFault.TheVariants as head
use Rattle.chain_files.specs.Paths.{file_path, IsIncrementalPath, IsForkFile}
use Rattle.manifest.specs.Listing.{Listing}
use Rattle.manifest.specs.Reading.{ReadAnswers}
use Rattle.manifest.specs.declared.fault.ManifestFault.{ManifestFault}
use Rattle.manifest.specs.declared.fault.ManifestFault.TheVariants as manifest
use Rattle.manifest.specs.declared.listing.FileRow.{FileRow}
use Rattle.file_sums.specs.Sums.{has_sum}
use Rattle.backup_files.specs.Directory.{manifest_name, label_name}
use Rattle.chain_check.specs.Directory.{HasManifest, is_listed, may_stand, IsLabelFrom, HasForm, IsAsListed}
use Rattle.chain_check.specs.declared.member.Member.{Member}
use Rattle.chain_check.specs.declared.fault.ManifestWhy.{ManifestWhy}
use Rattle.chain_check.specs.declared.fault.ManifestWhy.TheVariants.{Lines, Sum, Json, Shape, SumKind}
use Rattle.chain_check.specs.declared.fault.FileWhy.{FileWhy}
use Rattle.chain_check.specs.declared.fault.FileWhy.TheVariants.{Both, Length, Magic, Range, Order, PageLength}
use Rattle.chain_check.specs.declared.refusal.Refusal.{Refusal}
use Rattle.chain_check.specs.declared.fault.ChainFault.{ChainFault}
use Rattle.chain_check.specs.declared.fault.ChainFault.TheVariants.{NoManifest, ManifestDamaged, ManifestVersion, TimelineDiffers, FileMissing, FileSize, FileSum, FileExtra, LabelDamaged, FileDamaged, Failed, NoMemory}

-- ---- the manifest

-- what the reader of a manifest refuses so
abbrev pub fault_of : ManifestWhy → ManifestFault
fault_of Lines = manifest.Lines
fault_of Sum = manifest.Sum
fault_of Json = manifest.Json
fault_of Shape = manifest.Shape
fault_of SumKind = manifest.SumKind

-- the directory's manifest is refused so
abbrev pub RefusesManifest : Files → ManifestFault → Type 0
RefusesManifest files fault =
    (bytes : List ℕ) × (get files manifest_name ≡ Some bytes) × ReadAnswers bytes (Err fault)

-- ---- the files that it lists

-- what is wrong with the file of a row: its size is judged before its sum
abbrev pub file_fault : FileRow → Option (List ℕ) → Option ChainFault
file_fault row None = Some (FileMissing row.path)
file_fault row (Some bytes) =
    if not (length bytes == row.size) then Some (FileSize row.path (length bytes) row.size)
    else if has_sum row bytes then None
    else Some (FileSum row.path)

abbrev pub row_fault : Files → FileRow → Option ChainFault
row_fault files row = file_fault row (get files row.path)

-- with the first of the rows, in their order, whose file isn't as listed
abbrev pub rows_fault : Files → List FileRow → Option ChainFault
rows_fault files [] = None
rows_fault files (row ∷ rows) = option_or (row_fault files row) (rows_fault files rows)

-- how many of the rows, in their order, stand before the first whose file isn't as listed; all of
-- them, where each is
abbrev pub rows_checked : Files → List FileRow → ℕ
rows_checked files rows = position_or_len (λ row. is_some (row_fault files row)) rows

-- a label that isn't listed is missing
abbrev pub label_row_fault : List FileRow → Option ChainFault
label_row_fault rows = if is_listed rows label_name then None else Some (FileMissing label_name)

-- the first file, in byte order, that may not stand beside those of the rows
abbrev pub extra_fault : Files → List FileRow → Option ChainFault
extra_fault files rows =
    option_map (λ name. FileExtra name) (find (λ name. not (may_stand rows name)) (keys files))

-- the first fault of the label's row and of the other files, and, before these, of the rows
abbrev pub others_fault : Files → List FileRow → Option ChainFault
others_fault files rows = option_or (label_row_fault rows) (extra_fault files rows)

abbrev pub listing_fault : Files → List FileRow → Option ChainFault
listing_fault files rows = option_or (rows_fault files rows) (others_fault files rows)

-- ---- the label

-- this line of the label is refused: the first outside the grammar, or, where none is, line 1,
-- which tells another start
abbrev pub RefusesLine : ℕ → List ℕ → ℕ → Type 0
RefusesLine start text line =
    IsLabelRefusedAt text line
    ⊎ ((label : Label) × IsLabel text label × (label.start.0 ≢ start) × (line ≡ 1))

-- ---- the forms of files

-- a path is that of an incremental file, which is there in the plain form too, or isn't
abbrev pub HasBoth : Files → List ℕ → Type 0
HasBoth files path =
    (f : IsIncrementalPath path) × (get files (file_path f.folder f.name false) ≢ None)

abbrev pub IsAlone : Files → List ℕ → Type 0
IsAlone files path =
    (f : IsIncrementalPath path) × (get files (file_path f.folder f.name false) ≡ None)

-- the file of a row is incremental, isn't there in the plain form, and has a head that is refused
-- so
abbrev pub HasHeadFault : Files → FileRow → HeadFault → Type 0
HasHeadFault files row fault =
    IsAlone files row.path × HeadAnswers (bytes_of files row.path) row.size (Err fault)

-- what is wrong with the form of a row's file
abbrev pub HasFormFault : Files → FileRow → FileWhy → Type 0
HasFormFault files row Both = HasBoth files row.path
HasFormFault files row Length = HasHeadFault files row head.Length
HasFormFault files row Magic = HasHeadFault files row head.Magic
HasFormFault files row Range = HasHeadFault files row head.Range
HasFormFault files row Order = HasHeadFault files row head.Order
HasFormFault files row PageLength = IsForkFile row.path × (row.size % 8192 ≢ 0)

-- the first row, in their order, of which something is
abbrev pub IsFirstForm : Files → List FileRow → List ℕ → FileWhy → Type 0
IsFirstForm files [] path why = ⊥
IsFirstForm files (row ∷ rows) path why =
    ((row.path ≡ path) × HasFormFault files row why)
    ⊎ (HasForm files row × IsFirstForm files rows path why)

-- ---- the whole

-- the directory's manifest is read, and among the files this is the first fault, or none
abbrev pub HasListingFault : Files → Listing → Option ChainFault → Type 0
HasListingFault files m fault =
    HasManifest files m × (listing_fault files m.files ≡ fault)

-- the files are as the manifest lists them, and the label is its label
abbrev pub HasLabel : Files → Listing → Label → Type 0
HasLabel files m label =
    HasListingFault files m None × IsLabelFrom m.start (bytes_of files label_name) label

-- the cause of each fault; a device that failed and want of memory have theirs elsewhere
abbrev pub RefusedFor : Files → ChainFault → Type 0
RefusedFor files NoManifest = get files manifest_name ≡ None
RefusedFor files (ManifestDamaged why) = RefusesManifest files (fault_of why)
RefusedFor files (ManifestVersion v) = RefusesManifest files (manifest.Version v)
RefusedFor files (TimelineDiffers v) = RefusesManifest files (manifest.TimelineIs v)
RefusedFor files (FileMissing path) =
    (m : Listing) × HasListingFault files m (Some (FileMissing path))
RefusedFor files (FileSize path have listed) =
    (m : Listing) × HasListingFault files m (Some (FileSize path have listed))
RefusedFor files (FileSum path) = (m : Listing) × HasListingFault files m (Some (FileSum path))
RefusedFor files (FileExtra path) = (m : Listing) × HasListingFault files m (Some (FileExtra path))
RefusedFor files (LabelDamaged line) =
    (m : Listing) × HasListingFault files m None
    × RefusesLine m.start (bytes_of files label_name) line
RefusedFor files (FileDamaged path why) =
    (m : Listing) × (label : Label) × HasLabel files m label × IsFirstForm files m.files path why
RefusedFor files Failed = Unit {0}
RefusedFor files NoMemory = Unit {0}

-- how many files are found as listed before each fault: none before those of the manifest; a
-- device that failed and want of memory tell no number
abbrev pub IsCheckedBefore : Files → ChainFault → ℕ → Type 0
IsCheckedBefore files NoManifest checked = checked ≡ 0
IsCheckedBefore files (ManifestDamaged why) checked = checked ≡ 0
IsCheckedBefore files (ManifestVersion v) checked = checked ≡ 0
IsCheckedBefore files (TimelineDiffers v) checked = checked ≡ 0
IsCheckedBefore files Failed checked = Unit {0}
IsCheckedBefore files NoMemory checked = Unit {0}
IsCheckedBefore files fault checked =
    (m : Listing) × HasManifest files m × (checked ≡ rows_checked files m.files)

-- the directory is refused for this fault, behind so many files
abbrev pub HasRefusal : Files → Refusal → Type 0
HasRefusal files refusal =
    RefusedFor files refusal.fault × IsCheckedBefore files refusal.fault refusal.checked

-- what a check of a directory answers: the member of that name that it is, or why it is refused
abbrev pub DirAnswer : Files → List ℕ → Result Member Refusal → Type 0
DirAnswer files name (Ok member) = (member.name ≡ name) × IsAsListed files member
DirAnswer files name (Err refusal) = HasRefusal files refusal

-- a fault that the files decide, and not a device that failed or want of memory
abbrev pub IsOfFiles : ChainFault → Type 0
IsOfFiles fault = (fault ≢ Failed) × (fault ≢ NoMemory)

-- a failed device is answered only where the area's count of faults rose
abbrev pub FailsRisen : {T : Type 0} → ℕ → ℕ → Result T ChainFault → Type 0
FailsRisen before now result = result ≡ Err Failed → Rose before now

abbrev pub RefusesRisen : {T : Type 0} → ℕ → ℕ → Result T Refusal → Type 0
RefusesRisen before now result = IfErr result (λ refusal. refusal.fault ≡ Failed → Rose before now)

-- ---- the faults of what is called

-- a fault before any listed file
abbrev pub refusal_of : ChainFault → Refusal
refusal_of fault = record { fault = fault; checked = 0 }

abbrev pub chain_fault_of : AreaFault → ChainFault
chain_fault_of area.Failed = Failed
chain_fault_of area.NoMemory = NoMemory

abbrev pub chain_fault_read : ManifestFault → ChainFault
chain_fault_read manifest.Lines = ManifestDamaged Lines
chain_fault_read manifest.Sum = ManifestDamaged Sum
chain_fault_read manifest.Json = ManifestDamaged Json
chain_fault_read (manifest.Version v) = ManifestVersion v
chain_fault_read manifest.Shape = ManifestDamaged Shape
chain_fault_read manifest.SumKind = ManifestDamaged SumKind
chain_fault_read (manifest.TimelineIs v) = TimelineDiffers v
chain_fault_read manifest.NoMemory = NoMemory
