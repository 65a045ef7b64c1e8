-- What each step of the reader answers, for its own contracts.
use Rattle.std.specs.Global.{Vec}
use Rattle.std.specs.Prelude.{◌≡◌, ◌≢◌, ℕ, List, Option, Some, None, Result, Ok, Err}
use Rattle.sha2.specs.Sha256.{sha256}
use Rattle.serde_json.specs.Data.{Data}
use Rattle.serde_json.specs.View.{view}
use Rattle.serde_json.specs.declared.value.Value.{Value}
use Rattle.manifest.specs.Kinds.{all_files}
use Rattle.manifest.specs.Lines.{IsLined, IsSummed}
use Rattle.manifest.specs.Listing.{Listing, listing_of}
use Rattle.manifest.specs.Reading.{IsJson}
use Rattle.manifest.specs.Shape.{Parts, IsParts, version_in, IsKnown, IsUnknown}
use Rattle.manifest.specs.declared.fault.ManifestFault.{ManifestFault}
use Rattle.manifest.specs.declared.fault.ManifestFault.TheVariants.{Lines, Sum, Json, Version, Shape, SumKind, TimelineIs, NoMemory}
use Rattle.manifest.specs.declared.listing.FileRow.{FileRow}

-- the value that is found, or Shape where none is
abbrev pub Answers : {A : Type 0} → Option A → Result A ManifestFault → Type 0
Answers found (Ok x) = found ≡ Some x
Answers found (Err Shape) = found ≡ None
Answers found (Err NoMemory) = Unit {0}
Answers found (Err _) = ⊥

-- the same of a list of values
abbrev pub AnswersAll : {A : Type 0} → Option (List A) → Result (Vec A) ManifestFault → Type 0
AnswersAll found (Ok v) = found ≡ Some v.items
AnswersAll found (Err Shape) = found ≡ None
AnswersAll found (Err NoMemory) = Unit {0}
AnswersAll found (Err _) = ⊥

abbrev pub JsonAnswers : List ℕ → Result Value ManifestFault → Type 0
JsonAnswers bytes (Ok v) = IsJson bytes (view v)
JsonAnswers bytes (Err Json) = (d : Data) → ¬ IsJson bytes d
JsonAnswers bytes (Err NoMemory) = Unit {0}
JsonAnswers bytes (Err _) = ⊥

-- the lines and their sum before the JSON
abbrev pub TextAnswers : List ℕ → Result Value ManifestFault → Type 0
TextAnswers bytes (Ok v) = IsSummed bytes × IsJson bytes (view v)
TextAnswers bytes (Err Lines) = (lines sum : List ℕ) → ¬ IsLined bytes lines sum
TextAnswers bytes (Err Sum) =
    (lines sum : List ℕ) × IsLined bytes lines sum × (sum ≢ sha256 lines)
TextAnswers bytes (Err Json) = IsSummed bytes × ((d : Data) → ¬ IsJson bytes d)
TextAnswers bytes (Err NoMemory) = Unit {0}
TextAnswers bytes (Err _) = ⊥

abbrev pub VersionAnswers : Data → Result ℕ ManifestFault → Type 0
VersionAnswers d (Ok v) = (version_in d ≡ Some v) × IsKnown v
VersionAnswers d (Err (Version v)) = (version_in d ≡ Some v) × IsUnknown v
VersionAnswers d (Err Shape) = version_in d ≡ None
VersionAnswers d (Err NoMemory) = Unit {0}
VersionAnswers d (Err _) = ⊥

-- the parts of an object of a version
abbrev pub PartsAnswers : ℕ → Data → Result Parts ManifestFault → Type 0
PartsAnswers version d (Ok parts) = (parts.version ≡ version) × IsParts d parts
PartsAnswers version d (Err Shape) =
    (parts : Parts) → parts.version ≡ version → ¬ IsParts d parts
PartsAnswers version d (Err NoMemory) = Unit {0}
PartsAnswers version d (Err _) = ⊥

abbrev pub KindsAnswers : Option (List FileRow) → Result (Vec FileRow) ManifestFault → Type 0
KindsAnswers found (Ok v) = found ≡ Some v.items
KindsAnswers found (Err SumKind) = found ≡ None
KindsAnswers found (Err NoMemory) = Unit {0}
KindsAnswers found (Err _) = ⊥

-- the sums of the rows before the timeline
abbrev pub ListingAnswers : Parts → Result Listing ManifestFault → Type 0
ListingAnswers parts (Ok m) = (files : List FileRow)
    × (all_files parts.rows ≡ Some files) × (parts.timeline ≡ 1) × (m ≡ listing_of parts files)
ListingAnswers parts (Err SumKind) = all_files parts.rows ≡ None
ListingAnswers parts (Err (TimelineIs v)) = (files : List FileRow)
    × (all_files parts.rows ≡ Some files) × (parts.timeline ≡ v) × (v ≢ 1)
ListingAnswers parts (Err NoMemory) = Unit {0}
ListingAnswers parts (Err _) = ⊥
