-- What a manifest's text is read as, and what it is refused for.
use Rattle.std.specs.Prelude.{◌≡◌, ◌≢◌, ℕ, List, Some, None, Result, Ok, Err}
use Rattle.std.specs.Str.{IsUtf8}
use Rattle.sha2.specs.Sha256.{sha256}
use Rattle.serde_json.specs.Data.{Data}
use Rattle.serde_json.specs.Read.{read}
use Rattle.manifest.specs.Kinds.{all_files}
use Rattle.manifest.specs.Lines.{IsLined, IsSummed}
use Rattle.manifest.specs.Listing.{Listing, listing_of}
use Rattle.manifest.specs.Shape.{Parts, IsParts, version_in, IsKnown, IsUnknown}
use Rattle.manifest.specs.declared.fault.ManifestFault.{ManifestFault}
use Rattle.manifest.specs.declared.fault.ManifestFault.TheVariants.{Lines, Sum, Json, Version, Shape, SumKind, TimelineIs, NoMemory}
use Rattle.manifest.specs.declared.listing.FileRow.{FileRow}

-- the bytes are a JSON text of this value
abbrev pub IsJson : List ℕ → Data → Type 0
IsJson bytes d = IsUtf8 bytes × (read bytes ≡ Some d)

-- the value doesn't name a version that isn't read
abbrev pub HasNoOther : Data → Type 0
HasNoOther d = (v : ℕ) → version_in d ≡ Some v → IsKnown v

-- the value has a version that is read, and these parts
pub record IsShaped (d : Data) (parts : Parts) : Type 0 where
  pub version : version_in d ≡ Some parts.version
  pub known : IsKnown parts.version
  pub shape : IsParts d parts

-- the value is that of a manifest: each row has a sum of its kind, and the timeline is 1
abbrev pub IsManifest : Data → Listing → Type 0
IsManifest d m = (parts : Parts) × (files : List FileRow) × IsShaped d parts
    × (all_files parts.rows ≡ Some files) × (parts.timeline ≡ 1) × (m ≡ listing_of parts files)

-- what a value is read as or refused for: its version, its shape, a sum, its timeline
abbrev pub ValueAnswers : Data → Result Listing ManifestFault → Type 0
ValueAnswers d (Ok m) = IsManifest d m
ValueAnswers d (Err (Version v)) = (version_in d ≡ Some v) × IsUnknown v
ValueAnswers d (Err Shape) = HasNoOther d × ((p : Parts) → ¬ IsShaped d p)
ValueAnswers d (Err SumKind) =
    (parts : Parts) × IsShaped d parts × (all_files parts.rows ≡ None)
ValueAnswers d (Err (TimelineIs v)) = (parts : Parts) × (files : List FileRow)
    × IsShaped d parts × (all_files parts.rows ≡ Some files)
    × (parts.timeline ≡ v) × (v ≢ 1)
ValueAnswers d (Err NoMemory) = Unit {0}
ValueAnswers d (Err _) = ⊥

-- the text has its sum and a value with this answer
abbrev pub IsJudged : List ℕ → Result Listing ManifestFault → Type 0
IsJudged bytes r = IsSummed bytes × ((d : Data) × IsJson bytes d × ValueAnswers d r)

-- what bytes are read as or refused for, in this order: their lines, their sum, their JSON, their
-- value
abbrev pub ReadAnswers : List ℕ → Result Listing ManifestFault → Type 0
ReadAnswers bytes (Err Lines) = (lines sum : List ℕ) → ¬ IsLined bytes lines sum
ReadAnswers bytes (Err Sum) =
    (lines sum : List ℕ) × IsLined bytes lines sum × (sum ≢ sha256 lines)
ReadAnswers bytes (Err Json) = IsSummed bytes × ((d : Data) → ¬ IsJson bytes d)
ReadAnswers bytes (Err (Version v)) = IsJudged bytes (Err (Version v))
ReadAnswers bytes (Err Shape) = IsJudged bytes (Err Shape)
ReadAnswers bytes (Err SumKind) = IsJudged bytes (Err SumKind)
ReadAnswers bytes (Err (TimelineIs v)) = IsJudged bytes (Err (TimelineIs v))
ReadAnswers bytes (Err NoMemory) = Unit {0}
ReadAnswers bytes (Ok m) = IsJudged bytes (Ok m)
