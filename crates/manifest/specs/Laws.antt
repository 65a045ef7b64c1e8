-- What holds of written manifests.
use Rattle.std.specs.Prelude.{◌≡◌, ◌⊎◌, ℕ, ◌<◌, ◌^◌, List, All, None, IfSome, IsSome, Result, Ok, Err}
use Rattle.manifest.specs.Listing.{Listing}
use Rattle.manifest.specs.Reading.{ReadAnswers}
use Rattle.manifest.specs.Text.{IsWritable, manifest_text}
use Rattle.manifest.specs.declared.fault.ManifestFault.{ManifestFault}
use Rattle.manifest.specs.declared.fault.ManifestFault.TheVariants.{NoMemory}

-- the numbers of a manifest are below 2^64
pub record HasSmallNumbers (m : Listing) : Type 0 where
  pub system : IfSome m.system (λ n. n < 2 ^ 64)
  pub sizes : All (λ row. row.size < 2 ^ 64) m.files
  pub start : m.start < 2 ^ 64
  pub end : m.end < 2 ^ 64

-- the text of a manifest is read as that manifest
abbrev pub WrittenManifestsAreRead : Type 0
WrittenManifestsAreRead = (m : Listing) → IsWritable m → HasSmallNumbers m
    → ReadAnswers (manifest_text m) (Ok m)

-- bytes that are read as a manifest are read as no other one, and aren't refused
abbrev pub TextsHaveOneManifest : Type 0
TextsHaveOneManifest = (bytes : List ℕ) (m : Listing) (r : Result Listing ManifestFault)
    → ReadAnswers bytes (Ok m) → ReadAnswers bytes r
    → (r ≡ Ok m) ⊎ (r ≡ Err NoMemory)

-- a manifest that is read is of version 1 and has no system identifier, or of version 2 and has one
abbrev pub VersionsTellSystems : Type 0
VersionsTellSystems = (bytes : List ℕ) (m : Listing) → ReadAnswers bytes (Ok m)
    → ((m.version ≡ 1) × (m.system ≡ None)) ⊎ ((m.version ≡ 2) × IsSome m.system)
