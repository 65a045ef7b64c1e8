-- The manifest of a prior backup, and what reading it answers.
use Rattle.std.specs.Prelude.{◌≡◌, ◌≢◌, ◌⊎◌, ◌<◌, ℕ, List, Some, None, Result, Ok, Err}
use Rattle.std.specs.FinMap.{get}
use Rattle.lsn_core.specs.Files.{Files}
use Rattle.manifest.specs.Listing.{Listing}
use Rattle.manifest.specs.Reading.{ReadAnswers}
use Rattle.manifest.specs.declared.fault.ManifestFault.{ManifestFault}
use Rattle.manifest.specs.declared.fault.ManifestFault.TheVariants as manifest
use Rattle.backup_files.specs.Directory.{manifest_name}
use Rattle.store_faults.specs.declared.incr_fault.IncrFault.{IncrFault}
use Rattle.store_faults.specs.declared.incr_fault.IncrFault.TheVariants.{NoManifest, ManifestRefused, SystemDiffers, PriorFailed, NoMemory}

-- an area's manifest is of a version that is read and of its grammar, and says this
abbrev pub HasListing : Files → Listing → Type 0
HasListing files m =
    (bytes : List ℕ) × (get files manifest_name ≡ Some bytes) × ReadAnswers bytes (Ok m)

-- a text is refused for this; or it is read and of version 1, which a prior isn't
abbrev pub RefusesText : List ℕ → ManifestFault → Type 0
RefusesText bytes why = (ReadAnswers bytes (Err why) × (why ≢ manifest.NoMemory))
    ⊎ ((m : Listing) × ReadAnswers bytes (Ok m) × (m.version ≡ 1) × (why ≡ manifest.Version 1))

-- it is there, and refused for this
abbrev pub RefusesListing : Files → ManifestFault → Type 0
RefusesListing files why =
    (bytes : List ℕ) × (get files manifest_name ≡ Some bytes) × RefusesText bytes why

-- a manifest of a store with this system identifier
pub record IsOfStore (system : ℕ) (m : Listing) : Type 0 where
  pub system_is : m.system ≡ Some system
  pub rises : m.start < m.end

-- what reading the prior's manifest answers: the manifest, where it is of version 2 and of a store
-- with this system identifier, or else why it isn't taken
abbrev pub PriorAnswer : Files → ℕ → Result Listing IncrFault → Type 0
PriorAnswer files system (Ok m) = HasListing files m × IsOfStore system m
PriorAnswer files system (Err NoManifest) = get files manifest_name ≡ None
PriorAnswer files system (Err (ManifestRefused why)) = RefusesListing files why
PriorAnswer files system (Err (SystemDiffers have expected)) =
    (m : Listing) × HasListing files m × IsOfStore have m × (expected ≡ system)
    × (have ≢ expected)
PriorAnswer files system (Err PriorFailed) = Unit {0}
PriorAnswer files system (Err NoMemory) = Unit {0}
PriorAnswer files system (Err fault) = ⊥
