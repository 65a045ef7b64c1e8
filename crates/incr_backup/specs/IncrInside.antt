-- What the private functions of an incremental backup answer: no public contract cites these.
use Rattle.std.specs.Prelude.{◌≡◌, ℕ, List, Option, Result, Ok, Err}
use Rattle.std.specs.Option.{option_map}
use Rattle.std.specs.FinMap.{get}
use Rattle.std.specs.Global.{Vec}
use Rattle.lsn_core.specs.Causes.{Rose}
use Rattle.lsn_core.specs.Files.{Files}
use Rattle.lsn_core.specs.declared.fault.AreaFault.{AreaFault}
use Rattle.lsn_core.specs.declared.fault.AreaFault.TheVariants as area
use Rattle.manifest.specs.Listing.{Listing}
use Rattle.manifest.specs.Reading.{ReadAnswers}
use Rattle.manifest.specs.declared.fault.ManifestFault.{ManifestFault}
use Rattle.manifest.specs.declared.fault.ManifestFault.TheVariants as manifest
use Rattle.store_faults.specs.declared.backup_fault.BackupFault.{BackupFault}
use Rattle.store_faults.specs.declared.backup_fault.BackupFault.TheVariants as backup
use Rattle.store_faults.specs.declared.incr_fault.IncrFault.{IncrFault}
use Rattle.store_faults.specs.declared.incr_fault.IncrFault.TheVariants as fault
use Rattle.incr_backup.specs.Prior.{IsOfStore, RefusesText}

-- ---- faults

abbrev pub prior_fault : AreaFault → IncrFault
prior_fault area.Failed = fault.PriorFailed
prior_fault area.NoMemory = fault.NoMemory

-- ---- the prior's manifest

-- the bytes of a file, where it is there
abbrev pub IsFile : Files → List ℕ → Option (Vec ℕ) → Type 0
IsFile files name found = option_map (λ v. v.items) found ≡ get files name

-- what a text is read as, or refused for
abbrev pub TextAnswer : List ℕ → Result Listing IncrFault → Type 0
TextAnswer bytes (Ok m) = ReadAnswers bytes (Ok m)
TextAnswer bytes (Err (fault.ManifestRefused why)) =
    ReadAnswers bytes (Err why) × (why ≡ manifest.NoMemory → ⊥)
TextAnswer bytes (Err fault.NoMemory) = Unit {0}
TextAnswer bytes (Err _) = ⊥

-- the same, and a manifest that was read is of version 2 and of a store with this system identifier
abbrev pub FileAnswer : List ℕ → ℕ → Result Listing IncrFault → Type 0
FileAnswer bytes system (Ok m) = ReadAnswers bytes (Ok m) × IsOfStore system m
FileAnswer bytes system (Err (fault.ManifestRefused why)) = RefusesText bytes why
FileAnswer bytes system (Err (fault.SystemDiffers have expected)) =
    (m : Listing) × ReadAnswers bytes (Ok m) × IsOfStore have m × (expected ≡ system)
    × (have ≡ expected → ⊥)
FileAnswer bytes system (Err fault.NoMemory) = Unit {0}
FileAnswer bytes system (Err _) = ⊥

-- a refusal by the prior's manifest, or a fault of its area, or want of memory: with its cause, by
-- the count of that area
abbrev pub PriorCause : ℕ → ℕ → IncrFault → Type 0
PriorCause before now fault.NoManifest = Unit {0}
PriorCause before now (fault.ManifestRefused why) = Unit {0}
PriorCause before now (fault.SystemDiffers have expected) = Unit {0}
PriorCause before now fault.PriorFailed = Rose before now
PriorCause before now fault.NoMemory = Unit {0}
PriorCause before now _ = ⊥
