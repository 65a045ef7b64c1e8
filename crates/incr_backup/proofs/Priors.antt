-- The prior backup's manifest, from its bytes.
use Rattle.std.proofs.Common.{◌≡◌, ◌⊎◌, inl, inr, ◌<◌, refl, sym, ap, subst, ◌∙◌, true≢false, ℕ, List, Some, None, IsSome, is_some, Option, Result, Ok, Err}
use Rattle.std.specs.FinMap.{get}
use Rattle.lsn_core.specs.Files.{Files}
use Rattle.manifest.specs.Laws.{VersionsTellSystems}
use Rattle.manifest.specs.Listing.{Listing}
use Rattle.manifest.specs.Reading.{ReadAnswers}
use Rattle.manifest.specs.declared.fault.ManifestFault.TheVariants as manifest
use Rattle.store_faults.specs.declared.incr_fault.IncrFault.{IncrFault}
use Rattle.store_faults.specs.declared.incr_fault.IncrFault.TheVariants as fault
use Rattle.backup_files.specs.Directory.{manifest_name}
use Rattle.incr_backup.specs.IncrInside.{FileAnswer}
use Rattle.incr_backup.specs.Prior.{IsOfStore, RefusesText, PriorAnswer}

is_old : (m : Listing) → ((m.version ≡ 1) × (m.system ≡ None)) ⊎ ((m.version ≡ 2) × IsSome m.system) → m.system ≡ None → m.version ≡ 1
is_old m (inl old) none = old.0
is_old m (inr new) none = absurd (true≢false (sym new.1 ∙ ap (λ (o : Option ℕ). is_some o) none))

-- one that tells no system identifier is of version 1
pub no_system : VersionsTellSystems → (bytes : List ℕ) (m : Listing) → ReadAnswers bytes (Ok m) → m.system ≡ None → RefusesText bytes (manifest.Version 1)
no_system law bytes m read none = inr (m, read, is_old m (law bytes m read) none, refl)

pub of_store : (bytes : List ℕ) (m : Listing) (system : ℕ) → ReadAnswers bytes (Ok m) → m.system ≡ Some system → IsOfStore system m
of_store bytes m system read is = record {
  system_is = is;
  rises = subst (λ (l : Listing). l.start < l.end) (sym read.1.2.5) read.1.2.2.shape.range.rises;
}

pub file_answer : (files : Files) (system : ℕ) (bytes : List ℕ) (r : Result Listing IncrFault) → get files manifest_name ≡ Some bytes → FileAnswer bytes system r → PriorAnswer files system r
file_answer files system bytes (Ok m) there is = ((bytes, there, is.0), is.1)
file_answer files system bytes (Err fault.NotEmpty) there is = absurd is
file_answer files system bytes (Err fault.NoManifest) there is = absurd is
file_answer files system bytes (Err (fault.ManifestRefused why)) there is = (bytes, there, is)
file_answer files system bytes (Err (fault.SystemDiffers have expected)) there is = (is.0, (bytes, there, is.1), is.2, is.3, is.4)
file_answer files system bytes (Err (fault.Overlap start end)) there is = absurd is
file_answer files system bytes (Err (fault.Gap place)) there is = absurd is
file_answer files system bytes (Err (fault.WalFull n)) there is = absurd is
file_answer files system bytes (Err (fault.StoreFailed area)) there is = absurd is
file_answer files system bytes (Err fault.SumsFailed) there is = absurd is
file_answer files system bytes (Err fault.PriorFailed) there is = absurd is
file_answer files system bytes (Err fault.OutFailed) there is = absurd is
file_answer files system bytes (Err fault.NoMemory) there is = tt
