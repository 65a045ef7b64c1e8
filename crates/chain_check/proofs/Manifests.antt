-- What a text is read as is the manifest of the directory that has it.
use Rattle.std.proofs.Common.{◌≡◌, ℕ, List, Some, Result, Ok, Err}
use Rattle.std.specs.FinMap.{get}
use Rattle.lsn_core.specs.Files.{Files}
use Rattle.manifest.specs.Listing.{Listing}
use Rattle.backup_files.specs.Directory.{manifest_name}
use Rattle.chain_check.specs.Inside.{TextAnswer, ManifestAnswer}
use Rattle.chain_check.specs.declared.fault.ChainFault.{ChainFault}
use Rattle.chain_check.specs.declared.fault.ChainFault.TheVariants.{NoManifest, ManifestDamaged, ManifestVersion, TimelineDiffers, FileMissing, FileSize, FileSum, FileExtra, LabelDamaged, FileDamaged, Failed, NoMemory}

pub manifest_is : (files : Files) (bytes : List ℕ) (r : Result Listing ChainFault) → get files manifest_name ≡ Some bytes → TextAnswer bytes r → ManifestAnswer files r
manifest_is files bytes (Ok m) there is = (bytes, there, is)
manifest_is files bytes (Err (ManifestDamaged why)) there is = (bytes, there, is)
manifest_is files bytes (Err (ManifestVersion v)) there is = (bytes, there, is)
manifest_is files bytes (Err (TimelineDiffers v)) there is = (bytes, there, is)
manifest_is files bytes (Err NoMemory) there is = tt
manifest_is files bytes (Err Failed) there is = tt
manifest_is files bytes (Err NoManifest) there is = absurd is
manifest_is files bytes (Err (FileMissing path)) there is = absurd is
manifest_is files bytes (Err (FileSize path have listed)) there is = absurd is
manifest_is files bytes (Err (FileSum path)) there is = absurd is
manifest_is files bytes (Err (FileExtra path)) there is = absurd is
manifest_is files bytes (Err (LabelDamaged line)) there is = absurd is
manifest_is files bytes (Err (FileDamaged path why)) there is = absurd is
