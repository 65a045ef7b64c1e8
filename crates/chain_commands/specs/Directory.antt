-- What is printed of the fault of a backup's directory, and the status that it gives (profile).
use Rattle.std.specs.Prelude.{ℕ, List, ◌∷◌, ◌++◌, codes}
use Rattle.std.specs.Fmt.{decimal}
use Rattle.lsn_core.specs.declared.fault.AreaFault.TheVariants as area
use Rattle.chain_check.specs.declared.fault.ManifestWhy.{ManifestWhy}
use Rattle.chain_check.specs.declared.fault.ManifestWhy.TheVariants as manifest
use Rattle.chain_check.specs.declared.fault.FileWhy.{FileWhy}
use Rattle.chain_check.specs.declared.fault.FileWhy.TheVariants as file
use Rattle.chain_check.specs.declared.fault.ChainFault.{ChainFault}
use Rattle.chain_check.specs.declared.fault.ChainFault.TheVariants as chain
use Rattle.command_base.specs.declared.status.Status.{Status}
use Rattle.command_base.specs.declared.status.Status.TheVariants as status
use Rattle.command_base.specs.Areas.{backup_name}
use Rattle.command_base.specs.Backups.{of_backup, with_number}
use Rattle.command_base.specs.Faults.{area_text, memory_text}

-- why the text of a manifest isn't taken
abbrev pub manifest_why_text : ManifestWhy → List ℕ
manifest_why_text manifest.Lines = codes "Lines"
manifest_why_text manifest.Sum = codes "Sum"
manifest_why_text manifest.Json = codes "Json"
manifest_why_text manifest.Shape = codes "Shape"
manifest_why_text manifest.SumKind = codes "SumKind"

-- why the form of a file isn't taken
abbrev pub file_why_text : FileWhy → List ℕ
file_why_text file.Both = codes "Both"
file_why_text file.Length = codes "Length"
file_why_text file.Magic = codes "Magic"
file_why_text file.Range = codes "Range"
file_why_text file.Order = codes "Order"
file_why_text file.PageLength = codes "PageLength"

-- a file has another size than is listed
abbrev pub size_text : List ℕ → List ℕ → ℕ → ℕ → List ℕ
size_text name path have listed =
    of_backup (codes "25 FileSize") name (path ++ (32 ∷ (decimal have ++ (32 ∷ decimal listed))))

-- the form of a file isn't taken
abbrev pub file_damaged_text : List ℕ → List ℕ → FileWhy → List ℕ
file_damaged_text name path why =
    of_backup (codes "28 FileDamaged") name (path ++ (32 ∷ file_why_text why))

-- the directory of the backup of this name isn't taken
abbrev pub directory_text : List ℕ → ChainFault → List ℕ
directory_text name chain.NoManifest = codes "20 NoManifest " ++ name
directory_text name (chain.ManifestDamaged why) =
    of_backup (codes "21 ManifestDamaged") name (manifest_why_text why)
directory_text name (chain.ManifestVersion v) = with_number (codes "22 ManifestVersion") name v
directory_text name (chain.TimelineDiffers v) = with_number (codes "34 TimelineDiffers") name v
directory_text name (chain.FileMissing path) = of_backup (codes "23 FileMissing") name path
directory_text name (chain.FileSize path have listed) = size_text name path have listed
directory_text name (chain.FileSum path) = of_backup (codes "26 FileSum") name path
directory_text name (chain.FileExtra path) = of_backup (codes "24 FileExtra") name path
directory_text name (chain.LabelDamaged line) = with_number (codes "27 LabelDamaged") name line
directory_text name (chain.FileDamaged path why) = file_damaged_text name path why
directory_text name chain.Failed = area_text (backup_name name) area.Failed
directory_text name chain.NoMemory = memory_text

-- the status of a directory that isn't taken
abbrev pub directory_status : ChainFault → Status
directory_status chain.NoManifest = status.Refused
directory_status (chain.ManifestDamaged why) = status.Refused
directory_status (chain.ManifestVersion v) = status.Refused
directory_status (chain.TimelineDiffers v) = status.Refused
directory_status (chain.FileMissing path) = status.Refused
directory_status (chain.FileSize path have listed) = status.Refused
directory_status (chain.FileSum path) = status.Refused
directory_status (chain.FileExtra path) = status.Refused
directory_status (chain.LabelDamaged line) = status.Refused
directory_status (chain.FileDamaged path why) = status.Refused
directory_status chain.Failed = status.Device
directory_status chain.NoMemory = status.Memory
