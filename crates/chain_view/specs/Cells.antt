-- What stands in each column of the line of a backup, and of a folder that is none.
use Rattle.std.specs.Prelude.{ℕ, List, [], ◌∷◌, ◌++◌, codes, Option, Some, None}
use Rattle.std.specs.Fmt.{decimal}
use Rattle.lsn_core.specs.Names.{lsn_bytes}
use Rattle.lsn_core.specs.declared.lsn.Lsn.{Lsn}
use Rattle.manifest.specs.declared.fault.ManifestFault.{ManifestFault}
use Rattle.manifest.specs.declared.fault.ManifestFault.TheVariants as manifest
use Rattle.chain_listing.specs.Backups.{kind_name}
use Rattle.chain_listing.specs.declared.shown.FolderFault.{FolderFault}
use Rattle.chain_listing.specs.declared.shown.FolderFault.TheVariants as folder
use Rattle.chain_listing.specs.declared.listing.Damaged.{Damaged}
use Rattle.chain_view.specs.declared.cells.Cell.{Cell}
use Rattle.chain_view.specs.declared.cells.Cell.TheVariants.{Nothing, Word, Number}
use Rattle.chain_view.specs.declared.cells.Member.{Member}

abbrev pub cell_of : Option (List ℕ) → Cell
cell_of None = Nothing
cell_of (Some word) = Word word

-- why a folder is no backup, in the words of the lines of `pgbackup verify`
abbrev pub manifest_why : ManifestFault → List ℕ
manifest_why manifest.Lines = codes "ManifestDamaged Lines"
manifest_why manifest.Sum = codes "ManifestDamaged Sum"
manifest_why manifest.Json = codes "ManifestDamaged Json"
manifest_why manifest.Shape = codes "ManifestDamaged Shape"
manifest_why manifest.SumKind = codes "ManifestDamaged SumKind"
manifest_why (manifest.Version v) = codes "ManifestVersion " ++ decimal v
manifest_why (manifest.TimelineIs v) = codes "TimelineDiffers " ++ decimal v
manifest_why manifest.NoMemory = codes "NoMemory"

abbrev pub fault_text : FolderFault → List ℕ
fault_text folder.Name = codes "Name"
fault_text folder.NoManifest = codes "NoManifest"
fault_text (folder.Manifest why) = manifest_why why
fault_text (folder.Label line) = codes "LabelDamaged " ++ decimal line
fault_text (folder.Version v) = codes "ManifestVersion " ++ decimal v
fault_text (folder.Timeline v) = codes "TimelineDiffers " ++ decimal v
fault_text folder.NoMemory = codes "NoMemory"

-- why a backup that names this prior's start ends no chain: the prior isn't there, or it ends none
-- to which one more member may come
abbrev pub broken_text : Lsn → Option (List ℕ) → List ℕ
broken_text start None = codes "NoPrior " ++ lsn_bytes start.0
broken_text start (Some prior) = codes "NoChain"

abbrev pub broken_cell : Option Lsn → Option (List ℕ) → Cell
broken_cell None prior = Nothing
broken_cell (Some start) prior = Word (broken_text start prior)

abbrev pub unless_chained : Option (List ℕ) → Cell → Cell
unless_chained None cell = cell
unless_chained (Some chain) cell = Nothing

abbrev pub fault_cell : Member → Cell
fault_cell member = unless_chained member.chain (broken_cell member.backup.prior member.prior)

-- the line of a backup: its chain, name, kind, start, end and prior, its files, their bytes, and
-- why it ends no chain
abbrev pub member_line : Member → List Cell
member_line member =
    cell_of member.chain
    ∷ (Word member.backup.name
    ∷ (Word (kind_name member.backup.kind)
    ∷ (Word (lsn_bytes member.backup.start.0)
    ∷ (Word (lsn_bytes member.backup.end.0)
    ∷ (cell_of member.prior
    ∷ (Number member.backup.files
    ∷ (Number member.backup.bytes
    ∷ (fault_cell member ∷ []))))))))

-- the line of a folder that is none: its name, and why
abbrev pub damaged_line : Damaged → List Cell
damaged_line damaged =
    Nothing
    ∷ (Word damaged.name
    ∷ (Word (codes "damaged")
    ∷ (Nothing ∷ (Nothing ∷ (Nothing ∷ (Nothing ∷ (Nothing
    ∷ (Word (fault_text damaged.fault) ∷ []))))))))
