-- What is printed of faults that are of a backup (profile).
use Rattle.std.specs.Prelude.{ℕ, List, ◌∷◌, ◌++◌, codes}
use Rattle.std.specs.Fmt.{decimal}
use Rattle.lsn_core.specs.Names.{lsn_bytes}
use Rattle.lsn_core.specs.declared.lsn.Lsn.{Lsn}
use Rattle.manifest.specs.declared.fault.ManifestFault.{ManifestFault}
use Rattle.manifest.specs.declared.fault.ManifestFault.TheVariants as manifest
use Rattle.command_base.specs.Faults.{memory_text}

-- a fault by number and name, the backup, and what stands behind these
abbrev pub of_backup : List ℕ → List ℕ → List ℕ → List ℕ
of_backup fault name text = fault ++ (32 ∷ (name ++ (32 ∷ text)))

-- the same with a number behind
abbrev pub with_number : List ℕ → List ℕ → ℕ → List ℕ
with_number fault name number = of_backup fault name (decimal number)

-- two places with a space between them
abbrev pub lsns_text : Lsn → Lsn → List ℕ
lsns_text first second = lsn_bytes first.0 ++ (32 ∷ lsn_bytes second.0)

-- the same behind a backup
abbrev pub with_lsns : List ℕ → List ℕ → Lsn → Lsn → List ℕ
with_lsns fault name first second = of_backup fault name (lsns_text first second)

-- a backup starts at a place, and the one before it ends past that
abbrev pub overlap_text : List ℕ → Lsn → Lsn → List ℕ
overlap_text name start end = with_lsns (codes "35 Overlap") name start end

-- a backup is of a store with a system identifier, and another one is expected
abbrev pub systems_text : List ℕ → ℕ → ℕ → List ℕ
systems_text name have expected =
    of_backup (codes "33 SystemDiffers") name (decimal have ++ (32 ∷ decimal expected))

-- no summary that is kept covers a place
abbrev pub gap_text : Lsn → List ℕ
gap_text place = codes "50 SummaryGap " ++ lsn_bytes place.0

-- the manifest of the backup of this name isn't taken
abbrev pub manifest_text : List ℕ → ManifestFault → List ℕ
manifest_text name manifest.Lines = of_backup (codes "21 ManifestDamaged") name (codes "Lines")
manifest_text name manifest.Sum = of_backup (codes "21 ManifestDamaged") name (codes "Sum")
manifest_text name manifest.Json = of_backup (codes "21 ManifestDamaged") name (codes "Json")
manifest_text name (manifest.Version v) = with_number (codes "22 ManifestVersion") name v
manifest_text name manifest.Shape = of_backup (codes "21 ManifestDamaged") name (codes "Shape")
manifest_text name manifest.SumKind = of_backup (codes "21 ManifestDamaged") name (codes "SumKind")
manifest_text name (manifest.TimelineIs v) = with_number (codes "34 TimelineDiffers") name v
manifest_text name manifest.NoMemory = memory_text
