-- What functions inside the crate answer. No public contract cites these.
use Rattle.std.specs.Prelude.{◌≡◌, ◌⊎◌, ℕ, List, Option}
use Rattle.std.specs.Option.{option_map}
use Rattle.lsn_core.specs.Files.{Files}
use Rattle.lsn_core.specs.declared.fault.AreaFault.{AreaFault}
use Rattle.vault.specs.Area.{after_remove}
use Rattle.rel_files.specs.Forks.{IsForkPath}
use Rattle.data_areas.specs.Stored.{CountsFault}
use Rattle.restart_areas.specs.declared.store_pages.CallFaults.{CallFaults}
use Rattle.restart_areas.specs.Pages.{faults_seen}

-- a file is removed where it is a segment file of a fork
abbrev pub DropsFork : List ℕ → Option Files → Option Files → Type 0
DropsFork name old new =
    (IsForkPath name × (new ≡ option_map (after_remove name) old))
    ⊎ ((IsForkPath name → ⊥) × (new ≡ old))

-- a call on the area of a number is counted, where it failed
abbrev pub CountsCall : ℕ → CallFaults → CallFaults → Option AreaFault → Type 0
CountsCall q old new why = CountsFault q (faults_seen old) (faults_seen new) why
