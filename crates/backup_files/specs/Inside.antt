-- What the crate's private functions answer: no public contract cites these.
use Rattle.std.specs.Prelude.{◌≡◌, ◌⊎◌, List, ℕ}
use Rattle.std.specs.Option.{option_map}
use Rattle.lsn_core.specs.Causes.{Rose}
use Rattle.lsn_core.specs.declared.fault.AreaFault.{AreaFault}
use Rattle.lsn_core.specs.declared.fault.AreaFault.TheVariants as area
use Rattle.vault.specs.declared.area.Vault.{Ghosts}
use Rattle.vault.specs.Area.{after_remove}
use Rattle.backup_files.specs.Directory.{manifest_name}
use Rattle.backup_files.specs.Area.{TellAlike, with_file}

-- writing the manifest failed, or syncing behind it
abbrev pub FailsToWrite : {V : Type 0} → Ghosts V → List ℕ → V → V → AreaFault → Type 0
FailsToWrite g text old new area.Failed =
    Rose (g.faults old) (g.faults new) × TellAlike (g.files old) (g.files new)
FailsToWrite g text old new area.NoMemory =
    (g.files new ≡ g.files old) ⊎ (g.files new ≡ with_file manifest_name text (g.files old))

-- the manifest was removed; or its removal failed, and the count rose; or there was no memory for
-- it, which is answered
abbrev pub Withdraws : {V : Type 0} → Ghosts V → AreaFault → V → V → AreaFault → Type 0
Withdraws g why old new answer =
    ((answer ≡ why) × (g.files new ≡ option_map (after_remove manifest_name) (g.files old)))
    ⊎ (((answer ≡ why) × Rose (g.faults old) (g.faults new))
    ⊎ ((answer ≡ area.NoMemory) × (g.files new ≡ g.files old)))
