-- What becomes of an error of the system, and what is kept of the faults so far.
use Rattle.std.specs.Prelude.{◌≡◌, ℕ, if◌then◌else◌, List, Option, IsSome, string_bytes}
use Rattle.std.specs.Option.{option_map}
use Rattle.lsn_core.specs.declared.fault.AreaFault.{AreaFault}
use Rattle.lsn_core.specs.declared.fault.AreaFault.TheVariants.{Failed, NoMemory}
use Rattle.vault_os.specs.declared.errors.SystemError.{SystemError}
use Rattle.vault_os.specs.declared.faults.Faults.{Faults}

-- the fault of an error, where nothing was changed
abbrev pub fault_of : SystemError → AreaFault
fault_of error = if error.is_memory then NoMemory else Failed

-- what was said of the first fault
abbrev pub said_of : Faults → Option (List ℕ)
said_of faults = option_map string_bytes faults.said

-- what was said of the first fault stays
abbrev pub KeepsFirst : Faults → Faults → Type 0
KeepsFirst old new = IsSome old.said → new.said ≡ old.said
