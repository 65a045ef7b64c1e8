-- What fails where a file of a directory is written.
use Rattle.std.specs.Prelude.{List, ℕ}
use Rattle.lsn_core.specs.Causes.{Rose}
use Rattle.lsn_core.specs.declared.fault.AreaFault.{AreaFault}
use Rattle.lsn_core.specs.declared.fault.AreaFault.TheVariants as area
use Rattle.vault.specs.declared.area.Vault.{Ghosts}
use Rattle.vault.specs.declared.lending.Held.{Held}
use Rattle.chain_files.specs.Told.{faults_at}
use Rattle.chain_files.specs.declared.fault.MemberFault.{MemberFault}
use Rattle.directory_files.specs.declared.fault.WriteFault.{WriteFault}
use Rattle.directory_files.specs.declared.fault.WriteFault.TheVariants.{MemberFailed, OutFailed, NoMemory}

abbrev pub area_fault : AreaFault → WriteFault
area_fault area.Failed = OutFailed
area_fault area.NoMemory = NoMemory

abbrev pub why_fault : ℕ → AreaFault → WriteFault
why_fault place area.Failed = MemberFailed place
why_fault place area.NoMemory = NoMemory

abbrev pub member_fault : MemberFault → WriteFault
member_fault failed = why_fault failed.area failed.why

-- the device of a member or of the output failed, whose count rose, or memory ran out
abbrev pub WriteCause : {V : Type 0} → Ghosts V → List (Held V) → V → List (Held V) → V
    → WriteFault → Type 0
WriteCause g areas out areas_now out_now (MemberFailed place) =
    Rose (faults_at g areas place) (faults_at g areas_now place)
WriteCause g areas out areas_now out_now OutFailed = Rose (g.faults out) (g.faults out_now)
WriteCause g areas out areas_now out_now NoMemory = Unit {0}
