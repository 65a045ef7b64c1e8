-- When a block reference may be answered not to be redone since the outside failed.
use Rattle.std.specs.Prelude.{◌≡◌, ℕ, ◌≤◌, Result, Err}
use Rattle.lsn_core.specs.Causes.{Rose}
use Rattle.lsn_core.specs.declared.fault.AreaFault.{AreaFault}
use Rattle.lsn_core.specs.declared.fault.AreaFault.TheVariants as area
use Rattle.generic_redo.specs.declared.fault.RedoFault.{RedoFault}
use Rattle.generic_redo.specs.declared.fault.RedoFault.TheVariants.{Failed, NoMemory}

-- what a fault of the pages is to a redo
abbrev pub redo_fault_of : AreaFault → RedoFault
redo_fault_of area.Failed = Failed
redo_fault_of area.NoMemory = NoMemory

-- the count of faults doesn't fall, and a failure is answered only where it rose
pub record HasRedoCause {T : Type 0} (before now : ℕ) (result : Result T RedoFault) : Type 0 where
  pub later : before ≤ now
  pub failed : result ≡ Err Failed → Rose before now
