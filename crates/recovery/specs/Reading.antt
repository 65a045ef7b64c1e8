-- A WAL that is read up to a target, and nothing else.
use Rattle.std.specs.Prelude.{ℕ, List, Option, Result, Ok, Err}
use Rattle.lsn_core.specs.Files.{Files}
use Rattle.lsn_core.specs.declared.lsn.Lsn.{Lsn}
use Rattle.lsn_core.specs.Segment.{StoreSettings}
use Rattle.lsn_core.specs.Tip.{Tip}
use Rattle.vault.specs.declared.area.Vault.{Ghosts}
use Rattle.wal_record.specs.declared.record.Record.{Record}
use Rattle.recovery.specs.declared.fault.RecoveryFault.{RecoveryFault}
use Rattle.recovery.specs.declared.reading.Beginning.{Beginning}
use Rattle.recovery.specs.declared.reading.Beginning.TheVariants.{FirstEntry}
use Rattle.recovery.specs.Onward.{IsReadFromTo}
use Rattle.recovery.specs.Causes.{CauseOf, reading_causes}

-- a WAL was read from its first entry on, up to a target or to its end: these entries, and the tip
-- behind them
abbrev pub IsReadTo :
    StoreSettings → Option Files → Option Lsn → List Record → Tip → Type 0
IsReadTo s files upto entries last = IsReadFromTo s files FirstEntry upto entries last

abbrev pub ReadAnswer :
    StoreSettings → Beginning → Option Lsn → Option Files → ℕ → ℕ → Result Tip RecoveryFault
    → Type 0
ReadAnswer s begin upto files before now (Ok last) =
    (entries : List Record) × IsReadFromTo s files begin upto entries last
ReadAnswer s begin upto files before now (Err fault) =
    CauseOf (reading_causes s begin upto files) before now fault

abbrev pub Reads : {V : Type 0} → Ghosts V
    → StoreSettings → Beginning → Option Lsn → V → V → Result Tip RecoveryFault → Type 0
Reads g s begin upto old now result =
    ReadAnswer s begin upto (g.files old) (g.faults old) (g.faults now) result

abbrev pub ReadsThrough : {V : Type 0} → Ghosts V
    → StoreSettings → Option Lsn → V → V → Result Tip RecoveryFault → Type 0
ReadsThrough g s upto old now result = Reads g s FirstEntry upto old now result
