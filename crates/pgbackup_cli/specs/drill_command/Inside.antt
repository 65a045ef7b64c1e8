-- What the steps of a drill answer to each other: no public contract cites these.
use Rattle.std.specs.Prelude.{ℕ, ◌+◌, Some, Result, Ok, Err}
use Rattle.command_base.specs.Outside.{Outside}
use Rattle.command_line.specs.declared.options.InitOptions.{InitOptions}
use Rattle.pgbackup_cli.specs.declared.drill_command.report.DrillFault.{DrillFault}
use Rattle.pgbackup_cli.specs.drill_command.Drill.{drill_relseg, DrillRefused}

-- what makes the store
abbrev pub drill_options : ℕ → InitOptions
drill_options n = record { segment = Some 1; relseg = Some drill_relseg; system = Some (n + 1) }

-- a step was done, or the drill is refused
abbrev pub Steps : {T : Type 0} → ℕ → ℕ → (T → Type 0) → Outside → Outside
    → Result T DrillFault → Type 0
Steps n when Done old new (Ok x) = Done x
Steps n when Done old new (Err fault) = DrillRefused n when old new fault
