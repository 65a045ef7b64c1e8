-- Areas that have to be empty, looked at in order.
use Rattle.std.specs.Prelude.{◌≡◌, ◌⊎◌, List, ◌∷◌, ◌++◌, ℕ}
use Rattle.lsn_core.specs.Causes.{Rose}
use Rattle.lsn_core.specs.declared.fault.AreaFault.{AreaFault}
use Rattle.lsn_core.specs.declared.fault.AreaFault.TheVariants.{Failed}
use Rattle.vault.specs.Lending.{Names, IsOneOf}
use Rattle.vault.specs.Site.{Areas}
use Rattle.command_base.specs.Areas.{IsClear, IsFull}
use Rattle.command_base.specs.Outside.{Outside}
use Rattle.pgbackup_cli.specs.declared.drill_command.clearing.Unclear.{Unclear}
use Rattle.pgbackup_cli.specs.declared.drill_command.clearing.Unclear.TheVariants as unclear

-- none of these areas holds a file
abbrev pub AreClear : Names → Areas → Type 0
AreClear names areas = (name : List ℕ) → IsOneOf name names → IsClear (areas name)

-- an area couldn't be read: the site didn't hand it out, or it failed, or memory ran out
abbrev pub IsUnread : List ℕ → Outside → Outside → AreaFault → Type 0
IsUnread name old new why =
    why ≡ Failed → Rose old.take_faults new.take_faults
    ⊎ Rose (old.areas name).faults (new.areas name).faults

-- this one of some areas comes next behind those that hold no file
pub record IsNext (names : Names) (areas : Areas) (name : List ℕ) : Type 0 where
  pub front : Names
  pub behind : Names
  pub split : names ≡ front ++ (name ∷ behind)
  pub clear : AreClear front areas

-- why areas can't be told to be empty: memory ran out; this one couldn't be looked at, or is the
-- first that holds a file
abbrev pub AreUnclear : Names → Outside → Outside → Unclear → Type 0
AreUnclear names old new unclear.NoMemory = Unit {0}
AreUnclear names old new (unclear.Unread area why) =
    IsNext names old.areas area × IsUnread area old new why
AreUnclear names old new (unclear.Full area) =
    IsNext names old.areas area × IsFull (old.areas area)
