-- What `merge-incr` makes of a series of incremental backups.
use Rattle.std.specs.Prelude.{◌≡◌, ℕ, List, Some, Ok}
use Rattle.lsn_core.specs.Files.{Files}
use Rattle.vault.specs.Lending.{Names}
use Rattle.command_base.specs.Areas.{backup_name}
use Rattle.command_base.specs.Outside.{Outside}
use Rattle.chain_commands.specs.declared.combining.CombineReport.{CombineReport}
use Rattle.chain_commands.specs.Chain.{backup_areas, files_told}
use Rattle.chain_commands.specs.Merge.{MergeDoes}

-- `merge-incr` ended well: of these directories, which stood under the members' names, it made this
-- one
pub record HasMerged
    (members : Names) (series : List Files) (name : List ℕ) (made : Files) (old new : Outside)
    (report : CombineReport)
    : Type 0 where
  pub does : MergeDoes name members old new (Ok report)
  pub were : files_told (backup_areas members old.areas) ≡ Some series
  pub is : (new.areas (backup_name name)).files ≡ Some made
