-- That a command comes to one answer.
use Rattle.std.specs.Prelude.{ℕ, Option, List}
use Rattle.lsn_core.specs.declared.lsn.Lsn.{Lsn}
use Rattle.vault.specs.Lending.{Names}
use Rattle.command_base.specs.Decided.{HasOne}
use Rattle.chain_commands.specs.Verify.{VerifyDoes, verify_status}
use Rattle.chain_commands.specs.Combine.{CombineDoes, combine_status}
use Rattle.chain_commands.specs.Merge.{MergeDoes}
use Rattle.chain_commands.specs.Restore.{RestoreDoes, restore_status}

abbrev pub HasOneVerify : Type 0
HasOneVerify = (name : List ℕ) → HasOne (VerifyDoes name) verify_status

-- to a backup of a name, of the members of these names
abbrev pub HasOneCombine : Type 0
HasOneCombine = (out : List ℕ) (names : Names) → HasOne (CombineDoes out names) combine_status

abbrev pub HasOneMerge : Type 0
HasOneMerge = (out : List ℕ) (names : Names) → HasOne (MergeDoes out names) combine_status

-- up to a target, where one is given, to an output of a name, of the members of these names
abbrev pub HasOneRestore : Type 0
HasOneRestore =
    (upto : Option Lsn) (out : List ℕ) (names : Names)
    → HasOne (RestoreDoes upto out names) restore_status
