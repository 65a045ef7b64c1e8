-- When `restore` is done, and what it makes of a chain of completed backups then.
use Rattle.std.specs.Prelude.{◌≡◌, ℕ, List, ◌∷◌, Option, Some, IfOk}
use Rattle.std.specs.List.{AllByRecursion}
use Rattle.lsn_core.specs.Files.{Files}
use Rattle.lsn_core.specs.declared.lsn.Lsn.{Lsn}
use Rattle.vault.specs.Area.{Related}
use Rattle.vault.specs.Lending.{Names}
use Rattle.chain_check.specs.declared.member.Member.{Member}
use Rattle.command_base.specs.Areas.{wal_name, output_name}
use Rattle.command_base.specs.Outside.{Outside}
use Rattle.chain_commands.specs.Chain.{backup_areas, files_told, IsChainTo}
use Rattle.chain_commands.specs.Restore.{RestoreResult, RestoreDoes, IsLate, restore_status}
use Rattle.backup_laws.specs.Restores.{PastRun, GoesOnFrom, replay_end, IsWholeReplay}
use Rattle.backup_laws.specs.ChainRestores.{RanInTurn, Making, IsCompletedBackup}
use Rattle.backup_laws.specs.Success.{IsDoneOrFails, TellsEmpty, IsSoundWal, IsNotPast}

-- completed backups that stand under some names, and that are accepted as a chain, are restored, to
-- an output that holds no file, up to each target from the last backup's end to the WAL's end, and
-- without a target to that end: of a sound WAL, which goes on from what the latest of the runs
-- left. What then stands in the output is exactly what a replay of the whole WAL gives
abbrev pub CompletedChainsAreRestored : Type 0
CompletedChainsAreRestored =
    (latest : PastRun) (earlier : List PastRun) (makings : List Making)
    (names : Names) (chain : List Files) (newest : Member) (old new : Outside) (wal : Files)
    (end : Lsn) (out : List ℕ) (upto : Option Lsn) (r : RestoreResult)
    → RanInTurn latest earlier
    → Related GoesOnFrom (latest.left.areas wal_name).files (old.areas wal_name).files
    → (old.areas wal_name).files ≡ Some wal → IsSoundWal end wal
    → files_told (backup_areas names old.areas) ≡ Some chain
    → AllByRecursion (IsCompletedBackup (latest ∷ earlier) makings) chain
    → IsChainTo names (backup_areas names old.areas) newest
    → IsLate upto newest → IsNotPast upto end
    → TellsEmpty (old.areas (output_name out))
    → RestoreDoes upto out names old new r
    → IsDoneOrFails (restore_status r)
    × IfOk r (λ report. IsWholeReplay (old.areas wal_name).files end (replay_end upto end) report
    (new.areas (output_name out)).files)
