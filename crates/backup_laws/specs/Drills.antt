-- What `drill` leaves is what a replay of its whole WAL makes.
use Rattle.std.specs.Prelude.{◌≡◌, ℕ, List, Some}
use Rattle.std.specs.FinMap.{len}
use Rattle.lsn_core.specs.Files.{Files}
use Rattle.lsn_core.specs.Store.{Store, files_of}
use Rattle.lsn_core.specs.declared.lsn.Lsn.{Lsn}
use Rattle.wal_record.specs.declared.record.Record.{Record}
use Rattle.history.specs.Pages.{page_count}
use Rattle.history.specs.Whole.{whole}
use Rattle.store_locks.specs.Records.{HoldsRecords}
use Rattle.command_base.specs.Areas.{wal_name}
use Rattle.command_base.specs.Outside.{Outside}
use Rattle.chain_commands.specs.Chain.{backup_names}
use Rattle.run_answers.specs.declared.told.Told.{Told}
use Rattle.drill_script.specs.Drill.{drill_0, drill_1, drill_2}
use Rattle.pgbackup_cli.specs.drill_command.Contents.{contents_sum}
use Rattle.pgbackup_cli.specs.drill_command.Drill.{DrillDone, drill_settings, drill_relseg, drill_members, drill_out, drill_writes}
use Rattle.pgbackup_cli.specs.declared.drill_command.report.DrillReport.{DrillReport}
use Rattle.backup_laws.specs.Runs.{IsBackedUp}
use Rattle.backup_laws.specs.Chains.{IsIncremented, AllTell}

-- the areas that a drill asks for tell their files before it, and those of its backups behind it
pub record DrillTells (n : ℕ) (old new : Outside) : Type 0 where
  pub before : AllTell (drill_writes n) old.areas
  pub behind : AllTell (backup_names drill_members) new.areas

-- all three backups were answered `backup START END`
pub record AreAnswered (told : List Told) : Type 0 where
  pub start0 : Lsn
  pub end0 : Lsn
  pub full : IsBackedUp told drill_0 start0 end0
  pub start1 : Lsn
  pub end1 : Lsn
  pub first : IsIncremented told drill_1 start1 end1
  pub start2 : Lsn
  pub end2 : Lsn
  pub second : IsIncremented told drill_2 start2 end2

-- the WAL of a new store of a number has these records, and ends at a place; the output has just
-- the files of the store that they make from nothing; and the forks, the pages and the sum that are
-- told are those of this store
pub record IsWholeDrill (n : ℕ) (new : Outside) (report : DrillReport) : Type 0 where
  pub wal : Files
  pub told : (new.areas wal_name).files ≡ Some wal
  pub records : List Record
  pub end : Lsn
  pub held : HoldsRecords (drill_settings n) records end.0 wal
  pub store : Store
  pub made : whole records end.0 ≡ Some store
  pub written : (new.areas drill_out).files ≡ Some (files_of drill_relseg store)
  pub forks : report.forks ≡ len store
  pub pages : report.pages ≡ page_count store
  pub summed : report.sum ≡ contents_sum store

-- each drill that was done came to that. What its run and its restore took and made stands in its
-- own clause: of the directories nothing is asked
abbrev pub DrillsAreReplays : Type 0
DrillsAreReplays =
    (n when : ℕ) (old new : Outside) (report : DrillReport)
    → DrillDone n when old new report → DrillTells n old new → IsWholeDrill n new report

-- and its run took all three backups
abbrev pub DrillsTakeTheirBackups : Type 0
DrillsTakeTheirBackups =
    (n when : ℕ) (old new : Outside) (report : DrillReport)
    (done : DrillDone n when old new report)
    → DrillTells n old new → AreAnswered done.before.before.run.told
