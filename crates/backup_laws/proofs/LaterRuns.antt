-- What `restore` makes of a backup that a run took, over a WAL that goes on from what the run left.
use Rattle.std.proofs.Common.{IfSome, ℕ, List, Option, sym, subst}
use Rattle.lsn_core.specs.Files.{Files}
use Rattle.lsn_core.specs.Segment.{StoreSettings}
use Rattle.wal_record.specs.declared.record.Record.{Record}
use Rattle.wal_reader.specs.Settings.{IsSettingsOf}
use Rattle.command_base.specs.Areas.{wal_name, backup_name}
use Rattle.run_command.specs.Run.{RunDone, all_records}
use Rattle.backup_laws.specs.Restores.{LaterRestoresAreReplays}
use Rattle.backup_laws.proofs.WalsLeft.{first_leaves, grown}
use Rattle.backup_laws.specs.Runs.{IsSoundBackup}
use Rattle.backup_laws.proofs.Members.{Known}
use Rattle.backup_laws.proofs.RestoredRuns.{restored_over, run_backed}

module _ (known : Known) where
  pub later_restored : LaterRestoresAreReplays
  later_restored before left last old new run end top start stop name out upto report taken ran is_last goes ends same restored =
      let when : ℕ = ran.when in
      let done : RunDone when before.areas left.areas run = ran.done in
      let s : StoreSettings = done.settings in
      let records : List Record = all_records s done.found done.history in
      let first = first_leaves when before left run end done ran in
      let t : StoreSettings = restored.does.1.holds.settings in
      let given : IfSome (last.areas wal_name).files (λ m. IsSettingsOf m t) = subst (λ (o : Option Files). IfSome o (λ m. IsSettingsOf m t)) restored.wal restored.does.1.holds.given.given in
      let backed : IsSoundBackup s when records name start stop (last.areas (backup_name name)).files = subst (λ (o : Option Files). IsSoundBackup s when records name start stop o) (sym same) (run_backed when before left run end start stop name done taken ran is_last) in
      restored_over known s when records last old new top start stop name out upto report done.given.blocks first.1 (grown s records (left.areas wal_name).files (last.areas wal_name).files end top t first.0 goes ends given) backed restored
