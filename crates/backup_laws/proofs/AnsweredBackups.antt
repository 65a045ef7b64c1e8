-- The backups that a run answered are as their manifests list them.
use Rattle.std.proofs.Common.{◌≡◌, ◌⊎◌, inl, inr, ℕ, List, Some, refl, sym, ap, ◌∙◌}
use Rattle.lsn_core.specs.Files.{Files}
use Rattle.std.specs.Prelude.{Ok, Err}
use Rattle.lsn_core.specs.declared.lsn.Lsn.{Lsn}
use Rattle.command_base.specs.Outside.{Outside}
use Rattle.command_base.specs.Areas.{backup_name, AreaIsDurable}
use Rattle.run_command.specs.Run.{AreTold}
use Rattle.chain_check.specs.Laws.{DirectoriesAreOneMember, ListedIsNotRefused}
use Rattle.chain_check.specs.Refusals.{HasRefusal}
use Rattle.command_base.proofs.Told.{at_told}
use Rattle.recovery.proofs.OneWal.{same_lsn}
use Rattle.chain_commands.specs.Verify.{VerifyResult, VerifyDoes, VerifyDone, report_of}
use Rattle.chain_commands.specs.declared.verifying.VerifyReport.{VerifyReport}
use Rattle.chain_commands.specs.declared.verifying.VerifyFault.TheVariants as verify
use Rattle.backup_laws.specs.Runs.{IsBackedUp}
use Rattle.backup_laws.specs.Chains.{IsIncremented}
use Rattle.backup_laws.specs.Finished.{AnsweredBackupsAreListed, AnsweredBackupsAreVerified, IsListedBackup, IsVerified, full_member, incr_member}
use Rattle.backup_laws.proofs.ChainRuns.{full_of_run, incr_of_run}
use Rattle.backup_laws.proofs.ListedFiles.{finished_listed}
use Rattle.backup_laws.proofs.ListedIncrements.{KnownOfHeads, increment_listed}

pub answered_listed : KnownOfHeads → AnsweredBackupsAreListed
answered_listed known when before left report done name start end tells line answered = by answered
  where
    by : IsBackedUp report.told name start end ⊎ IsIncremented report.told name start end → (files : Files) × ((left (backup_name name)).files ≡ Some files) × IsListedBackup name start end files × AreaIsDurable (left (backup_name name))
    by (inl taken) =
        let is = full_of_run when before left report done name start end taken tells in
        let b = is.backup in (
          is.files,
          is.told,
          record {
            member = full_member done.settings name start is.checkpoint end b.begun b.rows;
            named = refl;
            starts = refl;
            ends = refl;
            listed = finished_listed done.settings name when is.copy start is.checkpoint end is.count is.files b done.given.blocks.least line;
          },
          is.durable,
        )
    by (inr taken) =
        let is = incr_of_run when before left report done name start end taken tells in
        let b = is.backup in (
          is.files,
          is.told,
          record {
            member = incr_member done.settings name start is.checkpoint is.prior end b.directory.begun b.directory.rows;
            named = refl;
            starts = refl;
            ends = refl;
            listed = increment_listed known (AreTold before) done.settings name when is.history start is.checkpoint is.prior end is.count is.files b done.given.blocks line;
          },
          is.durable,
        )

-- ---- what `verify` says of them

-- what is known of directories
pub record KnownOfDirectories : Type 0 where
  pub member : DirectoriesAreOneMember
  pub listed : ListedIsNotRefused

verified : KnownOfDirectories → (name : List ℕ) (start end : Lsn) (files : Files) (old new : Outside) (r : VerifyResult) → IsListedBackup name start end files → (old.areas (backup_name name)).files ≡ Some files → VerifyDoes name old new r → IsVerified start end r
verified known name start end files old new (Ok report) is told does =
    let done = at_told (old.areas (backup_name name)).files files (VerifyDone name report) told does.1 in
    let same : done.member ≡ is.member = known.member files done.member is.member (done.named ∙ sym is.named) done.listed is.listed in
    let tells : report ≡ report_of is.member = done.told ∙ ap report_of same in (
      ap (λ (t : VerifyReport). t.start) tells ∙ same_lsn (record { 0 = is.member.manifest.start }) start (sym is.listed.label.1 ∙ ap (λ (at : Lsn). at.0) is.starts),
      ap (λ (t : VerifyReport). t.end) tells ∙ same_lsn (record { 0 = is.member.manifest.end }) end is.ends,
    )
verified known name start end files old new (Err (verify.Site fault)) is told does = tt
verified known name start end files old new (Err (verify.Directory refusal)) is told does = λ of_files.
    known.listed files is.member refusal.fault of_files is.listed (at_told (old.areas (backup_name name)).files files (λ m. HasRefusal m refusal) told does.1.refused).0

pub answered_verified : KnownOfHeads → KnownOfDirectories → AnsweredBackupsAreVerified
answered_verified heads known when before left old new report done name start end r tells line answered same does_verify =
    let is = answered_listed heads when before left report done name start end tells line answered in
    verified known name start end is.0 old new r is.2 (same ∙ is.1) does_verify
