-- What a finished backup leaves is what its manifest lists.
use Rattle.std.specs.Prelude.{◌≡◌, ◌⊎◌, ℕ, ◌<◌, Bool, true, List, map, Option, Some, Ok, Err}
use Rattle.lsn_core.specs.Files.{Files}
use Rattle.lsn_core.specs.Segment.{StoreSettings, IsRelseg}
use Rattle.lsn_core.specs.Store.{Store}
use Rattle.lsn_core.specs.declared.ids.ForkLen.{ForkLen}
use Rattle.lsn_core.specs.declared.lsn.Lsn.{Lsn}
use Rattle.vault.specs.Site.{Areas}
use Rattle.history.specs.Entry.{Entry}
use Rattle.wal_summary.specs.Summary.{AreSorted}
use Rattle.backup_label.specs.Label.{HasNoLineEnd}
use Rattle.backup_files.specs.Directory.{listing_with}
use Rattle.backup_sending.specs.declared.basis.Basis.{Basis}
use Rattle.backup_sending.specs.Directory.{IsDirectory, IsFullBackup, full_label, incr_label}
use Rattle.backup_sending.specs.Sent.{SentFile, AreListed, AreSent, file_of}
use Rattle.chain_check.specs.Directory.{IsAsListed}
use Rattle.chain_check.specs.Refusals.{IsOfFiles}
use Rattle.chain_check.specs.declared.member.Member.{Member}
use Rattle.manifest.specs.declared.listing.FileRow.{FileRow}
use Rattle.command_base.specs.Areas.{backup_name, AreaIsDurable}
use Rattle.command_base.specs.Outside.{Outside}
use Rattle.run_answers.specs.declared.outcome.RunReport.{RunReport}
use Rattle.run_command.specs.Run.{RunDoes, RunDone}
use Rattle.chain_commands.specs.Verify.{VerifyResult, VerifyDoes}
use Rattle.chain_commands.specs.declared.verifying.VerifyFault.TheVariants as verify
use Rattle.backup_laws.specs.Runs.{IsBackedUp}
use Rattle.backup_laws.specs.Chains.{IsIncremented, TellsThroughout}

-- ---- full backups

-- the member that a full backup of a name is, which was begun at a moment, by its text, and whose
-- manifest has these rows
abbrev pub full_member :
    StoreSettings → List ℕ → Lsn → Lsn → Lsn → List ℕ → List FileRow → Member
full_member settings name start checkpoint end begun rows = record {
  name = name;
  label = full_label start checkpoint begun name;
  manifest = listing_with settings.system rows start end;
}

-- the files of a full backup under a name that ends no line are those of such a member, as its
-- manifest lists them
abbrev pub FinishedBackupsAreListed : Type 0
FinishedBackupsAreListed =
    (settings : StoreSettings) (name : List ℕ) (when : ℕ) (copy : Store)
    (start checkpoint end : Lsn) (count : ℕ) (files : Files)
    (backup : IsFullBackup settings name when copy start checkpoint end count (Some files))
    → 0 < settings.relseg → HasNoLineEnd name
    → IsAsListed files
    (full_member settings name start checkpoint end backup.begun backup.rows)

-- ---- incremental backups

-- an area's files are the directory of an incremental backup of a name, over a prior one that
-- starts at a place: those of the forks of a list, each as it is planned by the prior one's
-- manifest and by a summary, whose forks are in order. Where areas tell, each fork was listed and
-- each page copied while a history was written
pub record IsIncrBackup
    (tells : Type 0) (settings : StoreSettings) (name : List ℕ) (when : ℕ) (history : List Entry)
    (start checkpoint prior end : Lsn) (count : ℕ) (files : Option Files)
    : Type 0 where
  pub basis : Basis
  pub relseg : basis.relseg ≡ settings.relseg
  pub sorted : AreSorted basis.summary.forks
  pub list : List ForkLen
  pub listed : AreListed tells history start.0 end.0 list
  pub sent : List SentFile
  pub are_sent : AreSent tells history start.0 end.0 basis list sent
  pub directory : IsDirectory settings (λ begun. incr_label start checkpoint prior begun name) when
      (map file_of sent) start end count files

-- the member that it is, with the prior one's start in its label
abbrev pub incr_member :
    StoreSettings → List ℕ → Lsn → Lsn → Lsn → Lsn → List ℕ → List FileRow → Member
incr_member settings name start checkpoint prior end begun rows = record {
  name = name;
  label = incr_label start checkpoint prior begun name;
  manifest = listing_with settings.system rows start end;
}

-- its files under a name that ends no line are those of such a member, as its manifest lists them
abbrev pub FinishedIncrementsAreListed : Type 0
FinishedIncrementsAreListed =
    (tells : Bool) (settings : StoreSettings) (name : List ℕ) (when : ℕ) (history : List Entry)
    (start checkpoint prior end : Lsn) (count : ℕ) (files : Files)
    (backup : IsIncrBackup (tells ≡ true) settings name when history start checkpoint prior end
    count (Some files))
    → IsRelseg settings.relseg → HasNoLineEnd name
    → IsAsListed files
    (incr_member settings name start checkpoint prior end backup.directory.begun
    backup.directory.rows)

-- ---- the backups that a run answered

-- files are those of a backup of a name, from one place to another, as its manifest lists them
pub record IsListedBackup (name : List ℕ) (start end : Lsn) (files : Files) : Type 0 where
  pub member : Member
  pub named : member.name ≡ name
  pub starts : member.label.start ≡ start
  pub ends : member.manifest.end ≡ end.0
  pub listed : IsAsListed files member

-- where the areas that a run asks for tell their files all the while, each backup that it answered,
-- full or incremental, under a name that ends no line, is one when the run ends, durably, however
-- it ends
abbrev pub AnsweredBackupsAreListed : Type 0
AnsweredBackupsAreListed =
    (when : ℕ) (before left : Areas) (report : RunReport) (run : RunDone when before left report)
    (name : List ℕ) (start end : Lsn)
    → TellsThroughout when before left report run → HasNoLineEnd name
    → IsBackedUp report.told name start end ⊎ IsIncremented report.told name start end
    → (files : Files) × ((left (backup_name name)).files ≡ Some files)
    × IsListedBackup name start end files × AreaIsDurable (left (backup_name name))

-- such is the name of each backup that `run` answered on the script of its input
abbrev pub AnsweredNamesAreLines : Type 0
AnsweredNamesAreLines =
    (days : ℕ) (before left : Outside) (report : RunReport) (name : List ℕ) (start end : Lsn)
    → RunDoes days before left (Ok report)
    → IsBackedUp report.told name start end ⊎ IsIncremented report.told name start end
    → HasNoLineEnd name

-- `verify` took a backup, and told its range; or the area wasn't handed out, its device failed or
-- memory ran out. It refused it for nothing that the files decide
abbrev pub IsVerified : Lsn → Lsn → VerifyResult → Type 0
IsVerified start end (Ok report) = (report.start ≡ start) × (report.end ≡ end)
IsVerified start end (Err (verify.Site fault)) = Unit {0}
IsVerified start end (Err (verify.Directory refusal)) = IsOfFiles refusal.fault → ⊥

-- so `verify` takes it, of the files that the run left
abbrev pub AnsweredBackupsAreVerified : Type 0
AnsweredBackupsAreVerified =
    (when : ℕ) (before left : Areas) (old new : Outside) (report : RunReport)
    (run : RunDone when before left report) (name : List ℕ) (start end : Lsn) (r : VerifyResult)
    → TellsThroughout when before left report run → HasNoLineEnd name
    → IsBackedUp report.told name start end ⊎ IsIncremented report.told name start end
    → (old.areas (backup_name name)).files ≡ (left (backup_name name)).files
    → VerifyDoes name old new r → IsVerified start end r
