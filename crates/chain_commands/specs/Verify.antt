-- `verify`: what checking the directory of a backup does, prints and ends with.
use Rattle.std.specs.Prelude.{◌≡◌, ℕ, Bool, true, false, List, [], ◌∷◌, ◌++◌, length, Result, Ok, Err, IfSome, codes}
use Rattle.std.specs.Option.{is_some}
use Rattle.std.specs.Fmt.{decimal}
use Rattle.lsn_core.specs.Causes.{Rose}
use Rattle.lsn_core.specs.Files.{Files}
use Rattle.lsn_core.specs.Names.{lsn_bytes}
use Rattle.lsn_core.specs.declared.lsn.Lsn.{Lsn}
use Rattle.vault.specs.Site.{AreaState}
use Rattle.chain_check.specs.Directory.{IsAsListed}
use Rattle.chain_check.specs.Refusals.{HasRefusal}
use Rattle.chain_check.specs.declared.member.Member.{Member}
use Rattle.chain_check.specs.declared.refusal.Refusal.{Refusal}
use Rattle.chain_check.specs.declared.fault.ChainFault.TheVariants.{Failed}
use Rattle.command_base.specs.declared.status.Status.{Status}
use Rattle.command_base.specs.declared.status.Status.TheVariants as status
use Rattle.command_base.specs.Areas.{backup_name}
use Rattle.command_base.specs.Outside.{Outside, Works, Untakens, IsUntaken}
use Rattle.command_base.specs.Faults.{refused_line, take_text, area_status}
use Rattle.chain_commands.specs.declared.verifying.VerifyReport.{VerifyReport}
use Rattle.chain_commands.specs.declared.verifying.VerifyFault.{VerifyFault}
use Rattle.chain_commands.specs.declared.verifying.VerifyFault.TheVariants as verify
use Rattle.chain_commands.specs.Directory.{directory_text, directory_status}

abbrev pub VerifyResult : Type 0
VerifyResult = Result VerifyReport VerifyFault

-- ---- what `verify` comes to

-- what is told of a backup: it is incremental where its label tells a prior
abbrev pub report_of : Member → VerifyReport
report_of member = record {
  incremental = is_some member.label.prior;
  start = record { 0 = member.manifest.start };
  end = record { 0 = member.manifest.end };
  rows = length member.manifest.files;
}

-- the files are those of the backup of a name, as its manifest lists them, and this is told of it
pub record VerifyDone (name : List ℕ) (report : VerifyReport) (files : Files) : Type 0 where
  pub member : Member
  pub named : member.name ≡ name
  pub listed : IsAsListed files member
  pub told : report ≡ report_of member

-- the directory is refused for this fault, which is its first one, behind so many files that are as
-- listed; or its area failed, or memory ran out
pub record DirectoryRefused (old new : AreaState) (refusal : Refusal) : Type 0 where
  pub refused : IfSome old.files (λ files. HasRefusal files refusal)
  pub failed : refusal.fault ≡ Failed → Rose old.faults new.faults

-- why `verify` of a backup of this name comes to its answer, where an area that isn't handed out
-- means this
abbrev pub VerifyAnswer :
    List ℕ → Untakens → AreaState → AreaState → VerifyResult → Type 0
VerifyAnswer name Untaken old new (Ok report) = IfSome old.files (VerifyDone name report)
VerifyAnswer name Untaken old new (Err (verify.Site fault)) = Untaken fault
VerifyAnswer name Untaken old new (Err (verify.Directory refusal)) =
    DirectoryRefused old new refusal

-- the same of the whole outside, in this area
abbrev pub VerifyRan : List ℕ → List ℕ → Outside → Outside → VerifyResult → Type 0
VerifyRan area name old new r =
    VerifyAnswer name (IsUntaken (area ∷ []) old new) (old.areas area) (new.areas area) r

-- `verify` of the backup of this name. No file changes
abbrev pub VerifyDoes : List ℕ → Outside → Outside → VerifyResult → Type 0
VerifyDoes name old new r = Works [] old new × VerifyRan (backup_name name) name old new r

-- ---- what it prints, where this is the backup's name, and its status

abbrev pub kind_text : Bool → List ℕ
kind_text true = codes "incremental"
kind_text false = codes "full"

-- the range of a backup in the WAL, and how many files it has
abbrev pub range_text : Lsn → Lsn → ℕ → List ℕ
range_text start end rows = lsn_bytes start.0 ++ (32 ∷ (lsn_bytes end.0 ++ (32 ∷ decimal rows)))

abbrev pub kind_line : List ℕ → List ℕ → List ℕ → List ℕ
kind_line name kind range =
    codes "verified " ++ (name ++ (32 ∷ (kind ++ (32 ∷ (range ++ (10 ∷ []))))))

abbrev pub verified_line : List ℕ → VerifyReport → List ℕ
verified_line name report =
    kind_line name (kind_text report.incremental)
    (range_text report.start report.end report.rows)

abbrev pub verify_fault_text : List ℕ → VerifyFault → List ℕ
verify_fault_text name (verify.Site fault) = take_text fault
verify_fault_text name (verify.Directory refusal) = directory_text name refusal.fault

abbrev pub verify_text : List ℕ → VerifyResult → List ℕ
verify_text name (Ok report) = verified_line name report
verify_text name (Err fault) = refused_line (verify_fault_text name fault)

abbrev pub verify_status : VerifyResult → Status
verify_status (Ok report) = status.Done
verify_status (Err (verify.Site fault)) = area_status fault.why
verify_status (Err (verify.Directory refusal)) = directory_status refusal.fault
