-- A check of what the area of a directory holds has one answer.
use Rattle.std.proofs.Common.{◌≡◌, List, ℕ, true, Some, Result, Ok, Err, sym, ap, ◌∙◌}
use Rattle.lsn_core.specs.Files.{Files}
use Rattle.vault.specs.declared.lending.TakeFault.{TakeFault}
use Rattle.vault.specs.Site.{AreaState}
use Rattle.chain_check.specs.declared.refusal.Refusal.{Refusal}
use Rattle.chain_check.specs.declared.fault.ChainFault.{ChainFault}
use Rattle.chain_check.specs.declared.fault.ChainFault.TheVariants as chain
use Rattle.chain_check.specs.Refusals.{IsOfFiles, HasRefusal}
use Rattle.chain_check.specs.Laws.{DirectoriesAreOneMember, ListedIsNotRefused, RefusalsAreOne}
use Rattle.command_base.specs.Areas.{backup_name}
use Rattle.command_base.proofs.Told.{some_told, at_told}
use Rattle.chain_commands.specs.declared.verifying.VerifyReport.{VerifyReport}
use Rattle.chain_commands.specs.declared.verifying.VerifyFault.{VerifyFault}
use Rattle.chain_commands.specs.declared.verifying.VerifyFault.TheVariants as verify
use Rattle.chain_commands.specs.Directory.{directory_status}
use Rattle.chain_commands.specs.Verify.{report_of, VerifyDone, VerifyAnswer, verify_status}
use Rattle.command_base.specs.Decided.{is_decided}
use Rattle.chain_commands.specs.Laws.{HasOneVerify}
use Rattle.command_base.proofs.Decided.{undecided}

-- what is decided the files decide
pub of_directory : (fault : ChainFault) → is_decided (directory_status fault) ≡ true → IsOfFiles fault
of_directory chain.NoManifest e = (λ f. absurd cc, λ f. absurd cc)
of_directory (chain.ManifestDamaged why) e = (λ f. absurd cc, λ f. absurd cc)
of_directory (chain.ManifestVersion v) e = (λ f. absurd cc, λ f. absurd cc)
of_directory (chain.TimelineDiffers v) e = (λ f. absurd cc, λ f. absurd cc)
of_directory (chain.FileMissing path) e = (λ f. absurd cc, λ f. absurd cc)
of_directory (chain.FileSize path have listed) e = (λ f. absurd cc, λ f. absurd cc)
of_directory (chain.FileSum path) e = (λ f. absurd cc, λ f. absurd cc)
of_directory (chain.FileExtra path) e = (λ f. absurd cc, λ f. absurd cc)
of_directory (chain.LabelDamaged line) e = (λ f. absurd cc, λ f. absurd cc)
of_directory (chain.FileDamaged path why) e = (λ f. absurd cc, λ f. absurd cc)
of_directory chain.Failed e = absurd cc
of_directory chain.NoMemory e = absurd cc

-- ---- what was found

same_report : DirectoriesAreOneMember → (name : List ℕ) (a b : VerifyReport) (files : Files) → VerifyDone name a files → VerifyDone name b files → a ≡ b
same_report one_member name a b files first second =
    first.told ∙ ap report_of (one_member files first.member second.member (first.named ∙ sym second.named) first.listed second.listed) ∙ sym second.told

found_of : VerifyReport → Result VerifyReport VerifyFault
found_of report = Ok report

refused_by : Refusal → Result VerifyReport VerifyFault
refused_by refusal = Err (verify.Directory refusal)

-- ---- the answers

verify_once : DirectoriesAreOneMember → ListedIsNotRefused → RefusalsAreOne → (name : List ℕ) (Untaken Also : TakeFault → Type 0) (old new other : AreaState) (files : Files) (a b : Result VerifyReport VerifyFault) → old.files ≡ Some files → VerifyAnswer name Untaken old new a → VerifyAnswer name Also old other b
    → is_decided (verify_status a) ≡ true → is_decided (verify_status b) ≡ true → a ≡ b
unfolding found_of refused_by
verify_once one_member not_refused one_refusal name Untaken Also old new other files (Err (verify.Site f)) b told first second own also = absurd (undecided f.why own)
verify_once one_member not_refused one_refusal name Untaken Also old new other files (Ok a) (Err (verify.Site g)) told first second own also = absurd (undecided g.why also)
verify_once one_member not_refused one_refusal name Untaken Also old new other files (Err (verify.Directory f)) (Err (verify.Site g)) told first second own also = absurd (undecided g.why also)
verify_once one_member not_refused one_refusal name Untaken Also old new other files (Ok a) (Ok b) told first second own also =
    ap found_of (same_report one_member name a b files (at_told old.files files (VerifyDone name a) told first) (at_told old.files files (VerifyDone name b) told second))
verify_once one_member not_refused one_refusal name Untaken Also old new other files (Ok a) (Err (verify.Directory g)) told first second own also =
    let done = at_told old.files files (VerifyDone name a) told first in
    absurd (not_refused files done.member g.fault (of_directory g.fault also) done.listed (at_told old.files files (λ m. HasRefusal m g) told second.refused).0)
verify_once one_member not_refused one_refusal name Untaken Also old new other files (Err (verify.Directory f)) (Ok b) told first second own also =
    let done = at_told old.files files (VerifyDone name b) told second in
    absurd (not_refused files done.member f.fault (of_directory f.fault own) done.listed (at_told old.files files (λ m. HasRefusal m f) told first.refused).0)
verify_once one_member not_refused one_refusal name Untaken Also old new other files (Err (verify.Directory f)) (Err (verify.Directory g)) told first second own also =
    ap refused_by (one_refusal files f g (of_directory f.fault own) (of_directory g.fault also) (at_told old.files files (λ m. HasRefusal m f) told first.refused) (at_told old.files files (λ m. HasRefusal m g) told second.refused))

pub one_verify : DirectoriesAreOneMember → ListedIsNotRefused → RefusalsAreOne → HasOneVerify
one_verify one_member not_refused one_refusal name old new other a b told first second own also =
    let files = some_told (old.areas (backup_name name)).files (told.files (backup_name name)) in
    verify_once one_member not_refused one_refusal name _ _ _ _ _ files.0 a b files.1 first.1 second.1 own also
