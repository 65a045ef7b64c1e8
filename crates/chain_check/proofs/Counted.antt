-- How many files are found as listed before the first fault.
use Rattle.std.proofs.Common.{◌≡◌, ℕ, ◌+◌, List, [], ◌∷◌, length, not, cond, Option, Some, None, Result, Ok, Err, refl, sym, ap, subst, ◌∙◌, arith}
use Rattle.std.specs.Option.{is_some, option_or}
use Rattle.std.specs.Result.{IsErr, IsErrAnd}
use Rattle.lsn_core.specs.Files.{Files}
use Rattle.manifest.specs.Listing.{Listing}
use Rattle.manifest.specs.declared.listing.FileRow.{FileRow}
use Rattle.chain_check.specs.Directory.{HasManifest}
use Rattle.chain_check.specs.Refusals.{row_fault, rows_fault, rows_checked, others_fault, listing_fault, RefusedFor, IsCheckedBefore}
use Rattle.chain_check.specs.Inside.{Answers, CountsRows, RowsAnswer, BehindAnswer, ListedAnswer}
use Rattle.chain_check.specs.declared.refusal.Refusal.{Refusal}
use Rattle.chain_check.specs.declared.fault.ChainFault.{ChainFault}
use Rattle.chain_check.specs.declared.fault.ChainFault.TheVariants.{NoManifest, ManifestDamaged, ManifestVersion, TimelineDiffers, FileMissing, FileSize, FileSum, FileExtra, LabelDamaged, FileDamaged, Failed, NoMemory}
use Rattle.chain_check.proofs.Turns.{neither}

-- ---- row by row

past_none : (rest : ℕ) (o : Option ChainFault) → o ≡ None → cond (not (is_some o)) (1 + rest) 0 ≡ 1 + rest
past_none rest None e = refl
past_none rest (Some found) e = absurd (cc)

one_more : (files : Files) (row : FileRow) (behind : List FileRow) → row_fault files row ≡ None → rows_checked files (row ∷ behind) ≡ 1 + rows_checked files behind
one_more files row behind e = past_none (rows_checked files behind) (row_fault files row) e

all_checked : (files : Files) (rows : List FileRow) → rows_fault files rows ≡ None → rows_checked files rows ≡ length rows
all_checked files [] e = refl
all_checked files (row ∷ rows) e =
    let both = neither (row_fault files row) (rows_fault files rows) e in
    omega (arith, one_more files row rows both.0, all_checked files rows both.1)

-- ---- part by part

-- an error that is passed on
pub passed_on : {T : Type 0} (r : Result T Refusal) (refusal : Refusal) → IsErr r × IsErrAnd r (λ e. e ≡ refusal) → r ≡ Err refusal
passed_on (Ok x) refusal is = absurd is.1
passed_on (Err e) refusal is = ap (λ (x : Refusal). Err x) is.1

of_rows : (files : Files) (m : Listing) (fault : ChainFault) → rows_fault files m.files ≡ Some fault → listing_fault files m.files ≡ Some fault
of_rows files m fault e = ap (λ (o : Option ChainFault). option_or o (others_fault files m.files)) e

by_rows : (files : Files) (m : Listing) (fault : ChainFault) (checked : ℕ) → Answers (rows_fault files m.files) (Err fault) → CountsRows files m.files fault checked → HasManifest files m → RefusedFor files fault × IsCheckedBefore files fault checked
by_rows files m (FileMissing path) checked is counted read = ((m, (read, of_rows files m (FileMissing path) is)), (m, read, counted))
by_rows files m (FileSize path have listed) checked is counted read = ((m, (read, of_rows files m (FileSize path have listed) is)), (m, read, counted))
by_rows files m (FileSum path) checked is counted read = ((m, (read, of_rows files m (FileSum path) is)), (m, read, counted))
by_rows files m (FileExtra path) checked is counted read = ((m, (read, of_rows files m (FileExtra path) is)), (m, read, counted))
by_rows files m Failed checked is counted read = (tt, tt)
by_rows files m NoMemory checked is counted read = (tt, tt)
by_rows files m NoManifest checked is counted read = absurd is
by_rows files m (ManifestDamaged why) checked is counted read = absurd is
by_rows files m (ManifestVersion v) checked is counted read = absurd is
by_rows files m (TimelineDiffers v) checked is counted read = absurd is
by_rows files m (LabelDamaged line) checked is counted read = absurd is
by_rows files m (FileDamaged path why) checked is counted read = absurd is

pub rows_refused : (files : Files) (m : Listing) (refusal : Refusal) → RowsAnswer files m.files (Err refusal) → ListedAnswer files m (Err refusal)
rows_refused files m refusal is read = by_rows files m refusal.fault refusal.checked is.0 is.1 read

of_others : (files : Files) (m : Listing) (o : Option ChainFault) → rows_fault files m.files ≡ None → others_fault files m.files ≡ o → listing_fault files m.files ≡ o
of_others files m o none e = ap (λ (first : Option ChainFault). option_or first (others_fault files m.files)) none ∙ e

by_behind : (files : Files) (m : Listing) (fault : ChainFault) → rows_fault files m.files ≡ None → BehindAnswer files m (Err fault) → HasManifest files m → RefusedFor files fault × IsCheckedBefore files fault (length m.files)
by_behind files m (FileMissing path) none is read = ((m, (read, of_others files m (Some (FileMissing path)) none is)), (m, read, sym (all_checked files m.files none)))
by_behind files m (FileSize path have listed) none is read = ((m, (read, of_others files m (Some (FileSize path have listed)) none is)), (m, read, sym (all_checked files m.files none)))
by_behind files m (FileSum path) none is read = ((m, (read, of_others files m (Some (FileSum path)) none is)), (m, read, sym (all_checked files m.files none)))
by_behind files m (FileExtra path) none is read = ((m, (read, of_others files m (Some (FileExtra path)) none is)), (m, read, sym (all_checked files m.files none)))
by_behind files m (LabelDamaged line) none is read = ((m, (read, of_others files m None none is.0), is.1), (m, read, sym (all_checked files m.files none)))
by_behind files m (FileDamaged path why) none is read = ((m, is.0, ((read, of_others files m None none is.1), is.2), is.3), (m, read, sym (all_checked files m.files none)))
by_behind files m Failed none is read = (tt, tt)
by_behind files m NoMemory none is read = (tt, tt)
by_behind files m NoManifest none is read = absurd is
by_behind files m (ManifestDamaged why) none is read = absurd is
by_behind files m (ManifestVersion v) none is read = absurd is
by_behind files m (TimelineDiffers v) none is read = absurd is

pub behind_refused : (files : Files) (m : Listing) (fault : ChainFault) (checked : ℕ) → rows_fault files m.files ≡ None → checked ≡ length m.files → BehindAnswer files m (Err fault) → ListedAnswer files m (Err (record { fault = fault; checked = checked }))
behind_refused files m fault checked none all is read =
    subst (λ (n : ℕ). RefusedFor files fault × IsCheckedBefore files fault n) (sym all) (by_behind files m fault none is read)
