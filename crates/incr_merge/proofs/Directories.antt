-- The whole directory of a merged backup.
use Rattle.std.proofs.Common.{◌≡◌, ◌≢◌, ℕ, true, List, [], ◌∷◌, length, codes, Option, Some, None, IfSome, ap, subst, ◌∙◌}
use Rattle.std.specs.FinMap.{get}
use Rattle.lsn_core.specs.Files.{Files}
use Rattle.backup_label.specs.Time.{IsTimeText}
use Rattle.manifest.specs.Listing.{Listing}
use Rattle.manifest.specs.declared.listing.FileRow.{FileRow}
use Rattle.backup_files.specs.Directory.{manifest_name}
use Rattle.backup_files.specs.Area.{with_file}
use Rattle.chain_files.specs.Segments.{AllHaveForms}
use Rattle.chain_files.specs.Sources.{OfChain}
use Rattle.chain_files.specs.Paths.{IsIncrementalPath}
use Rattle.directory_files.specs.Relisted.{File, AreFilesBy, other_rows}
use Rattle.directory_files.specs.Written.{AreFilesFor, PutsFiles, Relists}
use Rattle.directory_files.specs.declared.targets.Target.{Target}
use Rattle.directory_files.proofs.Directories.{whole_relisted}
use Rattle.merge_laws.specs.Merged.{BeginsWith, EndsWith, IsMerged, IsMergedFile, kept_bytes}
use Rattle.incr_merge.specs.Inside.{AreTargets, HasFiles, IsContent, IsContentOf, IsTarget}
use Rattle.incr_merge.proofs.Forms.{file_of_form}

-- ---- files

merged_file : (series : List Files) (first newest : Files) (path : List ℕ) (target : Target) (bytes : List ℕ) → BeginsWith series first → EndsWith series newest → AllHaveForms series → get newest path ≢ None → IsTarget (Some series) path target → IsContentOf series target bytes
    → IsMergedFile series first newest path (target.to, bytes)
merged_file series first newest path target bytes begins ends forms there is content = record {
  merged = λ f.
      let from : IsIncrementalPath target.from = record { folder = f.folder; name = f.name; placed = f.placed; spelled = is.from ∙ f.spelled } in
      file_of_form series newest f.folder f.name target.to bytes ends forms f.placed (λ none. there (ap (get newest) f.spelled ∙ none)) (content.joined from) ((is.to forms).merged f);
  kept = λ none.
      let kept : bytes ≡ kept_bytes first newest target.from = content.kept (λ f. none (subst (λ (p : List ℕ). IsIncrementalPath p) is.from f)) first newest begins ends in
      ap (λ (p : List ℕ). (p, bytes)) (is.kept none) ∙ ap (λ (b : List ℕ). (path, b)) (kept ∙ ap (kept_bytes first newest) is.from);
}

merged_files : (series : List Files) (first newest : Files) (rows : List FileRow) (targets : List Target) (files : List File) → BeginsWith series first → EndsWith series newest → AllHaveForms series → HasFiles newest rows → AreTargets (Some series) rows targets → AreFilesFor (IsContent (Some series)) targets files
    → AreFilesBy (IsMergedFile series first newest) rows files
merged_files series first newest [] targets files begins ends forms there are for = subst (λ (l : List Target). AreFilesFor (IsContent (Some series)) l files) are for
merged_files series first newest (row ∷ rows) targets files begins ends forms there are for =
    let here = subst (λ (l : List Target). AreFilesFor (IsContent (Some series)) l files) are.2 for in
    ((are.0.to, here.0), here.1, here.2, merged_file series first newest row.path are.0 here.0 begins ends forms there.0 are.3 (here.3 forms), merged_files series first newest rows are.1 here.1 begins ends forms there.1 are.4 here.4)

-- ---- the whole

pub whole_merged : (told : Option (List Files)) (m : Listing) (targets : List Target) (when count : ℕ) (modified text : List ℕ) (mid new : Option Files) (rows : List FileRow) → AreTargets told (other_rows m.files) targets → IsTimeText when (codes "GMT") modified → PutsFiles (IsContent told) targets modified mid rows → Relists m rows text
    → count ≡ length rows → new ≡ with_file manifest_name text mid
    → OfChain told (λ series. (first newest : Files) → BeginsWith series first → EndsWith series newest → HasFiles newest (other_rows m.files) → IfSome new (IsMerged series first newest m when count))
whole_merged None m targets when count modified text mid new rows are moment puts lists counted put = tt
whole_merged (Some series) m targets when count modified text mid new rows are moment puts lists counted put = λ forms first newest begins ends there.
    whole_relisted (IsMergedFile series first newest) (IsContent (Some series)) m targets when count modified text mid new rows moment puts lists counted put
    (merged_files series first newest (other_rows m.files) targets puts.files begins ends forms there are puts.stand_for)
