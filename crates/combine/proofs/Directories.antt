-- The whole directory of a combined backup.
use Rattle.std.proofs.Common.{◌≡◌, ◌≢◌, ℕ, true, false, List, [], ◌∷◌, length, codes, Option, Some, None, IfSome, ap, subst, ◌∙◌}
use Rattle.std.specs.FinMap.{get}
use Rattle.lsn_core.specs.Files.{Files}
use Rattle.backup_label.specs.Time.{IsTimeText}
use Rattle.manifest.specs.Listing.{Listing}
use Rattle.manifest.specs.declared.listing.FileRow.{FileRow}
use Rattle.backup_files.specs.Directory.{manifest_name}
use Rattle.backup_files.specs.Area.{with_file}
use Rattle.chain_files.specs.Segments.{AllHaveForms}
use Rattle.chain_files.specs.Sources.{OfChain}
use Rattle.chain_files.specs.Paths.{file_path, IsIncrementalPath}
use Rattle.directory_files.specs.Relisted.{File, AreFilesBy}
use Rattle.directory_files.specs.Written.{AreFilesFor, PutsFiles, Relists}
use Rattle.directory_files.specs.declared.targets.Target.{Target}
use Rattle.directory_files.proofs.Directories.{whole_relisted}
use Rattle.combine.specs.Combined.{EndsWith, IsCombined, IsCombinedFile, kept_bytes, other_rows}
use Rattle.combine.specs.Inside.{AreTargets, HasFiles, IsContent, IsContentOf, IsTarget}
use Rattle.combine.proofs.Rebuilt.{rebuilds, rebuilt_bytes}

-- ---- files

combined_file : (chain : List Files) (newest : Files) (path : List ℕ) (target : Target) (bytes : List ℕ) → EndsWith chain newest → AllHaveForms chain → get newest path ≢ None → IsTarget path target → IsContentOf chain target bytes → IsCombinedFile chain newest path (target.to, bytes)
combined_file chain newest path target bytes ends forms there is content = record {
  rebuilt = λ f.
      let from : IsIncrementalPath target.from = record { folder = f.folder; name = f.name; placed = f.placed; spelled = is.from ∙ f.spelled } in
      let r = rebuilds chain newest f.folder f.name ends forms f.placed (λ none. there (ap (get newest) f.spelled ∙ none)) in
      let whole = rebuilt_bytes chain f.folder f.name bytes r (content.rebuilt from) in
      (r.0, r.1, ap (λ (p : List ℕ). (p, bytes)) (is.to.plain f) ∙ ap (λ (b : List ℕ). (file_path f.folder f.name false, b)) whole);
  kept = λ none.
      let kept : bytes ≡ kept_bytes newest target.from = content.kept (λ f. none (subst (λ (p : List ℕ). IsIncrementalPath p) is.from f)) newest ends in
      ap (λ (p : List ℕ). (p, bytes)) (is.to.kept none) ∙ ap (λ (b : List ℕ). (path, b)) (kept ∙ ap (kept_bytes newest) is.from);
}

combined_files : (chain : List Files) (newest : Files) (rows : List FileRow) (targets : List Target) (files : List File) → EndsWith chain newest → AllHaveForms chain → HasFiles newest rows → AreTargets rows targets → AreFilesFor (IsContent (Some chain)) targets files → AreFilesBy (IsCombinedFile chain newest) rows files
combined_files chain newest [] targets files ends forms there are for = subst (λ (l : List Target). AreFilesFor (IsContent (Some chain)) l files) are for
combined_files chain newest (row ∷ rows) targets files ends forms there are for =
    let here = subst (λ (l : List Target). AreFilesFor (IsContent (Some chain)) l files) are.2 for in
    ((are.0.to, here.0), here.1, here.2, combined_file chain newest row.path are.0 here.0 ends forms there.0 are.3 (here.3 forms), combined_files chain newest rows are.1 here.1 ends forms there.1 are.4 here.4)

-- ---- the whole

pub whole_combined : (told : Option (List Files)) (m : Listing) (targets : List Target) (when count : ℕ) (modified text : List ℕ) (mid new : Option Files) (rows : List FileRow) → AreTargets (other_rows m.files) targets → IsTimeText when (codes "GMT") modified → PutsFiles (IsContent told) targets modified mid rows → Relists m rows text
    → count ≡ length rows → new ≡ with_file manifest_name text mid → OfChain told (λ chain. (newest : Files) → EndsWith chain newest → HasFiles newest (other_rows m.files) → IfSome new (IsCombined chain newest m when count))
whole_combined None m targets when count modified text mid new rows are moment puts lists counted put = tt
whole_combined (Some chain) m targets when count modified text mid new rows are moment puts lists counted put = λ forms newest ends there.
    whole_relisted (IsCombinedFile chain newest) (IsContent (Some chain)) m targets when count modified text mid new rows moment puts lists counted put
    (combined_files chain newest (other_rows m.files) targets puts.files ends forms there are puts.stand_for)
