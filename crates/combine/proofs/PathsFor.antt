-- The paths of files that stand for others.
use Rattle.std.proofs.Common.{◌≡◌, ◌≢◌, ℕ, suc, Bool, true, false, IsTrue, cond, not, List, [], ◌∷◌, ◌++◌, map, length, get_or, refl, sym, ap, subst, ◌∙◌, arith, append_assoc}
use Rattle.std.specs.Str.{bytes_eq}
use Rattle.std.specs.List.{AllByRecursion}
use Rattle.std.proofs.lemmas.Bool.{false_from_ne_true}
use Rattle.std.proofs.lemmas.List.{append-nil}
use Rattle.std.proofs.lemmas.Slice.Eq.{bytes_eq-Decides}
use Rattle.manifest.specs.declared.listing.FileRow.{FileRow}
use Rattle.backup_files.proofs.Passed.{no_items}
use Rattle.chain_files.specs.Paths.{file_path, IsRelationFile}
use Rattle.chain_files.proofs.Placed.{one_plain}
use Rattle.chain_check.proofs.ForkFiles.{placed_path}
use Rattle.directory_files.proofs.Standing.{never_manifest}
use Rattle.backup_files.specs.Directory.{manifest_name}
use Rattle.combine.specs.Calls.{IsPathFor, ArePathsFor}
use Rattle.combine.specs.Combined.{other_rows}
use Rattle.directory_files.specs.Written.{to_of}
use Rattle.directory_files.specs.declared.targets.Target.{Target}
use Rattle.directory_files.proofs.Directories.{AreOthers}
use Rattle.combine.specs.Inside.{AreTargets, IsTarget}

-- ---- the paths

pub path_of_part : (path to : List ℕ) (folder name : List ℕ) → IsRelationFile folder name → path ≡ file_path folder name true → to ≡ file_path folder name false → IsPathFor path to
path_of_part path to folder name named is to_is = record {
  plain = λ f. to_is ∙ one_plain path (placed_path folder name named is) f;
  kept = λ no. absurd (no (placed_path folder name named is));
}

pub only_part : (path to : List ℕ) (folder name : List ℕ) → IsRelationFile folder name → path ≡ file_path folder name true → to ≡ file_path folder name false → (other : List ℕ) → IsPathFor path other → other ≡ to
only_part path to folder name named is to_is other for = for.plain (placed_path folder name named is) ∙ sym to_is

-- a folder's path is another one than the manifest's
pub part_apart : (folder name : List ℕ) (to : List ℕ) → to ≡ file_path folder name false → to ≢ manifest_name
part_apart folder name to is e = never_manifest folder name false (sym is ∙ e)

-- ---- the files of rows

others : (path : List ℕ) → path ≢ manifest_name → not (bytes_eq path manifest_name) ≡ true
others path apart = ap not (false_from_ne_true (bytes_eq path manifest_name) (λ e. apart ((bytes_eq-Decides path manifest_name).0 e)))

abbrev AllTargets : List FileRow → List FileRow → List Target → Type 0
AllTargets rows left targets = (more : List Target) → AreTargets (other_rows left) more → AreTargets (other_rows rows) (targets ++ more)

pub one_target : (rows left behind : List FileRow) (row : FileRow) (targets now : List Target) (target : Target) → left ≡ row ∷ behind → row.path ≢ manifest_name → IsTarget row.path target → now ≡ targets ++ (target ∷ []) → AllTargets rows left targets → AllTargets rows behind now
one_target rows left behind row targets now target left_is apart is now_is so_far = λ more are.
    let here : AreTargets (other_rows left) (target ∷ more) =
    subst (λ (l : List FileRow). AreTargets (other_rows l) (target ∷ more)) (sym left_is)
    (subst (λ (b : Bool). AreTargets (cond b (row ∷ other_rows behind) (other_rows behind)) (target ∷ more)) (sym (others row.path apart)) (target, more, refl, is, are)) in
    subst (AreTargets (other_rows rows)) (sym (ap (λ (l : List Target). l ++ more) now_is ∙ append_assoc targets (target ∷ []) more)) (so_far (target ∷ more) here)

pub all_targets : (rows left : List FileRow) (targets : List Target) → length left ≡ 0 → AllTargets rows left targets → AreTargets (other_rows rows) targets
all_targets rows left targets none so_far = subst (AreTargets (other_rows rows)) (append-nil targets) (so_far [] (subst (λ (l : List FileRow). AreTargets (other_rows l) []) (sym (no_items left none)) refl))

pub counted : (rows : List FileRow) (targets : List Target) → AreTargets rows targets → length targets ≡ length rows
counted [] targets are = ap length are
counted (row ∷ rows) targets are = ap length are.2 ∙ ap suc (counted rows are.1 are.4)

pub each_target : (rows : List FileRow) (targets : List Target) → AreTargets rows targets → AllByRecursion (λ t. IsTarget t.from t) targets
each_target [] targets are = subst (AllByRecursion (λ t. IsTarget t.from t)) (sym are) tt
each_target (row ∷ rows) targets are =
    subst (AllByRecursion (λ t. IsTarget t.from t)) (sym are.2)
    (subst (λ (path : List ℕ). IsTarget path are.0) (sym are.3.from) are.3, each_target rows are.1 are.4)

-- none of them is the manifest
pub are_others : (targets : List Target) → AllByRecursion (λ t. IsTarget t.from t) targets → AreOthers targets
are_others [] all = tt
are_others (target ∷ targets) all = (all.0.other, are_others targets all.1)

-- the paths of files that stand for those of rows are known
pub paths_known : (rows : List FileRow) (targets : List Target) (paths : List (List ℕ)) → AreTargets rows targets → ArePathsFor rows paths → paths ≡ map to_of targets
paths_known [] targets paths are for = for ∙ sym (ap (map to_of) are)
paths_known (row ∷ rows) targets paths are for =
    for.2 ∙ (ap (λ (p : List ℕ). p ∷ for.1) (are.3.only for.0 for.3) ∙ (ap (λ (l : List (List ℕ)). are.0.to ∷ l) (paths_known rows are.1 for.1 are.4 for.4) ∙ sym (ap (map to_of) are.2)))

pub paths_for : (rows : List FileRow) (targets : List Target) → AreTargets rows targets → ArePathsFor rows (map to_of targets)
paths_for [] targets are = ap (map to_of) are
paths_for (row ∷ rows) targets are = (are.0.to, map to_of are.1, ap (map to_of) are.2, are.3.to, paths_for rows are.1 are.4)

-- what fails isn't so
pub refuted : (b : Bool) (P : Type 0) → b ≡ false → (P → IsTrue b) → P → ⊥
refuted true P e holds p = absurd cc
refuted false P e holds p = let never : false ≡ true = holds p in absurd cc
