-- The paths of files that stand for others.
use Rattle.std.proofs.Common.{◌≡◌, ◌≢◌, ℕ, suc, Bool, true, false, cond, not, List, [], ◌∷◌, ◌++◌, map, length, Option, Some, None, Result, IfErr, refl, sym, ap, ap₂, subst, ◌∙◌, append_assoc}
use Rattle.std.specs.Str.{bytes_eq}
use Rattle.std.specs.List.{AllByRecursion}
use Rattle.std.specs.Result.{IsErrAnd}
use Rattle.std.proofs.lemmas.List.{append-nil}
use Rattle.std.proofs.lemmas.Slice.Eq.{bytes_eq-Decides}
use Rattle.lsn_core.specs.Causes.{Rose}
use Rattle.lsn_core.specs.Files.{Files}
use Rattle.lsn_core.specs.declared.fault.AreaFault.{AreaFault}
use Rattle.lsn_core.specs.declared.fault.AreaFault.TheVariants as area
use Rattle.vault.specs.declared.area.Vault.{Ghosts}
use Rattle.vault.specs.declared.lending.Held.{Held}
use Rattle.manifest.specs.declared.listing.FileRow.{FileRow}
use Rattle.backup_files.specs.Directory.{manifest_name}
use Rattle.backup_files.proofs.Passed.{err_cause, no_items}
use Rattle.backup_files.proofs.Kept.{rose_later}
use Rattle.chain_files.specs.Segments.{AllHaveForms, forms_at}
use Rattle.chain_files.specs.Sources.{OfChain}
use Rattle.chain_files.specs.Told.{faults_at, FailsAt, AllOnlyRead}
use Rattle.chain_files.specs.declared.fault.MemberFault.{MemberFault}
use Rattle.chain_files.proofs.Told.{reads_faults}
use Rattle.chain_files.specs.Paths.{file_path, IsRelationFile, IsIncrementalPath}
use Rattle.chain_files.proofs.Placed.{one_file}
use Rattle.chain_check.proofs.ForkFiles.{placed_path}
use Rattle.directory_files.specs.Faults.{member_fault, why_fault}
use Rattle.directory_files.specs.Relisted.{other_rows}
use Rattle.manifest.specs.Listing.{Listing}
use Rattle.directory_files.specs.Written.{CanList, to_of}
use Rattle.directory_files.specs.declared.fault.WriteFault.{WriteFault}
use Rattle.directory_files.specs.declared.fault.WriteFault.TheVariants as fault
use Rattle.directory_files.specs.declared.targets.Target.{Target}
use Rattle.directory_files.proofs.Directories.{AreOthers}
use Rattle.directory_files.proofs.Standing.{never_manifest, other_path, same_path}
use Rattle.merged_forms.specs.Merged.{rests_on_plain}
use Rattle.incr_merge.specs.Calls.{IsMergedPath, AreMergedPaths}
use Rattle.incr_merge.specs.Inside.{CanPut, ReadCause, IsTarget, AreTargets}

-- ---- one path

pub kept_path : (told : Option (List Files)) (path to : List ℕ) → (IsIncrementalPath path → ⊥) → to ≡ path → OfChain told (λ series. IsMergedPath series path to)
kept_path None path to none is = tt
kept_path (Some series) path to none is = λ forms. record { merged = λ f. absurd (none f); kept = λ no. is }

pub merged_path : (told : Option (List Files)) (path to : List ℕ) (folder name : List ℕ) (whole : Bool) → IsRelationFile folder name → path ≡ file_path folder name true → OfChain told (λ series. whole ≡ rests_on_plain (forms_at series folder name)) → to ≡ file_path folder name (not whole)
    → OfChain told (λ series. IsMergedPath series path to)
merged_path None path to folder name whole named spelled is to_is = tt
merged_path (Some series) path to folder name whole named spelled is to_is = λ forms. record {
  merged = λ f.
      let same = one_file folder f.folder name f.name true true named f.placed (sym spelled ∙ f.spelled) in
      to_is
      ∙ ap (λ (b : Bool). file_path folder name (not b)) (is forms)
      ∙ ap₂ (λ (x s : List ℕ). file_path x s (not (rests_on_plain (forms_at series x s)))) same.0 same.1.0;
  kept = λ no. absurd (no (placed_path folder name named spelled));
}

pub part_kept : (path to : List ℕ) (folder name : List ℕ) → IsRelationFile folder name → path ≡ file_path folder name true → (IsIncrementalPath path → ⊥) → to ≡ path
part_kept path to folder name named spelled none = absurd (none (placed_path folder name named spelled))

pub path_apart : (folder name : List ℕ) (incr : Bool) (to : List ℕ) → to ≡ file_path folder name incr → to ≢ manifest_name
path_apart folder name incr to is e = never_manifest folder name incr (sym is ∙ e)

-- paths that can't differ are equal
stable : (a b : List ℕ) → ((a ≡ b → ⊥) → ⊥) → a ≡ b
stable a b never =
    elim (bytes_eq a b) as (λ s. bytes_eq a b ≡ s → a ≡ b) [
      | true ↦ λ e. (bytes_eq-Decides a b).0 e
      | false ↦ λ e. absurd (never (λ is. let clash : true ≡ false = sym (same_path a b is) ∙ e in cc))
    ] refl

only_path : (series : List Files) (path a b : List ℕ) → IsMergedPath series path a → IsMergedPath series path b → a ≡ b
only_path series path a b x y = stable a b (λ apart.
    let none : IsIncrementalPath path → ⊥ = λ f. apart (x.merged f ∙ sym (y.merged f)) in
    apart (x.kept none ∙ sym (y.kept none)))

-- ---- reading the members fails

module _ {V : Type 0} (g : Ghosts V) where
  why_cause : (areas now : List (Held V)) (place : ℕ) (why : AreaFault) → (why ≡ area.Failed → Rose (faults_at g areas place) (faults_at g now place)) → ReadCause g areas now (why_fault place why)
  why_cause areas now place area.Failed fails = fails refl
  why_cause areas now place area.NoMemory fails = tt

  pub read_failed : {T : Type 0} (areas now : List (Held V)) (r : Result T WriteFault) (why : MemberFault) → IsErrAnd r (λ x. x ≡ member_fault why) → FailsAt g areas now why → IfErr r (ReadCause g areas now)
  read_failed areas now r why is fails = err_cause r (member_fault why) (ReadCause g areas now) is (why_cause areas now why.area why.why fails)

  read_later : (a b c : List (Held V)) (why : WriteFault) → AllOnlyRead g a b → ReadCause g b c why → ReadCause g a c why
  read_later a b c (fault.MemberFailed place) read cause = rose_later (faults_at g a place) (faults_at g b place) (faults_at g c place) (reads_faults g a b read place) cause
  read_later a b c fault.OutFailed read cause = absurd cause
  read_later a b c fault.NoMemory read cause = tt

  pub read_behind : {T : Type 0} (a b c : List (Held V)) (r : Result T WriteFault) (why : WriteFault) → IsErrAnd r (λ x. x ≡ why) → AllOnlyRead g a b → ReadCause g b c why → IfErr r (ReadCause g a c)
  read_behind a b c r why is read cause = err_cause r why (ReadCause g a c) is (read_later a b c why read cause)

-- ---- the files of rows

others : (path : List ℕ) → path ≢ manifest_name → not (bytes_eq path manifest_name) ≡ true
others path apart = ap not (other_path path manifest_name apart)

module _ (told : Option (List Files)) where
  abbrev pub AllTargets : List FileRow → List FileRow → List Target → Type 0
  AllTargets rows left targets = (more : List Target) → AreTargets told (other_rows left) more → AreTargets told (other_rows rows) (targets ++ more)

  pub one_target : (rows left behind : List FileRow) (row : FileRow) (targets now : List Target) (target : Target) → left ≡ row ∷ behind → row.path ≢ manifest_name → IsTarget told row.path target → now ≡ targets ++ (target ∷ []) → AllTargets rows left targets → AllTargets rows behind now
  one_target rows left behind row targets now target left_is apart is now_is so_far = λ more are.
      let here : AreTargets told (other_rows left) (target ∷ more) =
      subst (λ (l : List FileRow). AreTargets told (other_rows l) (target ∷ more)) (sym left_is)
      (subst (λ (b : Bool). AreTargets told (cond b (row ∷ other_rows behind) (other_rows behind)) (target ∷ more)) (sym (others row.path apart)) (target, more, refl, is, are)) in
      subst (AreTargets told (other_rows rows)) (sym (ap (λ (l : List Target). l ++ more) now_is ∙ append_assoc targets (target ∷ []) more)) (so_far (target ∷ more) here)

  pub none_yet : (rows : List FileRow) (targets : List Target) → targets ≡ [] → AllTargets rows rows targets
  none_yet rows targets none = λ more are. subst (AreTargets told (other_rows rows)) (sym (ap (λ (l : List Target). l ++ more) none)) are

  pub all_targets : (rows left : List FileRow) (targets : List Target) → length left ≡ 0 → AllTargets rows left targets → AreTargets told (other_rows rows) targets
  all_targets rows left targets none so_far = subst (AreTargets told (other_rows rows)) (append-nil targets) (so_far [] (subst (λ (l : List FileRow). AreTargets told (other_rows l) []) (sym (no_items left none)) refl))

  pub counted : (rows : List FileRow) (targets : List Target) → AreTargets told rows targets → length targets ≡ length rows
  counted [] targets are = ap length are
  counted (row ∷ rows) targets are = ap length are.2 ∙ ap suc (counted rows are.1 are.4)

  pub each_target : (rows : List FileRow) (targets : List Target) → AreTargets told rows targets → AllByRecursion (λ t. IsTarget told t.from t) targets
  each_target [] targets are = subst (AllByRecursion (λ t. IsTarget told t.from t)) (sym are) tt
  each_target (row ∷ rows) targets are =
      subst (AllByRecursion (λ t. IsTarget told t.from t)) (sym are.2)
      (subst (λ (path : List ℕ). IsTarget told path are.0) (sym are.3.from) are.3, each_target rows are.1 are.4)

  -- none of them is the manifest
  pub are_others : (targets : List Target) → AllByRecursion (λ t. IsTarget told t.from t) targets → AreOthers targets
  are_others [] all = tt
  are_others (target ∷ targets) all = (all.0.other, are_others targets all.1)

-- the paths of files that stand for those of rows are known
paths_in : (series : List Files) (rows : List FileRow) (targets : List Target) → AllHaveForms series → AreTargets (Some series) rows targets → AreMergedPaths series rows (map to_of targets)
paths_in series [] targets forms are = ap (map to_of) are
paths_in series (row ∷ rows) targets forms are = (are.0.to, map to_of are.1, ap (map to_of) are.2, are.3.to forms, paths_in series rows are.1 forms are.4)

pub cannot_merge : (told : Option (List Files)) (rows : List FileRow) (targets : List Target) (P : List (List ℕ) → Type 0) → AreTargets told rows targets → P (map to_of targets) → OfChain told (λ series. (paths : List (List ℕ)) × AreMergedPaths series rows paths × P paths)
cannot_merge None rows targets P are holds = tt
cannot_merge (Some series) rows targets P are holds = λ forms. (map to_of targets, paths_in series rows targets forms are, holds)

paths_known : (series : List Files) (rows : List FileRow) (targets : List Target) (paths : List (List ℕ)) → AllHaveForms series → AreTargets (Some series) rows targets → AreMergedPaths series rows paths → paths ≡ map to_of targets
paths_known series [] targets paths forms are for = for ∙ sym (ap (map to_of) are)
paths_known series (row ∷ rows) targets paths forms are for =
    for.2 ∙ (ap (λ (p : List ℕ). p ∷ for.1) (only_path series row.path for.0 are.0.to for.3 (are.3.to forms))
    ∙ (ap (λ (l : List (List ℕ)). are.0.to ∷ l) (paths_known series rows are.1 for.1 forms are.4 for.4) ∙ sym (ap (map to_of) are.2)))

-- what can be put can be listed, whichever paths stand for those of the rows
pub can_merge : (told : Option (List Files)) (m : Listing) (out : Option Files) (targets : List Target) → CanPut told m out targets → OfChain told (λ series. (paths : List (List ℕ)) → AreMergedPaths series (other_rows m.files) paths → CanList m paths)
can_merge None m out targets can = tt
can_merge (Some series) m out targets can = λ forms paths are. subst (CanList m) (sym (paths_known series (other_rows m.files) targets paths forms can.rows are)) can.listable
