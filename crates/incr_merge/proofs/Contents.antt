-- What the files of a merged backup hold.
use Rattle.std.proofs.Common.{◌≡◌, ℕ, Bool, true, false, List, take, Option, Some, None, IfSome, sym, ap, subst, ◌∙◌}
use Rattle.lsn_core.specs.Files.{Files}
use Rattle.incr_file.specs.Form.{pages_bytes}
use Rattle.chain_files.specs.Segments.{chain_pages, forms_at}
use Rattle.chain_files.specs.Sources.{OfChain}
use Rattle.chain_files.specs.Paths.{file_path, IsRelationFile, IsIncrementalPath}
use Rattle.chain_files.proofs.Placed.{one_file}
use Rattle.chain_check.proofs.ForkFiles.{placed_path}
use Rattle.directory_files.specs.declared.targets.Target.{Target}
use Rattle.merged_forms.specs.Merged.{rests_on_plain}
use Rattle.merge_laws.specs.Merged.{kept_bytes}
use Rattle.incr_merge.specs.Inside.{IsJoined, IsTarget, IsContent, IsKept}
use Rattle.incr_merge.proofs.PartFiles.{IsUnrebuilt}

-- ---- segment files

abbrev pub JoinedFor : List Files → List ℕ → List ℕ → List ℕ → Type 0
JoinedFor series bytes folder name = IsJoined series folder name (rests_on_plain (forms_at series folder name)) bytes

pub rebuilt_joined : (told : Option (List Files)) (folder name : List ℕ) (whole : Bool) (bytes : List ℕ) → whole ≡ true → OfChain told (λ series. whole ≡ rests_on_plain (forms_at series folder name)) → OfChain told (λ series. IfSome (chain_pages series folder name) (λ pages. bytes ≡ pages_bytes (take 131072 pages)))
    → OfChain told (λ series. JoinedFor series bytes folder name)
rebuilt_joined None folder name whole bytes so is made = tt
rebuilt_joined (Some series) folder name whole bytes so is made = λ forms. subst (λ b. IsJoined series folder name b bytes) (sym so ∙ is forms) (made forms)

pub merged_joined : (told : Option (List Files)) (folder name : List ℕ) (whole : Bool) (bytes : List ℕ) → whole ≡ false → OfChain told (λ series. whole ≡ rests_on_plain (forms_at series folder name)) → IsUnrebuilt told folder name (λ series. IsJoined series folder name false bytes)
    → OfChain told (λ series. JoinedFor series bytes folder name)
merged_joined None folder name whole bytes so is made = tt
merged_joined (Some series) folder name whole bytes so is made = λ forms.
    let rests : rests_on_plain (forms_at series folder name) ≡ false = sym (is forms) ∙ so in
    subst (λ b. IsJoined series folder name b bytes) (sym rests) (made forms rests)

-- ---- files that stand for others

pub joined_content : (told : Option (List Files)) (target : Target) (bytes : List ℕ) (folder name : List ℕ) → IsRelationFile folder name → target.from ≡ file_path folder name true → OfChain told (λ series. JoinedFor series bytes folder name) → IsContent told target bytes
joined_content None target bytes folder name named spelled made = tt
joined_content (Some series) target bytes folder name named spelled made = λ forms. record {
  joined = λ f.
      let same = one_file folder f.folder name f.name true true named f.placed (sym spelled ∙ f.spelled) in
      subst (JoinedFor series bytes f.folder) same.1.0 (subst (λ (x : List ℕ). JoinedFor series bytes x name) same.0 (made forms));
  kept = λ none. absurd (none (placed_path folder name named spelled));
}

pub kept_content : (told : Option (List Files)) (target : Target) (bytes : List ℕ) → IsTarget told target.from target → (IsIncrementalPath target.from → ⊥) → IsKept told target.to bytes → IsContent told target bytes
kept_content None target bytes is none kept = tt
kept_content (Some series) target bytes is none kept = λ forms. record {
  joined = λ f. absurd (none f);
  kept = λ n first newest begins ends. kept first newest begins ends ∙ ap (kept_bytes first newest) (is.kept none);
}
