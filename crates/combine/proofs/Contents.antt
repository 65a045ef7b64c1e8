-- What the files of a combined backup hold.
use Rattle.std.proofs.Common.{◌≡◌, ℕ, Bool, true, false, cond, List, [], ◌∷◌, ◌++◌, length, take, Option, Some, None, IfSome, Result, IfOk, refl, sym, ap, subst, ◌∙◌, arith}
use Rattle.std.specs.Prelude.{slice_get}
use Rattle.std.specs.Str.{bytes_eq}
use Rattle.std.proofs.lemmas.List.{length-append}
use Rattle.lsn_core.specs.byte_words.Told.{when_told}
use Rattle.lsn_core.specs.byte_words.Numbers.{◌>>=◌}
use Rattle.lsn_core.specs.Files.{Files}
use Rattle.vault.specs.Area.{bytes_of}
use Rattle.vault.specs.declared.area.Vault.{Ghosts}
use Rattle.vault.specs.declared.lending.Held.{Held}
use Rattle.incr_file.specs.Form.{pages_bytes}
use Rattle.backup_files.specs.Directory.{label_name}
use Rattle.backup_files.proofs.Passed.{ok_more}
use Rattle.chain_files.specs.Segments.{chain_pages, AllHaveForms}
use Rattle.chain_files.specs.Sources.{OfChain}
use Rattle.chain_files.specs.Told.{chain_told, told_at}
use Rattle.chain_files.proofs.Told.{member_told, members_told}
use Rattle.chain_files.specs.Paths.{file_path, IsRelationFile, IsIncrementalPath}
use Rattle.chain_files.proofs.Placed.{one_file}
use Rattle.chain_check.proofs.ForkFiles.{placed_path}
use Rattle.directory_files.specs.Labels.{first_lines}
use Rattle.combine.specs.Combined.{EndsWith, kept_bytes}
use Rattle.combine.specs.Inside.{IsContent, IsContentOf, IsLast, IsTarget}
use Rattle.directory_files.specs.Written.{IsMade}
use Rattle.directory_files.specs.declared.fault.WriteFault.{WriteFault}
use Rattle.directory_files.specs.declared.growing.Growing.{Growing}
use Rattle.directory_files.specs.declared.targets.Target.{Target}

-- what a file holds is also said otherwise
pub made_more : (P Q : List ℕ → Type 0) (path to : List ℕ) (old new : Option Files) (r : Result Growing WriteFault) → path ≡ to → ((bytes : List ℕ) → P bytes → Q bytes) → IfOk r (IsMade P path old new) → IfOk r (IsMade Q to old new)
made_more P Q path to old new r same more made =
    subst (λ (p : List ℕ). IfOk r (IsMade Q p old new)) same
    (ok_more r (IsMade P path old new) (IsMade Q path old new) (λ file is. record { bytes = is.bytes; holds = is.holds; content = more is.bytes is.content; stands = is.stands }) made)

-- ---- files that are kept

pub kept_other : (m : Files) (path : List ℕ) → bytes_eq path label_name ≡ false → kept_bytes m path ≡ bytes_of m path
kept_other m path e = ap (λ (b : Bool). cond b (first_lines 7 (bytes_of m path)) (bytes_of m path)) e

pub other_kept : (told : Option Files) (path bytes : List ℕ) → bytes_eq path label_name ≡ false → IfSome told (λ m. bytes ≡ bytes_of m path) → IfSome told (λ m. bytes ≡ kept_bytes m path)
other_kept None path bytes e is = tt
other_kept (Some m) path bytes e is = is ∙ sym (kept_other m path e)

-- ---- the newest member

at_end : {A : Type 0} (xs : List A) (x : A) → slice_get (xs ++ (x ∷ [])) (length xs) ≡ Some x
at_end [] x = refl
at_end (y ∷ xs) x = at_end xs x

-- the last place's area tells the last directory
pub last_told : {V : Type 0} (g : Ghosts V) (areas : List (Held V)) (places : List ℕ) (place : ℕ) (chain : List Files) (newest : Files) → IsLast places place → chain_told g areas places ≡ Some chain → EndsWith chain newest → told_at g areas place ≡ Some newest
last_told g areas places place chain newest last told ends =
    let k = length last.0 in
    let here : slice_get places k ≡ Some place = ap (λ (l : List ℕ). slice_get l k) last.1 ∙ at_end last.0 place in
    let long : length ends.0 ≡ k = omega (arith, members_told g areas places chain told, ap (λ (l : List Files). length l) ends.1, ap (λ (l : List ℕ). length l) last.1, length-append ends.0 (newest ∷ []), length-append last.0 (place ∷ [])) in
    let there : slice_get chain k ≡ Some newest = ap (λ (l : List Files). slice_get l k) ends.1 ∙ (ap (slice_get (ends.0 ++ (newest ∷ []))) (sym long) ∙ at_end ends.0 newest) in
    sym (ap (λ (o : Option ℕ). o >>= told_at g areas) here) ∙ (sym (member_told g areas places chain k told) ∙ there)

-- where all is told
pub when_all : {A : Type 0} (o : Option A) (P : A → Type 0) → ((x : A) → o ≡ Some x → P x) → IfSome o P
when_all None P step = tt
when_all (Some x) P step = step x refl

-- ---- files that stand for others

pub kept_content : {V : Type 0} (g : Ghosts V) (areas : List (Held V)) (places : List ℕ) (place : ℕ) (target : Target) (bytes : List ℕ) → IsLast places place → IsTarget target.from target → (IsIncrementalPath target.from → ⊥) → IfSome (told_at g areas place) (λ m. bytes ≡ kept_bytes m target.to)
    → IsContent (chain_told g areas places) target bytes
kept_content g areas places place target bytes last is none kept =
    when_all (chain_told g areas places) (λ chain. AllHaveForms chain → IsContentOf chain target bytes) (λ chain told forms. record {
      rebuilt = λ f. absurd (none f);
      kept = λ n newest ends.
          let here : bytes ≡ kept_bytes newest target.to = subst (λ (o : Option Files). IfSome o (λ m. bytes ≡ kept_bytes m target.to)) (last_told g areas places place chain newest last told ends) kept in
          here ∙ ap (kept_bytes newest) (is.to.kept none);
    })

abbrev RebuiltOf : List Files → List ℕ → List ℕ → List ℕ → Type 0
RebuiltOf chain bytes folder name = IfSome (chain_pages chain folder name) (λ pages. bytes ≡ pages_bytes (take 131072 pages))

pub rebuilt_content : (told : Option (List Files)) (target : Target) (bytes : List ℕ) (folder name : List ℕ) → IsRelationFile folder name → target.from ≡ file_path folder name true → OfChain told (λ chain. RebuiltOf chain bytes folder name) → IsContent told target bytes
rebuilt_content told target bytes folder name named spelled rebuilt =
    when_told told (λ chain. AllHaveForms chain → RebuiltOf chain bytes folder name) (λ chain. AllHaveForms chain → IsContentOf chain target bytes)
    (λ chain is forms. record {
      rebuilt = λ f.
          let same = one_file folder f.folder name f.name true true named f.placed (sym spelled ∙ f.spelled) in
          subst (RebuiltOf chain bytes f.folder) same.1.0 (subst (λ (x : List ℕ). RebuiltOf chain bytes x name) same.0 (is forms));
      kept = λ none. absurd (none (placed_path folder name named spelled));
    })
    rebuilt
