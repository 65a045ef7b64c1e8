-- Files that are kept, and the label.
use Rattle.std.proofs.Common.{◌≡◌, ℕ, ◌≤◌, zero, suc, Bool, false, cond, List, [], ◌∷◌, length, get_or, Option, Some, None, IfSome, sym, ap, ap₂, subst, ◌∙◌, arith}
use Rattle.std.specs.Prelude.{slice_get}
use Rattle.std.specs.Str.{bytes_eq}
use Rattle.lsn_core.specs.byte_words.Numbers.{◌>>=◌}
use Rattle.lsn_core.specs.Files.{Files}
use Rattle.vault.specs.Area.{bytes_of}
use Rattle.vault.specs.Whole.{HoldsFile}
use Rattle.vault.specs.declared.area.Vault.{Ghosts}
use Rattle.vault.specs.declared.lending.Held.{Held}
use Rattle.backup_files.specs.Directory.{label_name}
use Rattle.backup_files.proofs.Passed.{no_items}
use Rattle.chain_files.specs.Told.{chain_told, told_at}
use Rattle.chain_files.proofs.Told.{member_told}
use Rattle.combine.specs.Inside.{IsLast}
use Rattle.combine.proofs.Contents.{last_told, when_all}
use Rattle.directory_files.proofs.Standing.{same_path}
use Rattle.merge_laws.specs.Merged.{BeginsWith, EndsWith, merged_label, kept_bytes}
use Rattle.incr_merge.specs.Inside.{IsKept}

-- two labels that were read
pub label_told : (one two : Option Files) (path first newest text : List ℕ) → HoldsFile one path first → HoldsFile two path newest → text ≡ merged_label first newest → IfSome one (λ f. IfSome two (λ n. text ≡ merged_label (bytes_of f path) (bytes_of n path)))
label_told None two path first newest text first_is newest_is is = tt
label_told (Some f) None path first newest text first_is newest_is is = tt
label_told (Some f) (Some n) path first newest text first_is newest_is is = is ∙ ap₂ merged_label first_is newest_is

some_of : {A : Type 0} (o : Option A) (x : A) (P : A → Type 0) → o ≡ Some x → IfSome o P → P x
some_of None x P e p = absurd cc
some_of (Some y) x P e p = let same : y ≡ x = cc in subst P same p

pub first_place : (places : List ℕ) (place d : ℕ) → 1 ≤ length places → place ≡ get_or places 0 d → slice_get places 0 ≡ Some place
first_place [] place d some is = absurd (omega (arith, some))
first_place (p ∷ places) place d some is = ap (λ (n : ℕ). Some n) (sym is)

pub last_place : (places : List ℕ) (n d : ℕ) → length places ≡ suc n → IsLast places (get_or places n d)
last_place [] n d e = absurd (omega (arith, e))
last_place (p ∷ places) zero d e = ([], ap (λ (l : List ℕ). p ∷ l) (no_items places (omega (arith, e))))
last_place (p ∷ places) (suc n) d e =
    let rest = last_place places n d (omega (arith, e)) in
    (p ∷ rest.0, ap (λ (l : List ℕ). p ∷ l) rest.1)

-- the first place's area tells the first directory
first_told : {V : Type 0} (g : Ghosts V) (areas : List (Held V)) (places : List ℕ) (place : ℕ) (series : List Files) (first : Files) → slice_get places 0 ≡ Some place → chain_told g areas places ≡ Some series → BeginsWith series first → told_at g areas place ≡ Some first
first_told g areas places place series first here told begins =
    sym (ap (λ (o : Option ℕ). o >>= told_at g areas) here) ∙ (sym (member_told g areas places series 0 told) ∙ ap (λ (l : List Files). slice_get l 0) begins.1)

kept_label_is : (first newest : Files) (path : List ℕ) → path ≡ label_name → merged_label (bytes_of first path) (bytes_of newest path) ≡ kept_bytes first newest path
kept_label_is first newest path is =
    ap (λ (p : List ℕ). merged_label (bytes_of first p) (bytes_of newest p)) is
    ∙ sym (ap (λ (b : Bool). cond b (merged_label (bytes_of first label_name) (bytes_of newest label_name)) (bytes_of newest path)) (same_path path label_name is))

module _ {V : Type 0} (g : Ghosts V) (areas : List (Held V)) (places : List ℕ) (oldest newest : ℕ) (path : List ℕ) where
  pub kept_label : slice_get places 0 ≡ Some oldest → IsLast places newest → path ≡ label_name → (bytes : List ℕ) → IfSome (told_at g areas oldest) (λ first. IfSome (told_at g areas newest) (λ last. bytes ≡ merged_label (bytes_of first path) (bytes_of last path)))
      → IsKept (chain_told g areas places) path bytes
  kept_label here last is bytes made =
      when_all (chain_told g areas places) (λ series. (f n : Files) → BeginsWith series f → EndsWith series n → bytes ≡ kept_bytes f n path)
      (λ series told f n begins ends.
      let one = first_told g areas places oldest series f here told begins in
      let two = last_told g areas places newest series n last told ends in
      some_of (told_at g areas newest) n (λ m. bytes ≡ merged_label (bytes_of f path) (bytes_of m path)) two
      (some_of (told_at g areas oldest) f (λ x. IfSome (told_at g areas newest) (λ m. bytes ≡ merged_label (bytes_of x path) (bytes_of m path))) one made)
      ∙ kept_label_is f n path is)

  pub kept_copy : IsLast places newest → bytes_eq path label_name ≡ false → (bytes : List ℕ) → IfSome (told_at g areas newest) (λ m. bytes ≡ bytes_of m path) → IsKept (chain_told g areas places) path bytes
  kept_copy last other bytes made =
      when_all (chain_told g areas places) (λ series. (f n : Files) → BeginsWith series f → EndsWith series n → bytes ≡ kept_bytes f n path)
      (λ series told f n begins ends.
      some_of (told_at g areas newest) n (λ m. bytes ≡ bytes_of m path) (last_told g areas places newest series n last told ends) made
      ∙ sym (ap (λ (b : Bool). cond b (merged_label (bytes_of f label_name) (bytes_of n label_name)) (bytes_of n path)) other))
