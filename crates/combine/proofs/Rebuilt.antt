-- The pages of a file that is incremental in the newest member.
use Rattle.std.proofs.Common.{◌≡◌, ◌≢◌, ℕ, ◌<◌, ◌≤◌, true, false, List, [], ◌∷◌, ◌++◌, map, length, take, reverse, Option, Some, None, IfSome, refl, ap, subst, ◌∙◌, arith}
use Rattle.std.specs.List.{All, AllByRecursion}
use Rattle.std.specs.FinMap.{get}
use Rattle.std.proofs.lemmas.List.{length-map, reverse-append, take_all}
use Rattle.std.proofs.lemmas.List.FromFn.{length-range_with_len}
use Rattle.std.proofs.lemmas.List.Elements.{All-head, All-tail}
use Rattle.lsn_core.specs.Files.{Files}
use Rattle.lsn_core.specs.Store.{ForkPages}
use Rattle.incr_file.specs.Form.{Form, form_in, part_in, past_all, pages_bytes, pages_in_chain, rebuilt_length, rebuilt_pages}
use Rattle.incr_file.specs.Head.{IsHead}
use Rattle.incr_file.specs.Reading.{head_in}
use Rattle.incr_file.specs.declared.head.IncrHead.{IncrHead}
use Rattle.chain_files.specs.Segments.{AllHaveForms, HasForms, chain_pages, form_at, forms_at}
use Rattle.chain_files.specs.Paths.{file_path, IsRelationFile}
use Rattle.combine.specs.Combined.{EndsWith}

-- ---- the newest member

all_last : {A : Type 0} (P : A → Type 0) (xs : List A) (x : A) → AllByRecursion P (xs ++ (x ∷ [])) → P x
all_last P [] x all = all.0
all_last P (y ∷ xs) x all = all_last P xs x all.1

pub newest_has : (chain : List Files) (newest : Files) → EndsWith chain newest → AllHaveForms chain → HasForms newest
newest_has chain newest ends forms = all_last HasForms ends.0 newest (subst AllHaveForms ends.1 forms)

-- the forms of a file, the newest one first
pub forms_are : (chain : List Files) (newest : Files) (folder name : List ℕ) (ends : EndsWith chain newest) → forms_at chain folder name ≡ form_at folder name newest ∷ map (form_at folder name) (reverse ends.0)
forms_are chain newest folder name ends = ap (map (form_at folder name)) (ap reverse ends.1 ∙ reverse-append ends.0 (newest ∷ []))

-- ---- how many pages there are

below_all : (most : ℕ) (blocks : List ℕ) → All (λ block. block < most) blocks → past_all blocks ≤ most
below_all most [] all = omega arith
below_all most (b ∷ blocks) all = omega (arith, All-head (λ block. block < most) b blocks all, below_all most blocks (All-tail (λ block. block < most) b blocks all))

pub few_blocks : (head : IncrHead) → IsHead head → rebuilt_length head ≤ 131072
few_blocks head is = omega (arith, is.length_fits, below_all 131072 head.blocks is.blocks_fit)

abbrev Rebuilds : List Files → List ℕ → List ℕ → Type 0
Rebuilds chain folder name = (pages : ForkPages) × (chain_pages chain folder name ≡ Some pages) × (length pages ≤ 131072)

by_part : (chain : List Files) (newest : Files) (folder name : List ℕ) (bytes : List ℕ) (older : List Form) → IsHead (head_in bytes) → forms_at chain folder name ≡ part_in bytes ∷ older → Rebuilds chain folder name
by_part chain newest folder name bytes older is e =
    let pages = rebuilt_pages (part_in bytes ∷ older) (head_in bytes) in
    let long : length pages ≡ rebuilt_length (head_in bytes) = length-map _ _ ∙ length-range_with_len 0 (rebuilt_length (head_in bytes)) in
    (pages, ap pages_in_chain e, omega (arith, long, few_blocks (head_in bytes) is))

pub found : (o : Option (List ℕ)) → o ≢ None → (bytes : List ℕ) × (o ≡ Some bytes)
found None some = absurd (some refl)
found (Some bytes) some = (bytes, refl)

-- a file that is incremental in the newest member is rebuilt, of few pages
pub rebuilds : (chain : List Files) (newest : Files) (folder name : List ℕ) → EndsWith chain newest → AllHaveForms chain → IsRelationFile folder name → get newest (file_path folder name true) ≢ None → Rebuilds chain folder name
rebuilds chain newest folder name ends forms named there =
    let file = found (get newest (file_path folder name true)) there in
    let is = (newest_has chain newest ends forms).incremental folder name file.0 named file.1 in
    let form : form_at folder name newest ≡ part_in file.0 = ap (λ (o : Option (List ℕ)). form_in o (get newest (file_path folder name false))) file.1 in
    by_part chain newest folder name file.0 (map (form_at folder name) (reverse ends.0)) is.head (forms_are chain newest folder name ends ∙ ap (λ (f : Form). f ∷ map (form_at folder name) (reverse ends.0)) form)

all_of : (o : Option ForkPages) (pages : ForkPages) (bytes : List ℕ) → o ≡ Some pages → length pages ≤ 131072 → IfSome o (λ p. bytes ≡ pages_bytes (take 131072 p)) → bytes ≡ pages_bytes pages
all_of None pages bytes e few is = absurd cc
all_of (Some p) pages bytes e few is = let same : p ≡ pages = cc in is ∙ ap pages_bytes (ap (take 131072) same ∙ take_all 131072 pages few)

-- and its bytes are those of all its pages
pub rebuilt_bytes : (chain : List Files) (folder name : List ℕ) (bytes : List ℕ) (r : Rebuilds chain folder name) → IfSome (chain_pages chain folder name) (λ pages. bytes ≡ pages_bytes (take 131072 pages)) → bytes ≡ pages_bytes r.0
rebuilt_bytes chain folder name bytes r is = all_of (chain_pages chain folder name) r.0 bytes r.1 r.2 is
