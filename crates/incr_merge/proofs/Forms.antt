-- A file is that of its merged form.
use Rattle.std.proofs.Common.{◌≡◌, ◌≢◌, ℕ, zero, suc, ◌+◌, ◌<◌, ◌≤◌, min, Bool, true, false, cond, not, List, [], ◌∷◌, ◌++◌, map, length, take, drop, reverse, get_or, Option, None, IfSome, unwrap_or, refl, sym, ap, ap₂, subst, ◌∙◌, arith}
use Rattle.std.specs.List.{AllByRecursion, filter, range_with_len}
use Rattle.std.specs.FinMap.{get}
use Rattle.std.proofs.Math.Seq.{drop-cons}
use Rattle.std.proofs.lemmas.List.{take_all, append-nil}
use Rattle.std.proofs.lemmas.List.FromFn.{length-map-range_with_len, get_or-map-range_with_len}
use Rattle.lsn_core.specs.byte_words.Pieces.{zero_page}
use Rattle.lsn_core.specs.Files.{Files}
use Rattle.lsn_core.specs.Store.{ForkPages}
use Rattle.incr_file.specs.declared.head.IncrHead.{IncrHead}
use Rattle.incr_file.specs.Head.{IsHead, head_bytes, head_with}
use Rattle.incr_file.specs.Form.{Form, Plain, Part, form_in, part_in, pages_bytes, block_in_chain, pages_in_chain, rebuilt_length, rebuilt_pages}
use Rattle.incr_file.specs.Reading.{head_in}
use Rattle.chain_files.specs.Segments.{AllHaveForms, form_at, forms_at}
use Rattle.chain_files.specs.Paths.{file_path, IsRelationFile}
use Rattle.combine.proofs.Rebuilt.{newest_has, forms_are, few_blocks, found}
use Rattle.merged_forms.specs.Merged.{rests_on_plain, least_length, merged_blocks, merged_pages, merged_part, merged_form}
use Rattle.series_files.specs.Heads.{merged_head_of}
use Rattle.merge_laws.specs.Merged.{EndsWith, IsFileOf}
use Rattle.incr_merge.specs.Inside.{listed_bytes, IsJoined}

-- ---- the pages of listed blocks

one_taken : (pages : ForkPages) (b : ℕ) → b < length pages → pages_bytes (take 1 (drop b pages)) ≡ get_or pages b []
one_taken pages b lt = ap (λ (l : ForkPages). pages_bytes (take 1 l)) (drop-cons pages b [] lt) ∙ append-nil (get_or pages b [])

listed_are : (pages : ForkPages) (f : ℕ → List ℕ) (blocks : List ℕ) → AllByRecursion (λ b. (b < length pages) × (get_or pages b [] ≡ f b)) blocks → listed_bytes pages blocks ≡ pages_bytes (map f blocks)
listed_are pages f [] all = refl
listed_are pages f (b ∷ blocks) all = ap₂ (λ (x y : List ℕ). x ++ y) (one_taken pages b all.0.0 ∙ all.0.1) (listed_are pages f blocks all.1)

kept_within : (P : ℕ → Type 0) (p : ℕ → Bool) (a n : ℕ) → ((b : ℕ) → b < a + n → P b) → AllByRecursion P (filter p (range_with_len a n))
kept_within P p a zero each = tt
kept_within P p a (suc n) each =
    let rest = kept_within P p (a + 1) n (λ b lt. each b (omega (arith, lt))) in
    elim (p a) as (λ s. AllByRecursion P (cond s (a ∷ filter p (range_with_len (a + 1) n)) (filter p (range_with_len (a + 1) n)))) [
      | true ↦ (each a (omega arith), rest)
      | false ↦ rest
    ]

-- ---- by the form of the newest member

abbrev JoinedBy : List Form → IncrHead → Bool → List ℕ → Type 0
JoinedBy forms head true bytes = bytes ≡ pages_bytes (take 131072 (rebuilt_pages forms head))
JoinedBy forms head false bytes =
    bytes ≡ head_bytes (merged_head_of forms (min (length (rebuilt_pages forms head)) 131072)) ++ listed_bytes (rebuilt_pages forms head) (merged_head_of forms (min (length (rebuilt_pages forms head)) 131072)).blocks

module _ (folder name : List ℕ) (head : IncrHead) (pages : ForkPages) (older : List Form) (is : IsHead head) (to bytes : List ℕ) where
  abbrev forms : List Form
  forms = Part head pages ∷ older

  abbrev count : ℕ
  count = rebuilt_length head

  abbrev least : ℕ
  least = least_length head.truncation older

  long : length (rebuilt_pages forms head) ≡ count
  long = length-map-range_with_len (λ b. unwrap_or (block_in_chain forms b) zero_page) 0 count

  few : count ≤ 131072
  few = few_blocks head is

  head_is : merged_head_of forms (min (length (rebuilt_pages forms head)) 131072) ≡ head_with least (merged_blocks forms least count)
  head_is =
      ap (merged_head_of forms) (let z : min (length (rebuilt_pages forms head)) 131072 ≡ count = omega (arith, long, few) in z)
      ∙ ap (λ (n : ℕ). head_with (least_length n older) (merged_blocks forms (least_length n older) count)) (let z : min 131072 head.truncation ≡ head.truncation = omega (arith, is.length_fits) in z)

  page_is : (b : ℕ) → b < 0 + count → (b < length (rebuilt_pages forms head)) × (get_or (rebuilt_pages forms head) b [] ≡ unwrap_or (block_in_chain forms b) zero_page)
  page_is b lt = (omega (arith, lt, long), get_or-map-range_with_len (λ b. unwrap_or (block_in_chain forms b) zero_page) 0 count b b [] (omega (arith, lt)) (omega arith))

  blocks_are : listed_bytes (rebuilt_pages forms head) (merged_blocks forms least count) ≡ pages_bytes (merged_pages forms (merged_blocks forms least count))
  blocks_are = listed_are (rebuilt_pages forms head) (λ b. unwrap_or (block_in_chain forms b) zero_page) (merged_blocks forms least count)
      (kept_within (λ b. (b < length (rebuilt_pages forms head)) × (get_or (rebuilt_pages forms head) b [] ≡ unwrap_or (block_in_chain forms b) zero_page)) _ 0 count page_is)

  pub by_part : JoinedBy forms head (rests_on_plain older) bytes → to ≡ file_path folder name (not (rests_on_plain older)) → IsFileOf folder name (merged_form forms) (to, bytes)
  by_part =
      elim (rests_on_plain older) as (λ s. JoinedBy forms head s bytes → to ≡ file_path folder name (not s) → IsFileOf folder name (cond s (Plain (rebuilt_pages forms head)) (merged_part forms least count)) (to, bytes)) [
        | true ↦ λ j t. ap₂ (λ (x y : List ℕ). (x, y)) t (j ∙ ap pages_bytes (take_all 131072 (rebuilt_pages forms head) (omega (arith, long, few))))
        | false ↦ λ j t. ap₂ (λ (x y : List ℕ). (x, y)) t
            (j ∙ ap (λ (h : IncrHead). head_bytes h ++ listed_bytes (rebuilt_pages forms head) h.blocks) head_is
            ∙ ap (λ (l : List ℕ). head_bytes (head_with least (merged_blocks forms least count)) ++ l) blocks_are)
      ]

joined_forms : (fs : List Form) (head : IncrHead) (pages : ForkPages) (older : List Form) → fs ≡ Part head pages ∷ older → (series : List Files) (folder name : List ℕ) (s : Bool) (bytes : List ℕ) → forms_at series folder name ≡ fs → IsJoined series folder name s bytes → JoinedBy (Part head pages ∷ older) head s bytes
joined_forms fs head pages older is series folder name true bytes e joined = by_forms (forms_at series folder name) (e ∙ is) joined
  where
    by_forms : (l : List Form) → l ≡ Part head pages ∷ older → IfSome (pages_in_chain l) (λ p. bytes ≡ pages_bytes (take 131072 p)) → bytes ≡ pages_bytes (take 131072 (rebuilt_pages (Part head pages ∷ older) head))
    by_forms l e held = subst (λ (x : List Form). IfSome (pages_in_chain x) (λ p. bytes ≡ pages_bytes (take 131072 p))) e held
joined_forms fs head pages older is series folder name false bytes e joined = by_forms (forms_at series folder name) (e ∙ is) joined
  where
    by_forms : (l : List Form) → l ≡ Part head pages ∷ older
        → IfSome (pages_in_chain l) (λ p. bytes ≡ head_bytes (merged_head_of l (min (length p) 131072)) ++ listed_bytes p (merged_head_of l (min (length p) 131072)).blocks)
        → JoinedBy (Part head pages ∷ older) head false bytes
    by_forms l e held = subst (λ (x : List Form). IfSome (pages_in_chain x) (λ p. bytes ≡ head_bytes (merged_head_of x (min (length p) 131072)) ++ listed_bytes p (merged_head_of x (min (length p) 131072)).blocks)) e held

-- a file that is incremental in the newest member is that of the merged form
pub file_of_form : (series : List Files) (newest : Files) (folder name : List ℕ) (to bytes : List ℕ) → EndsWith series newest → AllHaveForms series → IsRelationFile folder name → get newest (file_path folder name true) ≢ None
    → IsJoined series folder name (rests_on_plain (forms_at series folder name)) bytes → to ≡ file_path folder name (not (rests_on_plain (forms_at series folder name))) → IsFileOf folder name (merged_form (forms_at series folder name)) (to, bytes)
file_of_form series newest folder name to bytes ends forms named there joined to_is =
    let file = found (get newest (file_path folder name true)) there in
    let is = (newest_has series newest ends forms).incremental folder name file.0 named file.1 in
    let older = map (form_at folder name) (reverse ends.0) in
    let form : form_at folder name newest ≡ part_in file.0 = ap (λ (o : Option (List ℕ)). form_in o (get newest (file_path folder name false))) file.1 in
    let all : forms_at series folder name ≡ part_in file.0 ∷ older = forms_are series newest folder name ends ∙ ap (λ (f : Form). f ∷ older) form in
    let rests : rests_on_plain (forms_at series folder name) ≡ rests_on_plain older = ap rests_on_plain all in
    subst (λ (l : List Form). IsFileOf folder name (merged_form l) (to, bytes)) (sym all)
    (by_part folder name (head_in file.0) _ older is.head to bytes
    (joined_forms (part_in file.0 ∷ older) (head_in file.0) _ older refl series folder name (rests_on_plain older) bytes all (subst (λ b. IsJoined series folder name b bytes) rests joined))
    (to_is ∙ ap (λ (b : Bool). file_path folder name (not b)) rests))
