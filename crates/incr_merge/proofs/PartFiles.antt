-- An incremental file that grows block by block.
use Rattle.std.proofs.Common.{◌≡◌, ℕ, zero, suc, ◌+◌, ◌-◌, ◌<◌, ◌≤◌, get_or, inl, inr, min, false, List, [], ◌∷◌, ◌++◌, length, take, drop, Option, Some, None, IfSome, sym, ap, ◌∙◌, arith, append_assoc}
use Rattle.std.specs.List.Sorted.{IsStrictlyIncreasing}
use Rattle.std.proofs.lemmas.Bool.{cases_lt}
use Rattle.std.proofs.lemmas.List.{append-nil}
use Rattle.lsn_core.specs.byte_words.Told.{when_told, when_both_told}
use Rattle.lsn_core.specs.Files.{Files}
use Rattle.lsn_core.specs.Store.{ForkPages}
use Rattle.incr_file.specs.declared.head.IncrHead.{IncrHead}
use Rattle.incr_file.specs.Form.{Form, pages_bytes}
use Rattle.incr_file.specs.Head.{IsHead, head_bytes}
use Rattle.backup_files.specs.Area.{with_file}
use Rattle.backup_files.proofs.Passed.{no_items}
use Rattle.chain_files.specs.Segments.{chain_pages, forms_at, AllHaveForms}
use Rattle.chain_files.specs.Sources.{OfChain, IsSourceAt}
use Rattle.chain_files.specs.declared.source.SegmentSource.{SegmentSource}
use Rattle.directory_files.specs.Written.{AddsPages, Holds, IsMade}
use Rattle.directory_files.specs.declared.growing.Growing.{Growing}
use Rattle.directory_files.proofs.Grown.{OfSource, source_both, source_more}
use Rattle.merged_forms.specs.Merged.{rests_on_plain}
use Rattle.series_files.specs.Heads.{merged_head_of}
use Rattle.incr_merge.specs.Inside.{listed_bytes, IsPartOf, IsJoined}

-- ---- a head lists few blocks

at_least : (xs : List ℕ) → IsStrictlyIncreasing xs → (k : ℕ) → k < length xs → k ≤ get_or xs k 0
at_least xs up zero lt = omega arith
at_least xs up (suc k) lt =
    let before = at_least xs up k (omega (arith, lt)) in
    let step = up k (let z : k + 1 < length xs = omega (arith, lt) in z) in
    let same : get_or xs (k + 1) 0 ≡ get_or xs (suc k) 0 = ap (λ (n : ℕ). get_or xs n 0) (let z : k + 1 ≡ suc k = omega arith in z) in
    omega (arith, before, step, same)

pub few_listed : (head : IncrHead) → IsHead head → length head.blocks ≤ 131072
few_listed head is = elim (cases_lt 0 (length head.blocks)) [
  | inl some ↦
      let at = at_least head.blocks is.rising (length head.blocks - 1) (omega (arith, some)) in
      let fit = is.blocks_fit (length head.blocks - 1) 0 (omega (arith, some)) in
      omega (arith, at, fit)
  | inr none ↦ omega (arith, none)
]

-- ---- block by block

-- with the blocks that are left it is the whole file
pub record PartSoFar (told : Option (List Files)) (source : SegmentSource) (head : IncrHead) (left : List ℕ) (path : List ℕ) (old new : Option Files) (file : Growing) : Type 0 where
  pub bytes : List ℕ
  pub holds : Holds file bytes
  pub read : OfSource told source (λ pages. bytes ++ listed_bytes pages left ≡ head_bytes head ++ listed_bytes pages head.blocks)
  pub stands : new ≡ with_file path bytes old

all_of_source : (told : Option (List Files)) (source : SegmentSource) (P : ForkPages → Type 0) → ((pages : ForkPages) → P pages) → OfSource told source P
all_of_source None source P all = tt
all_of_source (Some chain) source P all = λ forms folder name is. each (chain_pages chain folder name)
  where
    each : (o : Option ForkPages) → IfSome o P
    each None = tt
    each (Some pages) = all pages

pub part_begun : (told : Option (List Files)) (source : SegmentSource) (head : IncrHead) (left : List ℕ) (path bytes : List ℕ) (old new : Option Files) (file : Growing) → left ≡ head.blocks → bytes ≡ head_bytes head → Holds file ([] ++ bytes) → new ≡ with_file path ([] ++ bytes) old → PartSoFar told source head left path old new file
part_begun told source head left path bytes old new file left_is is holds stands = record {
  bytes = bytes;
  holds = holds;
  read = all_of_source told source (λ pages. bytes ++ listed_bytes pages left ≡ head_bytes head ++ listed_bytes pages head.blocks)
      (λ pages. ap (λ (l : List ℕ). l ++ listed_bytes pages left) is ∙ ap (λ (l : List ℕ). head_bytes head ++ listed_bytes pages l) left_is);
  stands = stands;
}

pub part_further : (told : Option (List Files)) (source : SegmentSource) (head : IncrHead) (left behind : List ℕ) (block : ℕ) (path : List ℕ) (old mid new : Option Files) (before now : Growing) → left ≡ block ∷ behind → PartSoFar told source head left path old mid before → AddsPages told source block 1 path mid new before now
    → PartSoFar told source head behind path old new now
part_further told source head left behind block path old mid new before now left_is far adds = record {
  bytes = far.bytes ++ adds.piece;
  holds = adds.holds far.bytes far.holds;
  read = source_both told source (λ pages. far.bytes ++ listed_bytes pages left ≡ head_bytes head ++ listed_bytes pages head.blocks) (λ pages. adds.piece ≡ pages_bytes (take 1 (drop block pages))) (λ pages. (far.bytes ++ adds.piece) ++ listed_bytes pages behind ≡ head_bytes head ++ listed_bytes pages head.blocks)
      (λ pages p q.
      append_assoc far.bytes adds.piece (listed_bytes pages behind)
      ∙ ap (λ (l : List ℕ). far.bytes ++ (l ++ listed_bytes pages behind)) q
      ∙ ap (λ (l : List ℕ). far.bytes ++ listed_bytes pages l) (sym left_is) ∙ p)
      far.read adds.read;
  stands = adds.written far.bytes old far.holds far.stands;
}

pub part_made : (told : Option (List Files)) (source : SegmentSource) (head : IncrHead) (left : List ℕ) (path : List ℕ) (old new : Option Files) (file : Growing) → length left ≡ 0 → PartSoFar told source head left path old new file → IsMade (IsPartOf told source head) path old new file
part_made told source head left path old new file none far = record {
  bytes = far.bytes;
  holds = far.holds;
  content = source_more told source (λ pages. far.bytes ++ listed_bytes pages left ≡ head_bytes head ++ listed_bytes pages head.blocks) (λ pages. far.bytes ≡ head_bytes head ++ listed_bytes pages head.blocks)
      (λ pages is. sym (append-nil far.bytes) ∙ ap (λ (l : List ℕ). far.bytes ++ listed_bytes pages l) (sym (no_items left none)) ∙ is) far.read;
  stands = far.stands;
}

-- ---- which file it is

abbrev pub IsUnrebuilt : Option (List Files) → List ℕ → List ℕ → (List Files → Type 0) → Type 0
IsUnrebuilt told folder name P = OfChain told (λ series. rests_on_plain (forms_at series folder name) ≡ false → P series)

joined_by : (forms : List Form) (pages : ForkPages) (total count : ℕ) (head : IncrHead) (bytes : List ℕ) → head ≡ merged_head_of forms count → count ≡ min total 131072 → total ≡ length pages → bytes ≡ head_bytes head ++ listed_bytes pages head.blocks
    → bytes ≡ head_bytes (merged_head_of forms (min (length pages) 131072)) ++ listed_bytes pages (merged_head_of forms (min (length pages) 131072)).blocks
joined_by forms pages total count head bytes head_is count_is total_is is =
    let same : head ≡ merged_head_of forms (min (length pages) 131072) = head_is ∙ ap (merged_head_of forms) (count_is ∙ ap (λ (n : ℕ). min n 131072) total_is) in
    is ∙ ap (λ (h : IncrHead). head_bytes h ++ listed_bytes pages h.blocks) same

pub joined_content : (told : Option (List Files)) (source : SegmentSource) (folder name : List ℕ) (total count : ℕ) (head : IncrHead) (bytes : List ℕ) → OfChain told (λ series. IsSourceAt series folder name (Some source))
    → ((series : List Files) (f s : List ℕ) → IsSourceAt series f s (Some source) → IfSome (chain_pages series f s) (λ pages. total ≡ length pages))
    → count ≡ min total 131072 → IsUnrebuilt told folder name (λ series. head ≡ merged_head_of (forms_at series folder name) count) → IsPartOf told source head bytes
    → IsUnrebuilt told folder name (λ series. IsJoined series folder name false bytes)
joined_content None source folder name total count head bytes is counted count_is heads part = tt
joined_content (Some series) source folder name total count head bytes is counted count_is heads part = λ forms none.
    when_both_told (chain_pages series folder name) (λ pages. total ≡ length pages) (λ pages. bytes ≡ head_bytes head ++ listed_bytes pages head.blocks)
    (λ pages. bytes ≡ head_bytes (merged_head_of (forms_at series folder name) (min (length pages) 131072)) ++ listed_bytes pages (merged_head_of (forms_at series folder name) (min (length pages) 131072)).blocks)
    (λ pages p q. joined_by (forms_at series folder name) pages total count head bytes (heads forms none) count_is p q)
    (counted series folder name (is forms)) (part forms folder name (is forms))

-- the series is combined to no such file
pub nothing_joined : (told : Option (List Files)) (folder name : List ℕ) (path : List ℕ) (old new : Option Files) (file : Growing) → OfChain told (λ series. chain_pages series folder name ≡ None) → Holds file [] → new ≡ with_file path [] old
    → IsMade (λ bytes. IsUnrebuilt told folder name (λ series. IsJoined series folder name false bytes)) path old new file
nothing_joined told folder name path old new file none holds stands = record {
  bytes = [];
  holds = holds;
  content = when_told told (λ series. AllHaveForms series → chain_pages series folder name ≡ None) (λ series. AllHaveForms series → rests_on_plain (forms_at series folder name) ≡ false → IsJoined series folder name false [])
      (λ series is forms rests. by_none (forms_at series folder name) (chain_pages series folder name) (is forms)) none;
  stands = stands;
}
  where
    by_none : (forms : List Form) (o : Option ForkPages) → o ≡ None → IfSome o (λ pages. [] ≡ head_bytes (merged_head_of forms (min (length pages) 131072)) ++ listed_bytes pages (merged_head_of forms (min (length pages) 131072)).blocks)
    by_none forms None e = tt
    by_none forms (Some pages) e = absurd cc
