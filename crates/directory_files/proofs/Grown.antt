-- Files that grow piece by piece.
use Rattle.std.proofs.Common.{◌≡◌, ℕ, ◌+◌, ◌*◌, ◌-◌, ◌≤◌, min, List, [], ◌++◌, length, take, drop, Option, Some, None, IfSome, unwrap_or, refl, sym, ap, subst, ◌∙◌, arith, append_assoc}
use Rattle.std.specs.Option.{option_map}
use Rattle.std.specs.FinMap.{get}
use Rattle.std.proofs.lemmas.List.{take_at, take_all, take_min, length-take, length-drop}
use Rattle.std.proofs.lemmas.Grind.{flat_map-append}
use Rattle.std.proofs.Math.Seq.{take-add}
use Rattle.lsn_core.specs.byte_words.Told.{when_told, when_both_told}
use Rattle.lsn_core.specs.Files.{Files}
use Rattle.lsn_core.specs.Store.{ForkPages}
use Rattle.vault.specs.Area.{IsRead, IsSizeIn, bytes_of}
use Rattle.incr_file.specs.Form.{pages_bytes}
use Rattle.backup_files.specs.Area.{with_file}
use Rattle.chain_files.specs.Segments.{chain_pages, AllHaveForms}
use Rattle.chain_files.specs.Sources.{AreRead, OfChain, IsSourceAt}
use Rattle.chain_files.specs.declared.source.SegmentSource.{SegmentSource}
use Rattle.directory_files.specs.Written.{AddsPages, AddsPiece, Holds, IsMade}
use Rattle.directory_files.specs.declared.growing.Growing.{Growing}

-- ---- what was read

piece : (whole before now behind : List ℕ) (at most count : ℕ) → length before ≡ most → count ≡ min (length before) (length whole - at) → now ≡ take count (drop at whole) ++ drop count before → take count (now ++ behind) ≡ take most (drop at whole)
piece whole before now behind at most count long counted bytes =
    let fits : length (take count (drop at whole)) ≡ count = rw (length-take, length-drop) (omega arith) in
    let is : take count (now ++ behind) ≡ take count (drop at whole) = rw (bytes, append_assoc (take count (drop at whole)) (drop count before) behind) (take_at _ _ count fits) in
    let few : count ≡ min most (length (drop at whole)) = counted ∙ (ap (λ (n : ℕ). min n (length whole - at)) long ∙ ap (min most) (sym (length-drop at whole))) in
    is ∙ (ap (λ (n : ℕ). take n (drop at whole)) few ∙ take_min most (drop at whole))

pub piece_read : (told : Option Files) (path before now behind : List ℕ) (at most count : ℕ) → length before ≡ most → IfSome told (λ m. IsRead m path at before now count) → IfSome told (λ m. take count (now ++ behind) ≡ take most (drop at (bytes_of m path)))
piece_read told path before now behind at most count long read =
    when_told told (λ m. IsRead m path at before now count) (λ m. take count (now ++ behind) ≡ take most (drop at (bytes_of m path))) (λ m is. piece (bytes_of m path) before now behind at most count long is.counted is.bytes) read

pages_are : (pages : ForkPages) (number most : ℕ) (now : List ℕ) (count : ℕ) → AreRead pages number most now count → take (count * 8192) now ≡ pages_bytes (take most (drop number pages))
pages_are pages number most now count read =
    let few : count ≡ min most (length (drop number pages)) = read.counted ∙ ap (min most) (sym (length-drop number pages)) in
    read.are ∙ ap pages_bytes (ap (λ (n : ℕ). take n (drop number pages)) few ∙ take_min most (drop number pages))

abbrev pub OfSource : Option (List Files) → SegmentSource → (ForkPages → Type 0) → Type 0
OfSource told source P = OfChain told (λ chain. (folder name : List ℕ) → IsSourceAt chain folder name (Some source) → IfSome (chain_pages chain folder name) P)

pub source_more : (told : Option (List Files)) (source : SegmentSource) (P Q : ForkPages → Type 0) → ((pages : ForkPages) → P pages → Q pages) → OfSource told source P → OfSource told source Q
source_more told source P Q more held =
    when_told told (λ chain. AllHaveForms chain → (folder name : List ℕ) → IsSourceAt chain folder name (Some source) → IfSome (chain_pages chain folder name) P)
    (λ chain. AllHaveForms chain → (folder name : List ℕ) → IsSourceAt chain folder name (Some source) → IfSome (chain_pages chain folder name) Q)
    (λ chain is forms folder name source_is. when_told (chain_pages chain folder name) P Q more (is forms folder name source_is)) held

pub source_both : (told : Option (List Files)) (source : SegmentSource) (P Q R : ForkPages → Type 0) → ((pages : ForkPages) → P pages → Q pages → R pages) → OfSource told source P → OfSource told source Q → OfSource told source R
source_both told source P Q R both left right =
    when_both_told told (λ chain. AllHaveForms chain → (folder name : List ℕ) → IsSourceAt chain folder name (Some source) → IfSome (chain_pages chain folder name) P)
    (λ chain. AllHaveForms chain → (folder name : List ℕ) → IsSourceAt chain folder name (Some source) → IfSome (chain_pages chain folder name) Q)
    (λ chain. AllHaveForms chain → (folder name : List ℕ) → IsSourceAt chain folder name (Some source) → IfSome (chain_pages chain folder name) R)
    (λ chain p q forms folder name source_is. when_both_told (chain_pages chain folder name) P Q R both (p forms folder name source_is) (q forms folder name source_is)) left right

pub pages_read : (told : Option (List Files)) (source : SegmentSource) (number most count : ℕ) (now : List ℕ) → OfSource told source (λ pages. AreRead pages number most now count) → OfSource told source (λ pages. take (count * 8192) now ≡ pages_bytes (take most (drop number pages)))
pages_read told source number most count now read =
    source_more told source (λ pages. AreRead pages number most now count) (λ pages. take (count * 8192) now ≡ pages_bytes (take most (drop number pages))) (λ pages is. pages_are pages number most now count is) read

-- ---- a copy so far

pub record CopiedSoFar (told : Option Files) (path : List ℕ) (at : ℕ) (old new : Option Files) (file : Growing) : Type 0 where
  pub bytes : List ℕ
  pub holds : Holds file bytes
  pub read : IfSome told (λ m. bytes ≡ take at (bytes_of m path))
  pub stands : new ≡ with_file path bytes old

none_taken : (told : Option Files) (path : List ℕ) → IfSome told (λ m. [] ≡ take 0 (bytes_of m path))
none_taken None path = tt
none_taken (Some m) path = refl

pub copy_begun : (told : Option Files) (path : List ℕ) (old new : Option Files) (file : Growing) → Holds file [] → new ≡ with_file path [] old → CopiedSoFar told path 0 old new file
copy_begun told path old new file holds stands = record { bytes = []; holds = holds; read = none_taken told path; stands = stands }

pub copy_further : (told : Option Files) (path : List ℕ) (at count sum : ℕ) (old mid new : Option Files) (before now : Growing) → sum ≡ at + count → CopiedSoFar told path at old mid before → AddsPiece told path at count path mid new before now → CopiedSoFar told path sum old new now
copy_further told path at count sum old mid new before now sum_is far adds = record {
  bytes = far.bytes ++ adds.piece;
  holds = adds.holds far.bytes far.holds;
  read = when_both_told told (λ m. far.bytes ≡ take at (bytes_of m path)) (λ m. adds.piece ≡ take count (drop at (bytes_of m path))) (λ m. far.bytes ++ adds.piece ≡ take sum (bytes_of m path))
      (λ m p q. rw (p, q, sum_is) (sym (take-add at count (bytes_of m path)))) far.read adds.read;
  stands = adds.written far.bytes old far.holds far.stands;
}

length_of : (o : Option (List ℕ)) → unwrap_or (option_map length o) 0 ≡ length (unwrap_or o [])
length_of None = refl
length_of (Some bytes) = refl

pub copy_made : (told : Option Files) (path : List ℕ) (at size : ℕ) (found : Option ℕ) (old new : Option Files) (file : Growing) → size ≤ at → size ≡ unwrap_or found 0 → IsSizeIn told path found → CopiedSoFar told path at old new file
    → IsMade (λ bytes. IfSome told (λ m. bytes ≡ bytes_of m path)) path old new file
copy_made told path at size found old new file all size_is sized far = record {
  bytes = far.bytes;
  holds = far.holds;
  content = when_both_told told (λ m. far.bytes ≡ take at (bytes_of m path)) (λ m. found ≡ option_map length (get m path)) (λ m. far.bytes ≡ bytes_of m path)
      (λ m p q.
      let long : size ≡ length (bytes_of m path) = size_is ∙ (ap (λ (o : Option ℕ). unwrap_or o 0) q ∙ length_of (get m path)) in
      p ∙ take_all at (bytes_of m path) (omega (arith, all, long)))
      far.read sized;
  stands = far.stands;
}

-- ---- a rebuilt file so far

pub record RebuiltSoFar (told : Option (List Files)) (source : SegmentSource) (number : ℕ) (path : List ℕ) (old new : Option Files) (file : Growing) : Type 0 where
  pub bytes : List ℕ
  pub holds : Holds file bytes
  pub read : OfSource told source (λ pages. bytes ≡ pages_bytes (take number pages))
  pub stands : new ≡ with_file path bytes old

no_pages : (o : Option ForkPages) → IfSome o (λ pages. [] ≡ pages_bytes (take 0 pages))
no_pages None = tt
no_pages (Some pages) = refl

no_source : (told : Option (List Files)) (source : SegmentSource) → OfSource told source (λ pages. [] ≡ pages_bytes (take 0 pages))
no_source None source = tt
no_source (Some chain) source = λ forms folder name is. no_pages (chain_pages chain folder name)

pub rebuilding_begun : (told : Option (List Files)) (source : SegmentSource) (path : List ℕ) (old new : Option Files) (file : Growing) → Holds file [] → new ≡ with_file path [] old → RebuiltSoFar told source 0 path old new file
rebuilding_begun told source path old new file holds stands = record { bytes = []; holds = holds; read = no_source told source; stands = stands }

pub rebuilding_further : (told : Option (List Files)) (source : SegmentSource) (number most sum : ℕ) (path : List ℕ) (old mid new : Option Files) (before now : Growing) → sum ≡ number + most → RebuiltSoFar told source number path old mid before → AddsPages told source number most path mid new before now
    → RebuiltSoFar told source sum path old new now
rebuilding_further told source number most sum path old mid new before now sum_is far adds = record {
  bytes = far.bytes ++ adds.piece;
  holds = adds.holds far.bytes far.holds;
  read = source_both told source (λ pages. far.bytes ≡ pages_bytes (take number pages)) (λ pages. adds.piece ≡ pages_bytes (take most (drop number pages))) (λ pages. far.bytes ++ adds.piece ≡ pages_bytes (take sum pages))
      (λ pages p q. rw (p, q, sum_is, take-add number most pages) (sym (flat_map-append (λ (page : List ℕ). page) (take number pages) (take most (drop number pages))))) far.read adds.read;
  stands = adds.written far.bytes old far.holds far.stands;
}

abbrev Rebuilt : Option (List Files) → List ℕ → List ℕ → List ℕ → Type 0
Rebuilt told folder name bytes = OfChain told (λ chain. IfSome (chain_pages chain folder name) (λ pages. bytes ≡ pages_bytes (take 131072 pages)))

-- the source gives all pages, so many; at most as many as a segment file has were written
all_pages : (pages : ForkPages) (count number : ℕ) (bytes : List ℕ) → count ≡ length pages → number ≡ min count 131072 → bytes ≡ pages_bytes (take number pages) → bytes ≡ pages_bytes (take 131072 pages)
all_pages pages count number bytes count_is number_is is =
    let few : number ≡ min 131072 (length pages) = omega (arith, count_is, number_is) in
    is ∙ ap pages_bytes (ap (λ (n : ℕ). take n pages) few ∙ take_min 131072 pages)

pub rebuilding_made : (told : Option (List Files)) (source : SegmentSource) (folder name : List ℕ) (count number : ℕ) (path : List ℕ) (old new : Option Files) (file : Growing) → OfChain told (λ chain. IsSourceAt chain folder name (Some source))
    → ((chain : List Files) (f s : List ℕ) → IsSourceAt chain f s (Some source) → IfSome (chain_pages chain f s) (λ pages. count ≡ length pages))
    → number ≡ min count 131072 → RebuiltSoFar told source number path old new file → IsMade (Rebuilt told folder name) path old new file
rebuilding_made told source folder name count number path old new file is counted number_is far = record {
  bytes = far.bytes;
  holds = far.holds;
  content = when_both_told told (λ chain. AllHaveForms chain → IsSourceAt chain folder name (Some source)) (λ chain. AllHaveForms chain → (f s : List ℕ) → IsSourceAt chain f s (Some source) → IfSome (chain_pages chain f s) (λ pages. far.bytes ≡ pages_bytes (take number pages)))
      (λ chain. AllHaveForms chain → IfSome (chain_pages chain folder name) (λ pages. far.bytes ≡ pages_bytes (take 131072 pages)))
      (λ chain source_is read forms.
      when_both_told (chain_pages chain folder name) (λ pages. count ≡ length pages) (λ pages. far.bytes ≡ pages_bytes (take number pages)) (λ pages. far.bytes ≡ pages_bytes (take 131072 pages)) (λ pages p q. all_pages pages count number far.bytes p number_is q)
      (counted chain folder name (source_is forms)) (read forms folder name (source_is forms)))
      is far.read;
  stands = far.stands;
}

no_file : (told : Option (List Files)) (folder name : List ℕ) → OfChain told (λ chain. chain_pages chain folder name ≡ None) → Rebuilt told folder name []
no_file told folder name none =
    when_told told (λ chain. AllHaveForms chain → chain_pages chain folder name ≡ None) (λ chain. AllHaveForms chain → IfSome (chain_pages chain folder name) (λ pages. [] ≡ pages_bytes (take 131072 pages)))
    (λ chain is forms. subst (λ (o : Option ForkPages). IfSome o (λ pages. [] ≡ pages_bytes (take 131072 pages))) (sym (is forms)) tt) none

-- the chain has no such file
pub nothing_made : (told : Option (List Files)) (folder name : List ℕ) (path : List ℕ) (old new : Option Files) (file : Growing) → OfChain told (λ chain. chain_pages chain folder name ≡ None) → Holds file [] → new ≡ with_file path [] old → IsMade (Rebuilt told folder name) path old new file
nothing_made told folder name path old new file none holds stands = record { bytes = []; holds = holds; content = no_file told folder name none; stands = stands }
