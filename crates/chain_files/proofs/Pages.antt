-- The pages of files and of what a chain is combined to are whole, and their bytes are cut into them
-- again.
use Rattle.std.proofs.Common.{◌≡◌, ℕ, ◌+◌, ◌*◌, ◌/◌, ◌<◌, ◌≤◌, zero, suc, Bool, true, false, List, [], ◌∷◌, ◌++◌, length, map, take, drop, reverse, slice_get, Option, Some, None, IfSome, unwrap_or, refl, sym, ap, ◌∙◌, arith}
use Rattle.std.specs.Prelude.{◌==◌, nat_lt, if◌then◌else◌}
use Rattle.std.specs.List.{AllByRecursion, range_with_len}
use Rattle.std.specs.Option.{option_or}
use Rattle.std.specs.FinMap.{get}
use Rattle.std.proofs.Math.Nat.{div-mul-le_self, mul-le-mul_right, mul-div_cancel}
use Rattle.std.proofs.Math.Seq.{drop-append_seam}
use Rattle.std.proofs.lemmas.List.{append_assoc, length-append, length-take-le, length-drop, length-replicate, take_at}
use Rattle.lsn_core.specs.byte_words.Pieces.{zero_page}
use Rattle.lsn_core.specs.Files.{Files}
use Rattle.lsn_core.specs.Store.{ForkPages}
use Rattle.lsn_core.proofs.AnyAll.{all_range}
use Rattle.incr_file.specs.declared.head.IncrHead.{IncrHead}
use Rattle.incr_file.specs.Form.{Form, Absent, Plain, Part, form_in, pieces_in, whole_pages, pages_bytes, sent_page, block_in_chain, rebuilt_length, rebuilt_pages, pages_in_chain}
use Rattle.chain_files.specs.Paths.{file_path}
use Rattle.chain_files.specs.Segments.{form_at, chain_pages}

-- ---- pages

pub length-zeros : length zero_page ≡ 8192
unfolding zero_page
length-zeros = length-replicate {A = ℕ} 8192 0

-- each page has so many bytes
abbrev pub HaveSize : ℕ → ForkPages → Type 0
HaveSize size pages = AllByRecursion (λ page. length page ≡ size) pages

pieces_sized : (size : ℕ) (bytes : List ℕ) → HaveSize size (pieces_in size bytes)
pieces_sized size bytes =
    all_range (λ page. length page ≡ size) (λ n. take size (drop (n * size) bytes)) 0 (length bytes / size)
    (λ n least less.
    let next : (n + 1) * size ≡ n * size + size = omega arith in
    let long = length-drop (n * size) bytes in
    length-take-le size (drop (n * size) bytes) (omega (arith, next, long, within n less)))
  where
    within : (n : ℕ) → n < 0 + length bytes / size → (n + 1) * size ≤ length bytes
    within n less =
        let most : (n + 1) * size ≤ length bytes / size * size = mul-le-mul_right size (let le : n + 1 ≤ length bytes / size = omega (arith, less) in le) in
        let fits : length bytes / size * size ≤ length bytes = div-mul-le_self (length bytes) size in
        omega (arith, most, fits)

whole_sized : (bytes : List ℕ) → HaveSize 8192 (whole_pages bytes)
unfolding whole_pages
whole_sized bytes = pieces_sized 8192 bytes

-- ---- forms

abbrev IsSized : Form → Type 0
IsSized Absent = Unit {0}
IsSized (Plain pages) = HaveSize 8192 pages
IsSized (Part head pages) = HaveSize 8192 pages

form_sized : (incr plain : Option (List ℕ)) → IsSized (form_in incr plain)
form_sized (Some bytes) plain = whole_sized _
form_sized None (Some bytes) = whole_sized bytes
form_sized None None = tt

forms_sized : (folder name : List ℕ) (chain : List Files) → AllByRecursion IsSized (map (form_at folder name) chain)
forms_sized folder name [] = tt
forms_sized folder name (files ∷ chain) =
    (form_sized (get files (file_path folder name true)) (get files (file_path folder name false)), forms_sized folder name chain)

-- a page that may be asked for
abbrev MaySize : Option (List ℕ) → Type 0
MaySize o = IfSome o (λ page. length page ≡ 8192)

by_test : (b : Bool) (x y : Option (List ℕ)) → MaySize x → MaySize y → MaySize (if b then x else y)
by_test true x y one other = one
by_test false x y one other = other

or_sized : (x y : Option (List ℕ)) → MaySize x → MaySize y → MaySize (option_or x y)
or_sized None y one other = other
or_sized (Some page) y one other = one

get_sized : (pages : ForkPages) (i : ℕ) → HaveSize 8192 pages → MaySize (slice_get pages i)
get_sized [] i all = tt
get_sized (p ∷ pages) zero all = all.0
get_sized (p ∷ pages) (suc i) all = get_sized pages i all.1

sent_sized : (blocks : List ℕ) (pages : ForkPages) (block : ℕ) → HaveSize 8192 pages → MaySize (sent_page blocks pages block)
sent_sized [] pages block all = tt
sent_sized (b ∷ blocks) [] block all = tt
sent_sized (b ∷ blocks) (page ∷ pages) block all = by_test (b == block) (Some page) (sent_page blocks pages block) all.0 (sent_sized blocks pages block all.1)

block_sized : (forms : List Form) (block : ℕ) → AllByRecursion IsSized forms → MaySize (block_in_chain forms block)
block_sized [] block all = tt
block_sized (Absent ∷ older) block all = tt
block_sized (Plain pages ∷ older) block all = get_sized pages block all.0
block_sized (Part head pages ∷ older) block all =
    or_sized (sent_page head.blocks pages block) (if nat_lt block head.truncation then block_in_chain older block else None)
    (sent_sized head.blocks pages block all.0) (by_test (nat_lt block head.truncation) (block_in_chain older block) None (block_sized older block all.1) tt)

or_zeros : (o : Option (List ℕ)) → MaySize o → length (unwrap_or o zero_page) ≡ 8192
or_zeros None sized = length-zeros
or_zeros (Some page) sized = sized

rebuilt_sized : (forms : List Form) (head : IncrHead) → AllByRecursion IsSized forms → HaveSize 8192 (rebuilt_pages forms head)
rebuilt_sized forms head all =
    all_range (λ page. length page ≡ 8192) (λ b. unwrap_or (block_in_chain forms b) zero_page) 0 (rebuilt_length head)
    (λ b least less. or_zeros (block_in_chain forms b) (block_sized forms b all))

pages_sized : (forms : List Form) → AllByRecursion IsSized forms → IfSome (pages_in_chain forms) (HaveSize 8192)
pages_sized [] all = tt
pages_sized (Absent ∷ older) all = tt
pages_sized (Plain pages ∷ older) all = all.0
pages_sized (Part head pages ∷ older) all = rebuilt_sized (Part head pages ∷ older) head all

pub chain_sized : (chain : List Files) (folder name : List ℕ) → IfSome (chain_pages chain folder name) (HaveSize 8192)
chain_sized chain folder name = pages_sized (map (form_at folder name) (reverse chain)) (forms_sized folder name (reverse chain))

-- ---- their bytes

cut_again : (size first : ℕ) (before : List ℕ) (pages : ForkPages) → length before ≡ first * size → HaveSize size pages → map (λ n. take size (drop (n * size) (before ++ pages_bytes pages))) (range_with_len first (length pages)) ≡ pages
cut_again size first before [] long all = refl
cut_again size first before (page ∷ pages) long all =
    let here : take size (drop (first * size) (before ++ (page ++ pages_bytes pages))) ≡ page =
    ap (λ (n : ℕ). take size (drop n (before ++ (page ++ pages_bytes pages)))) (sym long) ∙ ap (take size) (drop-append_seam before (page ++ pages_bytes pages)) ∙ take_at page (pages_bytes pages) size all.0 in
    let longer : length (before ++ page) ≡ (first + 1) * size = length-append before page ∙ omega (arith, long, all.0) in
    let rest : map (λ n. take size (drop (n * size) (before ++ (page ++ pages_bytes pages)))) (range_with_len (first + 1) (length pages)) ≡ pages =
    ap (λ (bytes : List ℕ). map (λ n. take size (drop (n * size) bytes)) (range_with_len (first + 1) (length pages))) (sym (append_assoc before page (pages_bytes pages)))
    ∙ cut_again size (first + 1) (before ++ page) pages longer all.1 in
    ap (λ (p : List ℕ). p ∷ map (λ n. take size (drop (n * size) (before ++ (page ++ pages_bytes pages)))) (range_with_len (first + 1) (length pages))) here
    ∙ ap (λ (ps : ForkPages). page ∷ ps) rest

pub bytes_length : (size : ℕ) (pages : ForkPages) → HaveSize size pages → length (pages_bytes pages) ≡ length pages * size
bytes_length size [] all = omega arith
bytes_length size (page ∷ pages) all = length-append page (pages_bytes pages) ∙ omega (arith, all.0, bytes_length size pages all.1)

parts_again : (size : ℕ) (pages : ForkPages) → 0 < size → HaveSize size pages → pieces_in size (pages_bytes pages) ≡ pages
parts_again size pages some all =
    let long : length (pages_bytes pages) / size ≡ length pages = ap (λ (n : ℕ). n / size) (bytes_length size pages all) ∙ mul-div_cancel (length pages) some in
    ap (λ (n : ℕ). map (λ k. take size (drop (k * size) (pages_bytes pages))) (range_with_len 0 n)) long
    ∙ cut_again size 0 [] pages (omega arith) all

pub pages_again : (pages : ForkPages) → HaveSize 8192 pages → whole_pages (pages_bytes pages) ≡ pages
unfolding whole_pages
pages_again pages all = parts_again 8192 pages (omega arith) all
