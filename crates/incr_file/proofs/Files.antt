-- A file of a head and of pages is read as these.
use Rattle.std.proofs.Common.{◌≡◌, ℕ, zero, suc, ◌+◌, ◌*◌, ◌/◌, ◌<◌, List, [], ◌∷◌, ◌++◌, length, take, drop, get_or, Some, refl, sym, ap, ◌∙◌, arith}
use Rattle.std.specs.Prelude.{slice_get}
use Rattle.std.proofs.lemmas.List.{length-append, take_at, drop_at, drop-drop}
use Rattle.std.proofs.lemmas.List.FromFn.{fill_by_all}
use Rattle.std.proofs.Math.Nat.{mul-div_cancel}
use Rattle.lsn_core.specs.Store.{ForkPages}
use Rattle.incr_file.specs.declared.head.IncrHead.{IncrHead}
use Rattle.incr_file.specs.Head.{IsHead, head_bytes, body_place}
use Rattle.incr_file.specs.Form.{Part, pieces_in, whole_pages, pages_bytes, part_in}
use Rattle.incr_file.proofs.Heads.{head_again, length-head_bytes}

-- each page has so many bytes
abbrev pub HaveSize : ℕ → ForkPages → Type 0
HaveSize size pages = (i : ℕ) (page : List ℕ) → slice_get pages i ≡ Some page → length page ≡ size

length-pages_bytes : (size : ℕ) (pages : ForkPages) → HaveSize size pages → length (pages_bytes pages) ≡ length pages * size
length-pages_bytes size [] sized = let z : 0 ≡ 0 * size = omega arith in z
length-pages_bytes size (p ∷ pages) sized =
    let here = sized 0 p refl in
    let rest = length-pages_bytes size pages (λ i q e. sized (suc i) q e) in
    let more : suc (length pages) * size ≡ size + length pages * size = omega arith in
    length-append p (pages_bytes pages) ∙ (let z : length p + length (pages_bytes pages) ≡ suc (length pages) * size = omega arith in z)

-- a page of the bytes that pages make
page_cut : (size : ℕ) (pages : ForkPages) (i : ℕ) → HaveSize size pages → i < length pages → take size (drop (i * size) (pages_bytes pages)) ≡ get_or pages i []
page_cut size [] i sized within = absurd (omega arith)
page_cut size (p ∷ pages) zero sized within =
    ap (λ (k : ℕ). take size (drop k (p ++ pages_bytes pages))) (let z : zero * size ≡ 0 = omega arith in z) ∙ take_at p (pages_bytes pages) size (sized 0 p refl)
page_cut size (p ∷ pages) (suc i) sized within =
    ap (λ (k : ℕ). take size (drop k (p ++ pages_bytes pages))) (let z : suc i * size ≡ size + i * size = omega arith in z)
    ∙ ap (take size) (sym (drop-drop (i * size) size (p ++ pages_bytes pages)) ∙ ap (drop (i * size)) (drop_at p (pages_bytes pages) size (sized 0 p refl)))
    ∙ page_cut size pages i (λ j q f. sized (suc j) q f) (omega arith)

pub parts_again : (size : ℕ) (pages : ForkPages) → 0 < size → HaveSize size pages → pieces_in size (pages_bytes pages) ≡ pages
parts_again size pages some sized =
    let count : length pages ≡ length (pages_bytes pages) / size = sym (ap (λ (n : ℕ). n / size) (length-pages_bytes size pages sized) ∙ mul-div_cancel (length pages) some) in
    sym (fill_by_all (λ n. take size (drop (n * size) (pages_bytes pages))) pages (length (pages_bytes pages) / size) [] count (λ k lt. sym (page_cut size pages k sized (omega arith))))

pub pages_again : (pages : ForkPages) → HaveSize 8192 pages → whole_pages (pages_bytes pages) ≡ pages
unfolding whole_pages
pages_again pages sized = parts_again 8192 pages (omega arith) sized

pub part_again : (head : IncrHead) (pages : ForkPages) → IsHead head → HaveSize 8192 pages → part_in (head_bytes head ++ pages_bytes pages) ≡ Part head pages
part_again head pages is sized =
    let again = head_again head (pages_bytes pages) is in
    ap (λ (h : IncrHead). Part h (whole_pages (drop (body_place (length h.blocks)) (head_bytes head ++ pages_bytes pages)))) (sym again.1.2)
    ∙ ap (λ (l : List ℕ). Part head (whole_pages l)) (drop_at (head_bytes head) (pages_bytes pages) (body_place (length head.blocks)) (length-head_bytes head))
    ∙ ap (λ (ps : ForkPages). Part head ps) (pages_again pages sized)
