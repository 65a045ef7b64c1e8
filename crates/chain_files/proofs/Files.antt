-- The file that a chain is combined to, by its paths, and its pages as they are read.
use Rattle.std.proofs.Common.{◌≡◌, ℕ, zero, suc, ◌+◌, ◌-◌, ◌*◌, ◌/◌, ◌<◌, ◌≤◌, min, List, [], ◌∷◌, ◌++◌, map, length, take, drop, replicate, reverse, get_or, Option, Some, None, IfSome, sym, ap, ap₂, ◌∙◌, arith, inl, inr}
use Rattle.std.specs.List.{AllByRecursion}
use Rattle.std.proofs.lemmas.Bool.{cases_lt}
use Rattle.std.proofs.lemmas.Grind.{flat_map-append}
use Rattle.std.proofs.lemmas.List.{length-map, length-append, length-take, length-take-le, length-drop, append-nil, append_assoc, drop-drop, drop-map, take-map, take-take, take-append-le, take_at, take_more, map-append, get_or-drop}
use Rattle.std.proofs.lemmas.List.FromFn.{get_or-map-range_with_len}
use Rattle.std.proofs.Math.Seq.{take-add}
use Rattle.lsn_core.specs.byte_words.Pieces.{overwritten}
use Rattle.std.specs.FinMap.{get}
use Rattle.std.specs.Global.{Vec}
use Rattle.lsn_core.specs.Files.{Files}
use Rattle.lsn_core.specs.Store.{ForkPages}
use Rattle.incr_file.specs.Form.{form_in, pages_in_chain, pieces_in, whole_pages, pages_bytes}
use Rattle.chain_files.specs.Segments.{forms_at, chain_pages, AllHaveForms}
use Rattle.chain_files.specs.Sources.{GivesPages, AreRead, member_bytes, bytes_at, slot_page, source_pages, page_count}
use Rattle.chain_files.specs.Inside.{ArePathsOf, forms_by, HasPart, ArePagesOf}
use Rattle.chain_files.specs.declared.paths.FilePaths.{FilePaths}
use Rattle.chain_files.specs.declared.slot.Slot.{Slot}
use Rattle.chain_files.proofs.Blocks.{length-pieces, length-whole}
use Rattle.chain_files.specs.declared.mapping.SourcePages.{SourcePages}
use Rattle.chain_files.specs.declared.mapping.SourcePages.TheVariants.{Plain, Mapped}
use Rattle.chain_files.proofs.Members.{some_is}
use Rattle.chain_files.specs.declared.source.SegmentSource.{SegmentSource}

-- ---- by its paths

forms_same : (chain : List Files) (folder name : List ℕ) (paths : FilePaths) → ArePathsOf folder name paths → forms_at chain folder name ≡ forms_by paths chain
forms_same chain folder name paths is =
    sym (ap₂ (λ (incr plain : List ℕ). map (λ files. form_in (get files incr) (get files plain)) (reverse chain)) is.incr is.plain)

pub have_parts : (folder name : List ℕ) (paths : FilePaths) (chain : List Files) → ArePathsOf folder name paths → AllHaveForms chain → AllByRecursion (HasPart paths) chain
have_parts folder name paths [] is all = tt
have_parts folder name paths (m ∷ chain) is all = (
  λ bytes e. all.0.incremental folder name bytes is.placed (ap (get m) (sym is.incr) ∙ e),
  have_parts folder name paths chain is all.1,
)

pub source_of : (chain : List Files) (folder name : List ℕ) (paths : FilePaths) (pages : SourcePages) → ArePathsOf folder name paths → ArePagesOf chain paths (Some pages) → GivesPages (chain_pages chain folder name) chain (record { paths = paths; pages = pages })
source_of chain folder name paths pages is found = record {
  are = ap pages_in_chain (forms_same chain folder name paths is) ∙ found.0;
  counted = found.1;
}

pub source_none : (chain : List Files) (folder name : List ℕ) (paths : FilePaths) → ArePathsOf folder name paths → ArePagesOf chain paths None → chain_pages chain folder name ≡ None
source_none chain folder name paths is found = ap pages_in_chain (forms_same chain folder name paths is) ∙ found

-- ---- pages as they are read

-- one more page, written behind those before it
pub pages_more : (f : Slot → List ℕ) (size : ℕ) (slots : List Slot) (n i at : ℕ) (d : Slot) (into page : List ℕ) → n + i < length slots → at ≡ i * size → page ≡ f (get_or slots (n + i) d) → length page ≡ size → i * size + size ≤ length into
    → take (i * size) into ≡ pages_bytes (map f (take i (drop n slots))) → take ((i + 1) * size) (overwritten into at page) ≡ pages_bytes (map f (take (i + 1) (drop n slots)))
pages_more f size slots n i at d into page within place is long room so_far =
    let here : i < length (drop n slots) = omega (arith, within, length-drop n slots) in
    let front : length (take (i * size) into) ≡ i * size = length-take-le (i * size) into (omega (arith, room)) in
    let both : length (take (i * size) into ++ page) ≡ (i + 1) * size = omega (arith, length-append (take (i * size) into) page, front, long) in
    ap (λ (k : ℕ). take ((i + 1) * size) (overwritten into k page)) place
    ∙ ap (take ((i + 1) * size)) (sym (append_assoc (take (i * size) into) page (drop (i * size + length page) into)))
    ∙ take_at (take (i * size) into ++ page) (drop (i * size + length page) into) ((i + 1) * size) both
    ∙ ap₂ (λ (x y : List ℕ). x ++ y) so_far (is ∙ ap f (sym (get_or-drop n slots i d)))
    ∙ sym (ap (λ (l : List Slot). pages_bytes (map f l)) (take_more (drop n slots) i d here)
    ∙ ap pages_bytes (map-append f (take i (drop n slots)) (get_or (drop n slots) i d ∷ []))
    ∙ flat_map-append (λ page. page) (map f (take i (drop n slots))) (f (get_or (drop n slots) i d) ∷ [])
    ∙ ap (λ (l : List ℕ). pages_bytes (map f (take i (drop n slots))) ++ l) (append-nil (f (get_or (drop n slots) i d))))

-- pages of a file are its bytes from there on
part_bytes : (size : ℕ) (bytes : List ℕ) (n count : ℕ) → n + count ≤ length bytes / size → pages_bytes (take count (drop n (pieces_in size bytes))) ≡ take (count * size) (drop (n * size) bytes)
part_bytes size bytes n zero within = let none : 0 ≡ 0 * size = omega arith in ap (λ (k : ℕ). take k (drop (n * size) bytes)) none
part_bytes size bytes n (suc count) within =
    let pieces = length-pieces size bytes in
    let here : count < length (drop n (pieces_in size bytes)) = omega (arith, within, length-drop n (pieces_in size bytes), pieces) in
    let one : suc count ≡ count + 1 = omega arith in
    let more : suc count * size ≡ count * size + size = omega arith in
    let place : n * size + count * size ≡ (n + count) * size = omega arith in
    ap (λ (k : ℕ). pages_bytes (take k (drop n (pieces_in size bytes)))) one
    ∙ ap pages_bytes (take_more (drop n (pieces_in size bytes)) count [] here)
    ∙ flat_map-append (λ page. page) (take count (drop n (pieces_in size bytes))) (get_or (drop n (pieces_in size bytes)) count [] ∷ [])
    ∙ ap₂ (λ (x y : List ℕ). x ++ y) (part_bytes size bytes n count (omega (arith, within)))
    (append-nil (get_or (drop n (pieces_in size bytes)) count []) ∙ get_or-drop n (pieces_in size bytes) count []
    ∙ get_or-map-range_with_len (λ i. take size (drop (i * size) bytes)) 0 (length bytes / size) (n + count) (n + count) [] (omega (arith, within)) (omega arith)
    ∙ ap (λ (k : ℕ). take size (drop k bytes)) (sym place)
    ∙ ap (take size) (sym (drop-drop (count * size) (n * size) bytes)))
    ∙ sym (take-add (count * size) size (drop (n * size) bytes))
    ∙ ap (λ (k : ℕ). take k (drop (n * size) bytes)) (sym more)

pub whole_bytes : (bytes : List ℕ) (n count : ℕ) → n + count ≤ length bytes / 8192 → pages_bytes (take count (drop n (whole_pages bytes))) ≡ take (count * 8192) (drop (n * 8192) bytes)
unfolding whole_pages
whole_bytes bytes n count within = part_bytes 8192 bytes n count within

-- the beginning of a part of a file
part_front : (bytes : List ℕ) (at size few : ℕ) → few ≤ size → few ≤ length bytes - at → take few (bytes_at bytes at size) ≡ take few (drop at bytes)
part_front bytes at size few within there =
    let long = length-drop at bytes in
    let taken = length-take size (drop at bytes) in
    take-append-le few (take size (drop at bytes)) (replicate (size - length (take size (drop at bytes))) 0) (omega (arith, long, taken))
    ∙ take-take few size (drop at bytes) within

pub plain_read : (bytes piece : List ℕ) (n most count pages : ℕ) → piece ≡ bytes_at bytes (n * 8192) 65536 → most ≤ 8 → pages ≡ length (whole_pages bytes) → count ≡ min most (pages - n) → AreRead (whole_pages bytes) n most piece count
plain_read bytes piece n most count pages is few counted e =
    let whole = length-whole bytes in
    record {
      counted = e ∙ ap (λ (k : ℕ). min most (k - n)) counted;
      are = elim (cases_lt n (length bytes / 8192)) [
        | inl lt ↦
            ap (take (count * 8192)) is
            ∙ part_front bytes (n * 8192) 65536 (count * 8192) (omega (arith, e, few)) (omega (arith, e, counted, whole, lt))
            ∙ sym (whole_bytes bytes n count (omega (arith, e, counted, whole, lt)))
        | inr ge ↦
            let none : count ≡ 0 = omega (arith, e, counted, whole, ge) in
            ap (λ (k : ℕ). take (k * 8192) piece) none ∙ sym (ap (λ (k : ℕ). pages_bytes (take k (drop n (whole_pages bytes)))) none)
      ];
    }

pub slots_read : (f : Slot → List ℕ) (slots : List Slot) (piece : List ℕ) (n most count : ℕ) → count ≡ min most (length slots - n) → take (count * 8192) piece ≡ pages_bytes (map f (take count (drop n slots))) → AreRead (map f slots) n most piece count
slots_read f slots piece n most count e is = record {
  counted = e ∙ ap (λ (k : ℕ). min most (k - n)) (sym (length-map slots f));
  are = is ∙ ap pages_bytes (sym (ap (take count) (drop-map f n slots) ∙ take-map f count (drop n slots)));
}

pub plain_given : (combined : Option ForkPages) (chain : List Files) (source : SegmentSource) (member pages number most count : ℕ) (piece : List ℕ) → source.pages ≡ Plain member pages → piece ≡ bytes_at (member_bytes chain member source.paths.plain) (number * 8192) 65536 → most ≤ 8
    → count ≡ min most (page_count source.pages - number) → GivesPages combined chain source → IfSome combined (λ given. AreRead given number most piece count)
plain_given combined chain source member pages number most count piece is read few e gives =
    let are : source_pages chain source.paths source.pages ≡ whole_pages (member_bytes chain member source.paths.plain) = ap (source_pages chain source.paths) is in
    some_is combined (whole_pages (member_bytes chain member source.paths.plain)) (λ given. AreRead given number most piece count)
    (gives.are ∙ ap (λ (ps : ForkPages). Some ps) are)
    (plain_read (member_bytes chain member source.paths.plain) piece number most count (page_count source.pages) read few (gives.counted ∙ ap (λ (ps : ForkPages). length ps) are) e)

pub slots_given : (combined : Option ForkPages) (chain : List Files) (source : SegmentSource) (slots : Vec Slot) (number most count : ℕ) (piece : List ℕ) → source.pages ≡ Mapped slots → take (count * 8192) piece ≡ pages_bytes (map (slot_page chain source.paths) (take count (drop number slots.items)))
    → count ≡ min most (page_count source.pages - number) → GivesPages combined chain source → IfSome combined (λ given. AreRead given number most piece count)
slots_given combined chain source slots number most count piece is read e gives =
    let are : source_pages chain source.paths source.pages ≡ map (slot_page chain source.paths) slots.items = ap (source_pages chain source.paths) is in
    some_is combined (map (slot_page chain source.paths) slots.items) (λ given. AreRead given number most piece count)
    (gives.are ∙ ap (λ (ps : ForkPages). Some ps) are)
    (slots_read (slot_page chain source.paths) slots.items piece number most count (e ∙ ap (λ (p : SourcePages). min most (page_count p - number)) is) read)
