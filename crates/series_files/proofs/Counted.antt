-- An incremental file has a page for each block that it lists.
use Rattle.std.proofs.Common.{◌≡◌, ℕ, ◌+◌, ◌*◌, ◌/◌, ◌||◌, true, false, cond, List, [], ◌∷◌, length, drop, Option, Some, None, refl, sym, ap, ◌∙◌, arith}
use Rattle.std.specs.Prelude.{◌==◌}
use Rattle.std.specs.FinMap.{get}
use Rattle.std.specs.Option.{is_some}
use Rattle.std.proofs.lemmas.List.{length-drop}
use Rattle.std.proofs.lemmas.List.FromFn.{length-map-range_with_len}
use Rattle.lsn_core.specs.Files.{Files}
use Rattle.lsn_core.specs.Store.{ForkPages}
use Rattle.incr_file.specs.Form.{Form, Absent, Plain, Part, form_in, whole_pages, sent_page}
use Rattle.incr_file.specs.Head.{body_place, file_size}
use Rattle.incr_file.specs.Plan.{has_block}
use Rattle.incr_file.specs.Reading.{head_in, listed_count, block_numbers}
use Rattle.chain_files.specs.Segments.{form_at, HasForms, IsIncrFile}
use Rattle.chain_files.specs.Paths.{file_path, IsRelationFile}

abbrev pub IsCounted : Form → Type 0
IsCounted Absent = Unit {0}
IsCounted (Plain pages) = Unit {0}
IsCounted (Part head pages) = length pages ≡ length head.blocks

length-whole : (bytes : List ℕ) → length (whole_pages bytes) ≡ length bytes / 8192
unfolding whole_pages
length-whole bytes = length-map-range_with_len _ 0 (length bytes / 8192)

length-numbers : (bytes : List ℕ) → length (head_in bytes).blocks ≡ listed_count bytes
unfolding block_numbers
length-numbers bytes = length-map-range_with_len _ 0 (listed_count bytes)

part_counted : (bytes : List ℕ) → IsIncrFile bytes (length bytes) → length (whole_pages (drop (body_place (length (head_in bytes).blocks)) bytes)) ≡ length (head_in bytes).blocks
part_counted bytes is =
    let count = length-numbers bytes in
    let size : length bytes ≡ body_place (length (head_in bytes).blocks) + 8192 * length (head_in bytes).blocks = is.front.size ∙ ap file_size (sym count) in
    let body = body_place (length (head_in bytes).blocks) in
    let left = length-drop body bytes in
    length-whole (drop body bytes) ∙ (let z : length (drop body bytes) / 8192 ≡ length (head_in bytes).blocks = omega (arith, left, size) in z)

counted_by : (incr plain : Option (List ℕ)) → ((bytes : List ℕ) → incr ≡ Some bytes → IsIncrFile bytes (length bytes)) → IsCounted (form_in incr plain)
counted_by (Some bytes) plain is = part_counted bytes (is bytes refl)
counted_by None (Some bytes) is = tt
counted_by None None is = tt

pub form_counted : (folder name : List ℕ) (m : Files) → IsRelationFile folder name → HasForms m → IsCounted (form_at folder name m)
form_counted folder name m named has =
    counted_by (get m (file_path folder name true)) (get m (file_path folder name false)) (λ bytes e. has.incremental folder name bytes named e)

pub sent_has : (blocks : List ℕ) (pages : ForkPages) (b : ℕ) → length pages ≡ length blocks → is_some (sent_page blocks pages b) ≡ has_block blocks b
sent_has [] pages b e = refl
sent_has (x ∷ blocks) [] b e = absurd (omega (arith, e))
sent_has (x ∷ blocks) (p ∷ pages) b e =
    elim (x == b) as (λ s. is_some (cond s (Some p) (sent_page blocks pages b)) ≡ (s || has_block blocks b)) [
      | true ↦ refl
      | false ↦ sent_has blocks pages b (omega (arith, e))
    ]
