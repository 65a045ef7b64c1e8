-- The size of an incremental file.
use Rattle.std.proofs.Common.{◌≡◌, ℕ, suc, ◌+◌, ◌-◌, ◌*◌, ◌/◌, ◌≤◌, true, false, cond, List, [], ◌∷◌, ◌++◌, length, length-append, replicate, refl, ◌∙◌, arith}
use Rattle.std.specs.Prelude.{◌==◌}
use Rattle.std.specs.Int.{w32, to_le_bytes}
use Rattle.std.proofs.lemmas.Bool.{eqb-true}
use Rattle.std.proofs.lemmas.List.{length-replicate}
use Rattle.lsn_core.proofs.byte_words.Fields.{wide32}
use Rattle.lsn_core.specs.Store.{ForkPages}
use Rattle.incr_file.specs.Form.{pages_bytes}
use Rattle.incr_file.specs.Head.{body_place, fields_bytes, file_size, head_bytes, head_size, numbers_bytes}
use Rattle.incr_file.specs.declared.head.IncrHead.{IncrHead}
use Rattle.chain_files.proofs.Pages.{HaveSize, bytes_length}

numbers_size : (ns : List ℕ) → length (numbers_bytes ns) ≡ 4 * length ns
numbers_size [] = refl
numbers_size (n ∷ ns) = let more = numbers_size ns in length-append (to_le_bytes w32 n) (numbers_bytes ns) ∙ (let z : length (to_le_bytes w32 n) + length (numbers_bytes ns) ≡ 4 * suc (length ns) = omega (arith, wide32.len n) in z)

fields_size : (head : IncrHead) → length (fields_bytes head) ≡ head_size (length head.blocks)
unfolding fields_bytes
fields_size head = omega (arith, numbers_size head.blocks)

-- the first block stands behind the numbers
place_behind : (count : ℕ) → head_size count ≤ body_place count
unfolding body_place
place_behind count = elim (count == 0) as (λ s. (count == 0) ≡ s → head_size count ≤ cond s 12 ((12 + 4 * count + 8191) / 8192 * 8192)) [
  | true ↦ λ k. let is = eqb-true count 0 k in omega arith
  | false ↦ λ k. omega arith
] refl

front_size : (head : IncrHead) → length (head_bytes head) ≡ body_place (length head.blocks)
front_size head =
    let place : ℕ = body_place (length head.blocks) in
    let zeros : List ℕ = replicate (place - length (fields_bytes head)) 0 in
    length-append (fields_bytes head) zeros
    ∙ (let z : length (fields_bytes head) + length zeros ≡ place = omega (arith, fields_size head, place_behind (length head.blocks), length-replicate {A = ℕ} (place - length (fields_bytes head)) 0) in z)

-- a head and a page for each block that it lists
pub part_size : (head : IncrHead) (pages : ForkPages) → HaveSize 8192 pages → length pages ≡ length head.blocks → length (head_bytes head ++ pages_bytes pages) ≡ file_size (length head.blocks)
part_size head pages sized many = length-append (head_bytes head) (pages_bytes pages) ∙ (let z : length (head_bytes head) + length (pages_bytes pages) ≡ file_size (length head.blocks) = omega (arith, front_size head, bytes_length 8192 pages sized, many) in z)
