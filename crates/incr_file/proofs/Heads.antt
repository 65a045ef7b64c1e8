-- A head that was written is read as it was, and what is read as a head is its text.
use Rattle.std.proofs.Common.{◌≡◌, ℕ, ◌+◌, ◌*◌, ◌-◌, ◌^◌, ◌<◌, ◌≤◌, List, [], ◌++◌, length, take, drop, replicate, Ok, refl, sym, ap, subst, ◌∙◌, arith}
use Rattle.std.specs.List.{All}
use Rattle.std.specs.Int.{w32, to_le_bytes}
use Rattle.std.proofs.lemmas.List.{length-append, length-replicate, append_assoc, take_all}
use Rattle.lsn_core.specs.byte_words.Numbers.{IsBytes, u32_in}
use Rattle.lsn_core.proofs.byte_words.Fields.{wide32}
use Rattle.incr_file.specs.declared.head.IncrHead.{IncrHead}
use Rattle.incr_file.specs.declared.head.HeadView.{HeadView}
use Rattle.incr_file.specs.Head.{head_magic, IsHead, head_with, head_size, body_place, file_size, numbers_bytes, fields_bytes, head_bytes}
use Rattle.incr_file.specs.Reading.{listed_count, block_numbers, head_in, HoldsHead, HeadAnswers, HasPlaces, view_of}
use Rattle.incr_file.proofs.Rising.{length_below}
use Rattle.incr_file.proofs.BodyPlace.{body_behind}
use Rattle.incr_file.proofs.Numbers.{length-block_numbers, length-numbers_bytes, number_here, numbers_again, number_cut, numbers_cut}

pub few_blocks : (head : IncrHead) → IsHead head → length head.blocks ≤ 131072
few_blocks head is = length_below head.blocks 131072 is.rising is.blocks_fit

-- the text of a head, number by number
parts : (head : IncrHead) (tail : List ℕ) → fields_bytes head ++ tail ≡ to_le_bytes w32 head_magic ++ (to_le_bytes w32 (length head.blocks) ++ (to_le_bytes w32 head.truncation ++ (numbers_bytes head.blocks ++ tail)))
unfolding fields_bytes
parts head tail = refl

pub length-fields : (head : IncrHead) → length (fields_bytes head) ≡ head_size (length head.blocks)
unfolding fields_bytes
length-fields head = omega (arith, length-numbers_bytes head.blocks)

-- so many bytes come before the first block
pub length-head_bytes : (head : IncrHead) → length (head_bytes head) ≡ body_place (length head.blocks)
length-head_bytes head =
    let long = length-fields head in
    let b = body_behind (length head.blocks) in
    let zeros = length-replicate {A = ℕ} (body_place (length head.blocks) - length (fields_bytes head)) 0 in
    length-append (fields_bytes head) (replicate (body_place (length head.blocks) - length (fields_bytes head)) 0) ∙ (let z : length (fields_bytes head) + length (replicate {A = ℕ} (body_place (length head.blocks) - length (fields_bytes head)) 0) ≡ body_place (length head.blocks) = omega arith in z)

-- bytes that are brought to this length
pub padded : (head : IncrHead) (items : List ℕ) (long size : ℕ) → items ≡ fields_bytes head → long ≡ length items → size ≡ body_place (length head.blocks) → take size items ++ replicate (size - long) 0 ≡ head_bytes head
padded head items long size e f g =
    rw (f, e, g, take_all (body_place (length head.blocks)) (fields_bytes head) (let b = body_behind (length head.blocks) in let long = length-fields head in omega arith)) refl

abbrev head_parts : ℕ → List ℕ → IncrHead
head_parts t bs = head_with t bs

same_head : (a b : ℕ) (xs ys : List ℕ) → a ≡ b → xs ≡ ys → head_parts a xs ≡ head_parts b ys
same_head a b xs ys e f = ap (λ (n : ℕ). head_parts n xs) e ∙ ap (head_parts b) f

-- what is read of a head's text
record IsReadAs (bytes : List ℕ) (head : IncrHead) : Type 0 where
  magic : u32_in bytes 0 ≡ head_magic
  count : listed_count bytes ≡ length head.blocks
  same : head_in bytes ≡ head

fields_again : (head : IncrHead) (tail : List ℕ) → IsHead head → IsReadAs (fields_bytes head ++ tail) head
fields_again head tail is =
    let few = few_blocks head is in
    let m = to_le_bytes w32 head_magic in
    let c = to_le_bytes w32 (length head.blocks) in
    let t = to_le_bytes w32 head.truncation in
    let ns = numbers_bytes head.blocks ++ tail in
    let bytes = fields_bytes head ++ tail in
    let fit : All (λ n. n < 2 ^ 32) head.blocks = λ k d lt. omega (arith, is.blocks_fit k d lt) in
    let count : listed_count bytes ≡ length head.blocks = ap (λ (l : List ℕ). u32_in l 4) (parts head tail) ∙ number_here m (t ++ ns) (length head.blocks) 4 (wide32.len head_magic) (omega arith) in
    let limit : u32_in bytes 8 ≡ head.truncation = ap (λ (l : List ℕ). u32_in l 8) (parts head tail) ∙ number_here (m ++ c) ns head.truncation 8 refl (omega (arith, is.length_fits)) in
    let blocks : block_numbers bytes (length head.blocks) ≡ head.blocks = ap (λ (l : List ℕ). block_numbers l (length head.blocks)) (parts head tail) ∙ numbers_again (m ++ (c ++ t)) head.blocks tail refl fit in
    record {
      magic = ap (λ (l : List ℕ). u32_in l 0) (parts head tail) ∙ number_here [] (c ++ (t ++ ns)) head_magic 0 refl (omega arith);
      count = count;
      same = same_head (u32_in bytes 8) head.truncation (block_numbers bytes (listed_count bytes)) head.blocks limit (ap (block_numbers bytes) count ∙ blocks);
    }

pub head_again : (head : IncrHead) (body : List ℕ) → IsHead head → HoldsHead (head_bytes head ++ body) (file_size (length head.blocks)) × HeadAnswers (head_bytes head ++ body) (file_size (length head.blocks)) (Ok (view_of head))
head_again head body is =
    let zeros = replicate {A = ℕ} (body_place (length head.blocks) - length (fields_bytes head)) 0 in
    let e : head_bytes head ++ body ≡ fields_bytes head ++ (zeros ++ body) = append_assoc (fields_bytes head) zeros body in
    let again = fields_again head (zeros ++ body) is in
    let count : listed_count (head_bytes head ++ body) ≡ length head.blocks = ap listed_count e ∙ again.count in
    let long : length (head_bytes head ++ body) ≡ body_place (length head.blocks) + length body = length-append (head_bytes head) body ∙ ap (λ (n : ℕ). n + length body) (length-head_bytes head) in
    let behind = body_behind (length head.blocks) in
    let within : head_size (length head.blocks) ≤ length (head_bytes head ++ body) = omega arith in (
      record {
        front = omega arith;
        numbers = λ size. subst (λ (n : ℕ). head_size n ≤ length (head_bytes head ++ body)) (sym count) within;
      },
      (
        record {
          size = ap file_size (sym count);
          magic = ap (λ (l : List ℕ). u32_in l 0) e ∙ again.magic;
        },
        is,
        sym (ap head_in e ∙ again.same),
        ap body_place (sym count),
      ),
    )

-- bytes that are read as a head begin with its text
text : (bytes : List ℕ) → IsBytes bytes → head_size (listed_count bytes) ≤ length bytes → u32_in bytes 0 ≡ head_magic → bytes ≡ fields_bytes (head_in bytes) ++ drop (head_size (listed_count bytes)) bytes
text bytes fits within magic =
    let n : ℕ = listed_count bytes in
    let count : n ≡ length (block_numbers bytes n) = sym (length-block_numbers bytes n) in
    let body = drop (12 + 4 * n) bytes in
    let a : bytes ≡ to_le_bytes w32 (u32_in bytes 0) ++ drop 4 bytes = number_cut bytes 0 fits (omega arith) in
    let b : drop 4 bytes ≡ to_le_bytes w32 (u32_in bytes 4) ++ drop 8 bytes = number_cut bytes 4 fits (omega arith) in
    let c : drop 8 bytes ≡ to_le_bytes w32 (u32_in bytes 8) ++ drop 12 bytes = number_cut bytes 8 fits (omega arith) in
    let d : drop 12 bytes ≡ numbers_bytes (block_numbers bytes n) ++ body = numbers_cut bytes n fits within in
    a ∙ ap (λ (k : ℕ). to_le_bytes w32 k ++ drop 4 bytes) magic
    ∙ ap (λ (l : List ℕ). to_le_bytes w32 head_magic ++ l) (b ∙ ap (λ (l : List ℕ). to_le_bytes w32 n ++ l) (c ∙ ap (λ (l : List ℕ). to_le_bytes w32 (u32_in bytes 8) ++ l) d)
    ∙ ap (λ (k : ℕ). to_le_bytes w32 k ++ (to_le_bytes w32 (u32_in bytes 8) ++ (numbers_bytes (block_numbers bytes n) ++ body))) count)
    ∙ sym (parts (head_in bytes) body)

pub head_text : (bytes : List ℕ) (file : ℕ) (view : HeadView) → IsBytes bytes → HoldsHead bytes file → HeadAnswers bytes file (Ok view) → (body : List ℕ) × (bytes ≡ fields_bytes view.head ++ body)
head_text bytes file view fits holds answer =
    let body = drop (head_size (listed_count bytes)) bytes in
    (body, text bytes fits (holds.numbers answer.0.size) answer.0.magic ∙ ap (λ (h : IncrHead). fields_bytes h ++ body) (sym answer.2))

-- a head that was read has the places of its blocks
pub read_places : (bytes : List ℕ) (file : ℕ) (view : HeadView) → HeadAnswers bytes file (Ok view) → HasPlaces view
read_places bytes file view answer =
    let few = few_blocks view.head answer.1 in
    let count : length view.head.blocks ≡ listed_count bytes = ap (λ (h : IncrHead). length h.blocks) answer.2 ∙ length-block_numbers bytes (listed_count bytes) in
    let behind = body_behind (listed_count bytes) in
    let body = answer.3 in
    record { blocks = few; body = omega arith }
