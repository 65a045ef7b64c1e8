-- Numbers of four bytes, one behind the other.
use Rattle.std.proofs.Common.{◌≡◌, ℕ, zero, suc, ◌+◌, ◌*◌, ◌^◌, ◌<◌, ◌≤◌, List, [], ◌∷◌, ◌++◌, length, take, drop, get_or, Some, refl, sym, ap, ◌∙◌, arith}
use Rattle.std.specs.List.{All}
use Rattle.std.specs.Int.{w32, from_le_bytes, to_le_bytes}
use Rattle.std.proofs.lemmas.List.{drop_at, drop-drop, length-append, length-drop, get_or-drop, append_assoc, append-nil, take_more}
use Rattle.std.proofs.lemmas.List.FromFn.{map-range_with_len_more, length-map-range_with_len, fill_by_all}
use Rattle.std.proofs.lemmas.Bool.{le-ltb}
use Rattle.lsn_core.specs.byte_words.Numbers.{IsBytes, number_at, u32_in}
use Rattle.lsn_core.proofs.byte_words.Fields.{wide32, number_again, number_is, number_takes, IsBytes-drop}
use Rattle.incr_file.specs.Head.{numbers_bytes}
use Rattle.incr_file.specs.Reading.{block_numbers}

-- one more number
pub numbers_none : (bytes : List ℕ) → block_numbers bytes 0 ≡ []
unfolding block_numbers
numbers_none bytes = refl

pub numbers_more : (bytes : List ℕ) (n : ℕ) → block_numbers bytes (n + 1) ≡ block_numbers bytes n ++ (u32_in bytes (12 + 4 * n) ∷ [])
unfolding block_numbers
numbers_more bytes n = map-range_with_len_more (λ i. u32_in bytes (12 + 4 * i)) 0 n n (omega arith)

pub length-block_numbers : (bytes : List ℕ) (n : ℕ) → length (block_numbers bytes n) ≡ n
unfolding block_numbers
length-block_numbers bytes n = length-map-range_with_len (λ i. u32_in bytes (12 + 4 * i)) 0 n

pub bytes_more : (ns : List ℕ) (n : ℕ) → numbers_bytes (ns ++ (n ∷ [])) ≡ numbers_bytes ns ++ to_le_bytes w32 n
bytes_more [] n = append-nil (to_le_bytes w32 n)
bytes_more (m ∷ ns) n = ap (λ (l : List ℕ). to_le_bytes w32 m ++ l) (bytes_more ns n) ∙ sym (append_assoc (to_le_bytes w32 m) (numbers_bytes ns) (to_le_bytes w32 n))

pub length-numbers_bytes : (ns : List ℕ) → length (numbers_bytes ns) ≡ 4 * length ns
length-numbers_bytes [] = refl
length-numbers_bytes (n ∷ ns) = let more = length-numbers_bytes ns in length-append (to_le_bytes w32 n) (numbers_bytes ns) ∙ (let z : length (to_le_bytes w32 n) + length (numbers_bytes ns) ≡ 4 * suc (length ns) = omega (arith, wide32.len n) in z)

-- the number at a place is the one at the front of what stands there
pub number_behind : (bytes : List ℕ) (at : ℕ) → u32_in bytes at ≡ u32_in (drop at bytes) 0
number_behind bytes at =
    let a : get_or (drop at bytes) 0 0 ≡ get_or bytes at 0 = get_or-drop at bytes 0 0 ∙ ap (λ (n : ℕ). get_or bytes n 0) (let z : at + 0 ≡ at = omega arith in z) in
    let b : get_or (drop at bytes) 1 0 ≡ get_or bytes (at + 1) 0 = get_or-drop at bytes 1 0 in
    let c : get_or (drop at bytes) 2 0 ≡ get_or bytes (at + 2) 0 = get_or-drop at bytes 2 0 in
    let d : get_or (drop at bytes) 3 0 ≡ get_or bytes (at + 2 + 1) 0 = get_or-drop at bytes 3 0 ∙ ap (λ (n : ℕ). get_or bytes n 0) (let z : at + 3 ≡ at + 2 + 1 = omega arith in z) in
    omega arith

-- a number that was written at a place is read there
pub number_here : (front rest : List ℕ) (n at : ℕ) → length front ≡ at → n < 2 ^ 32 → u32_in (front ++ (to_le_bytes w32 n ++ rest)) at ≡ n
number_here front rest n at e fits =
    number_behind (front ++ (to_le_bytes w32 n ++ rest)) at ∙ ap (λ (l : List ℕ). u32_in l 0) (drop_at front (to_le_bytes w32 n ++ rest) at e)
    ∙ number_is (to_le_bytes w32 n ++ rest) n rest (number_again w32 (2 ^ 32) wide32 n rest fits)

-- written numbers are read, each at its place
number_each : (front ns rest : List ℕ) (at k : ℕ) → length front ≡ at → All (λ n. n < 2 ^ 32) ns → k < length ns → u32_in (front ++ (numbers_bytes ns ++ rest)) (at + 4 * k) ≡ get_or ns k 0
number_each front [] rest at k e fit within = absurd (omega arith)
number_each front (n ∷ ns) rest at zero e fit within =
    ap (λ (l : List ℕ). u32_in (front ++ l) (at + 4 * zero)) (append_assoc (to_le_bytes w32 n) (numbers_bytes ns) rest)
    ∙ number_here front (numbers_bytes ns ++ rest) n (at + 4 * zero) (omega arith) (fit 0 0 within)
number_each front (n ∷ ns) rest at (suc k) e fit within =
    ap (λ (l : List ℕ). u32_in (front ++ l) (at + 4 * suc k)) (append_assoc (to_le_bytes w32 n) (numbers_bytes ns) rest)
    ∙ ap (λ (l : List ℕ). u32_in l (at + 4 * suc k)) (sym (append_assoc front (to_le_bytes w32 n) (numbers_bytes ns ++ rest)))
    ∙ ap (u32_in ((front ++ to_le_bytes w32 n) ++ (numbers_bytes ns ++ rest))) (let z : at + 4 * suc k ≡ at + 4 + 4 * k = omega arith in z)
    ∙ number_each (front ++ to_le_bytes w32 n) ns rest (at + 4) k (omega (arith, length-append front (to_le_bytes w32 n), wide32.len n)) (λ i d lt. fit (suc i) d (omega arith)) (omega arith)

pub numbers_again : (front ns rest : List ℕ) → length front ≡ 12 → All (λ n. n < 2 ^ 32) ns → block_numbers (front ++ (numbers_bytes ns ++ rest)) (length ns) ≡ ns
unfolding block_numbers
numbers_again front ns rest e fit =
    sym (fill_by_all (λ i. u32_in (front ++ (numbers_bytes ns ++ rest)) (12 + 4 * i)) ns (length ns) 0 refl (λ k lt. sym (number_each front ns rest 12 k e fit lt)))

-- one more number behind those that were written
pub written_more : (ns start before after : List ℕ) (i : ℕ) → i < length ns → after ≡ before ++ to_le_bytes w32 (get_or ns i 0) → before ≡ start ++ numbers_bytes (take i ns) → after ≡ start ++ numbers_bytes (take (i + 1) ns)
written_more ns start before after i within e f =
    e ∙ ap (λ (l : List ℕ). l ++ to_le_bytes w32 (get_or ns i 0)) f ∙ append_assoc start (numbers_bytes (take i ns)) (to_le_bytes w32 (get_or ns i 0))
    ∙ ap (λ (l : List ℕ). start ++ l) (sym (bytes_more (take i ns) (get_or ns i 0)) ∙ ap numbers_bytes (sym (take_more ns i 0 within)))

-- four bytes at a place are those of the number there
pub number_cut : (bytes : List ℕ) (at : ℕ) → IsBytes bytes → at + 4 ≤ length bytes → drop at bytes ≡ to_le_bytes w32 (u32_in bytes at) ++ drop (at + 4) bytes
number_cut bytes at fits within =
    let tail = drop at bytes in
    let found : number_at w32 tail ≡ Some (from_le_bytes w32 (take 4 tail), drop 4 tail) = rw (le-ltb (length tail) 4 (omega (arith, length-drop at bytes))) refl in
    let taken = number_takes w32 (2 ^ 32) wide32 tail (from_le_bytes w32 (take 4 tail)) (drop 4 tail) (IsBytes-drop at bytes fits) found in
    let is : u32_in bytes at ≡ from_le_bytes w32 (take 4 tail) = number_behind bytes at ∙ number_is tail (from_le_bytes w32 (take 4 tail)) (drop 4 tail) found in
    taken.parts ∙ ap (λ (n : ℕ). to_le_bytes w32 n ++ drop 4 tail) (sym is) ∙ ap (λ (l : List ℕ). to_le_bytes w32 (u32_in bytes at) ++ l) (drop-drop 4 at bytes)

-- and so of several
pub numbers_cut : (bytes : List ℕ) (n : ℕ) → IsBytes bytes → 12 + 4 * n ≤ length bytes → drop 12 bytes ≡ numbers_bytes (block_numbers bytes n) ++ drop (12 + 4 * n) bytes
numbers_cut bytes zero fits within =
    ap (λ (ns : List ℕ). numbers_bytes ns ++ drop 12 bytes) (sym (numbers_none bytes)) ∙ ap (λ (k : ℕ). numbers_bytes (block_numbers bytes zero) ++ drop k bytes) (let z : 12 ≡ 12 + 4 * zero = omega arith in z)
numbers_cut bytes (suc n) fits within =
    let at : ℕ = 12 + 4 * n in
    let more : block_numbers bytes (suc n) ≡ block_numbers bytes n ++ (u32_in bytes at ∷ []) = ap (block_numbers bytes) (let z : suc n ≡ n + 1 = omega arith in z) ∙ numbers_more bytes n in
    let four : numbers_bytes (block_numbers bytes n) ++ to_le_bytes w32 (u32_in bytes at) ≡ numbers_bytes (block_numbers bytes (suc n)) = sym (bytes_more (block_numbers bytes n) (u32_in bytes at)) ∙ ap numbers_bytes (sym more) in
    numbers_cut bytes n fits (omega arith)
    ∙ ap (λ (l : List ℕ). numbers_bytes (block_numbers bytes n) ++ l) (number_cut bytes at fits (omega arith))
    ∙ sym (append_assoc (numbers_bytes (block_numbers bytes n)) (to_le_bytes w32 (u32_in bytes at)) (drop (at + 4) bytes))
    ∙ ap (λ (l : List ℕ). l ++ drop (at + 4) bytes) four
    ∙ ap (λ (k : ℕ). numbers_bytes (block_numbers bytes (suc n)) ++ drop k bytes) (let z : 12 + 4 * n + 4 ≡ 12 + 4 * suc n = omega arith in z)
