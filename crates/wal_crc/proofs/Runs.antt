-- Eight bytes as one word, and the chunks of a text.
use Rattle.std.proofs.Common.{◌≡◌, ℕ, zero, suc, ◌+◌, ◌*◌, ◌/◌, ◌%◌, ◌^◌, ◌<◌, List, [], ◌∷◌, ◌++◌, length, get_or, take, drop, fold, bit_xor, refl, sym, ap, ◌∙◌, arith, suc-mul, zero-mul, add_comm, length-drop}
use Rattle.std.specs.Int.{w32, w64, from_le_bytes, to_le_bytes}
use Rattle.std.specs.Int.Bits.{xor_assoc, xor_zero_r, xor_disjoint, xor_shifted, and_shifted}
use Rattle.std.specs.Simd.{first_chunks}
use Rattle.std.proofs.lemmas.Nat.{xor_comm, shr-shr}
use Rattle.std.proofs.Math.Seq.{take-add}
use Rattle.std.proofs.lemmas.List.{take-append-drop, take_all, length-take-le, get_or-drop}
use Rattle.std.proofs.lemmas.List.Sums.{fold-append}
use Rattle.wal_crc.specs.Crc.{bit_steps, byte_step, crc_run}
use Rattle.wal_crc.proofs.Sixteen.{sixteen}
use Rattle.wal_crc.proofs.Steps.{steps_add, steps_xor, zeros_leave, low_byte_apart}

-- the next byte's part joins those before it
next_part : (before n x y all : ℕ) → bit_xor before (bit_steps (8 + n) x) ≡ all → x / 256 ≡ y → bit_xor (bit_xor before (bit_steps (8 + n) (x % 256))) (bit_steps n y) ≡ all
next_part before n x y all so_far rest =
    ap (λ (r : ℕ). bit_xor (bit_xor before (bit_steps (8 + n) (x % 256))) (bit_steps n r)) (sym rest)
    ∙ xor_assoc before (bit_steps (8 + n) (x % 256)) (bit_steps n (x / 256))
    ∙ ap (bit_xor before) (sym (low_byte_apart n x))
    ∙ so_far

-- the parts of a word's eight bytes
abbrev parts : ℕ → ℕ → ℕ → ℕ → ℕ → ℕ → ℕ → ℕ → ℕ
parts a b c d e f g h = bit_xor (bit_xor (bit_xor (bit_xor (bit_xor (bit_xor (bit_xor a b) c) d) e) f) g) h

word_parts : (w : ℕ) → w < 2 ^ 64 → parts (bit_steps 64 (w % 256)) (bit_steps 56 (w / 256 % 256)) (bit_steps 48 (w / 256 ^ 2 % 256)) (bit_steps 40 (w / 256 ^ 3 % 256)) (bit_steps 32 (w / 256 ^ 4 % 256)) (bit_steps 24 (w / 256 ^ 5 % 256)) (bit_steps 16 (w / 256 ^ 6 % 256)) (bit_steps 8 (w / 256 ^ 7 % 256)) ≡ bit_steps 64 w
word_parts w fits =
    let last : w / 256 ^ 7 % 256 ≡ w / 256 ^ 7 = omega arith in
    ap (parts (bit_steps 64 (w % 256)) (bit_steps 56 (w / 256 % 256)) (bit_steps 48 (w / 256 ^ 2 % 256)) (bit_steps 40 (w / 256 ^ 3 % 256)) (bit_steps 32 (w / 256 ^ 4 % 256)) (bit_steps 24 (w / 256 ^ 5 % 256)) (bit_steps 16 (w / 256 ^ 6 % 256))) (ap (bit_steps 8) last)
    ∙ next_part _ 8 (w / 256 ^ 6) (w / 256 ^ 7) _ (next_part _ 16 (w / 256 ^ 5) (w / 256 ^ 6) _ (next_part _ 24 (w / 256 ^ 4) (w / 256 ^ 5) _ (next_part _ 32 (w / 256 ^ 3) (w / 256 ^ 4) _ (next_part _ 40 (w / 256 ^ 2) (w / 256 ^ 3) _ (next_part _ 48 (w / 256) (w / 256 ^ 2) _ (sym (low_byte_apart 56 w))
    (shr-shr w 8 8)) (shr-shr w 16 8)) (shr-shr w 24 8)) (shr-shr w 32 8)) (shr-shr w 40 8)) (shr-shr w 48 8)

-- each part from a table
pub joined : (w : ℕ) → w < 2 ^ 64 → (bytes : List ℕ) → bytes ≡ to_le_bytes w64 w → (a b c d e f g h : ℕ)
    → a ≡ bit_steps 64 (get_or bytes 0 0) → b ≡ bit_steps 56 (get_or bytes 1 0) → c ≡ bit_steps 48 (get_or bytes 2 0) → d ≡ bit_steps 40 (get_or bytes 3 0)
    → e ≡ bit_steps 32 (get_or bytes 4 0) → f ≡ bit_steps 24 (get_or bytes 5 0) → g ≡ bit_steps 16 (get_or bytes 6 0) → h ≡ bit_steps 8 (get_or bytes 7 0)
    → parts a b c d e f g h ≡ bit_steps 64 w
joined w fits bytes same a b c d e f g h pa pb pc pd pe pf pg ph = rw (pa, pb, pc, pd, pe, pf, pg, ph, same) (word_parts w fits)

-- the number that some bytes are, least first
unfoldable pub le_number : List ℕ → ℕ
le_number [] = 0
le_number (b ∷ bs) = le_number bs * 256 + b

-- the number in place of the bytes
number_run : (r : ℕ) (bs : List ℕ) → ((i : ℕ) → get_or bs i 0 < 256) → bit_steps (8 * length bs) (bit_xor r (le_number bs)) ≡ crc_run r bs
unfolding le_number bit_steps
number_run r [] small = xor_zero_r r
number_run r (b ∷ bs) small =
    let m : ℕ = le_number bs in
    let longer : 8 * suc (length bs) ≡ 8 + 8 * length bs = omega arith in
    let apart : bit_xor r (m * 256 + b) ≡ bit_xor (bit_xor r b) (m * 256) =
    ap (bit_xor r) (sym (xor_disjoint (m * 256) b (and_shifted m 8 b (small 0))) ∙ xor_comm (m * 256) b) ∙ sym (xor_assoc r b (m * 256)) in
    ap (λ (n : ℕ). bit_steps n (bit_xor r (m * 256 + b))) longer
    ∙ steps_add 8 (8 * length bs) (bit_xor r (m * 256 + b))
    ∙ ap (bit_steps (8 * length bs)) (ap (bit_steps 8) apart ∙ steps_xor 8 (bit_xor r b) (m * 256) ∙ ap (bit_xor (byte_step r b)) (zeros_leave 8 m))
    ∙ number_run (byte_step r b) bs (λ i. small (suc i))

eight_number : (bs : List ℕ) → length bs ≡ 8 → le_number bs ≡ from_le_bytes w64 bs
unfolding le_number
eight_number (a ∷ b ∷ c ∷ d ∷ e ∷ f ∷ g ∷ h ∷ []) _ = omega arith
eight_number _ size = absurd (omega (arith, size))

pub eight_run : (r : ℕ) (bs : List ℕ) → length bs ≡ 8 → ((i : ℕ) → get_or bs i 0 < 256) → bit_steps 64 (bit_xor (from_le_bytes w64 bs) r) ≡ crc_run r bs
eight_run r bs size small =
    ap (bit_steps 64) (xor_comm (from_le_bytes w64 bs) r ∙ ap (bit_xor r) (sym (eight_number bs size)))
    ∙ ap (λ (n : ℕ). bit_steps (8 * n) (bit_xor r (le_number bs))) (sym size)
    ∙ number_run r bs small

-- eight bytes are bytes
eight_small : (a b c d e f g h : ℕ) → a < 256 → b < 256 → c < 256 → d < 256 → e < 256 → f < 256 → g < 256 → h < 256
    → (i : ℕ) → get_or (a ∷ b ∷ c ∷ d ∷ e ∷ f ∷ g ∷ h ∷ []) i 0 < 256
eight_small a b c d e f g h la lb lc ld le lf lg lh zero = la
eight_small a b c d e f g h la lb lc ld le lf lg lh (suc zero) = lb
eight_small a b c d e f g h la lb lc ld le lf lg lh (suc (suc zero)) = lc
eight_small a b c d e f g h la lb lc ld le lf lg lh (suc (suc (suc zero))) = ld
eight_small a b c d e f g h la lb lc ld le lf lg lh (suc (suc (suc (suc zero)))) = le
eight_small a b c d e f g h la lb lc ld le lf lg lh (suc (suc (suc (suc (suc zero))))) = lf
eight_small a b c d e f g h la lb lc ld le lf lg lh (suc (suc (suc (suc (suc (suc zero)))))) = lg
eight_small a b c d e f g h la lb lc ld le lf lg lh (suc (suc (suc (suc (suc (suc (suc zero))))))) = lh
eight_small a b c d e f g h la lb lc ld le lf lg lh (suc (suc (suc (suc (suc (suc (suc (suc i)))))))) = omega arith

-- bytes behind a register: what the register becomes by as many zeros, and what they make of nothing
pub apart : (r : ℕ) (bs : List ℕ) → ((i : ℕ) → get_or bs i 0 < 256) → crc_run r bs ≡ bit_xor (bit_steps (8 * length bs) r) (crc_run 0 bs)
apart r bs small =
    let n : ℕ = 8 * length bs in
    let m : ℕ = le_number bs in
    sym (number_run r bs small) ∙ steps_xor n r m ∙ ap (λ (x : ℕ). bit_xor (bit_steps n r) x) (ap (bit_steps n) (sym (xor_comm 0 m ∙ xor_zero_r m)) ∙ number_run 0 bs small)

-- two pieces, each by itself
pub side_by_side : (r n : ℕ) (front back : List ℕ) → length back ≡ n → ((i : ℕ) → get_or back i 0 < 256)
    → bit_xor (bit_steps (8 * n) (crc_run r front)) (crc_run 0 back) ≡ crc_run r (front ++ back)
side_by_side r n front back size small =
    ap (λ (k : ℕ). bit_xor (bit_steps (8 * k) (crc_run r front)) (crc_run 0 back)) (sym size)
    ∙ sym (apart (crc_run r front) back small)
    ∙ sym (fold-append byte_step r front back)

-- eight bytes, and eight more
pub sixteen_run : (r first second : ℕ) (front back : List ℕ) → length front ≡ 8 → length back ≡ 8
    → ((i : ℕ) → get_or front i 0 < 256) → ((i : ℕ) → get_or back i 0 < 256)
    → first ≡ bit_steps 128 (bit_xor (from_le_bytes w64 front) r) → second ≡ bit_steps 64 (from_le_bytes w64 back)
    → bit_xor first second ≡ crc_run r (front ++ back)
sixteen_run r first second front back sf sb small_f small_b ef es =
    let x : ℕ = bit_xor (from_le_bytes w64 front) r in
    let one : first ≡ bit_steps 64 (crc_run r front) = ef ∙ steps_add 64 64 x ∙ ap (bit_steps 64) (eight_run r front sf small_f) in
    let two : second ≡ crc_run 0 back = es ∙ ap (bit_steps 64) (sym (xor_zero_r (from_le_bytes w64 back))) ∙ eight_run 0 back sb small_b in
    rw (one, two) (side_by_side r 8 front back sb small_b)

-- a byte's part once as many zeros more have left
later : (d n x : ℕ) → bit_steps (d + n) x ≡ bit_steps n (bit_steps d x)
later d n x = steps_add d n x

-- the parts once 64 zeros more have left
parts_later : (a b c d e f g h w : ℕ) → parts a b c d e f g h ≡ bit_steps 64 w
    → parts (bit_steps 64 a) (bit_steps 64 b) (bit_steps 64 c) (bit_steps 64 d) (bit_steps 64 e) (bit_steps 64 f) (bit_steps 64 g) (bit_steps 64 h) ≡ bit_steps 128 w
parts_later a b c d e f g h w same =
    rw (
      ← steps_xor 64 a b,
      ← steps_xor 64 (bit_xor a b) c,
      ← steps_xor 64 (bit_xor (bit_xor a b) c) d,
      ← steps_xor 64 (bit_xor (bit_xor (bit_xor a b) c) d) e,
      ← steps_xor 64 (bit_xor (bit_xor (bit_xor (bit_xor a b) c) d) e) f,
      ← steps_xor 64 (bit_xor (bit_xor (bit_xor (bit_xor (bit_xor a b) c) d) e) f) g,
      ← steps_xor 64 (bit_xor (bit_xor (bit_xor (bit_xor (bit_xor (bit_xor a b) c) d) e) f) g) h,
    )
    (ap (bit_steps 64) same ∙ sym (steps_add 64 64 w))

-- each part from a table's later rows
pub joined_later : (w : ℕ) → w < 2 ^ 64 → (bytes : List ℕ) → bytes ≡ to_le_bytes w64 w → (a b c d e f g h : ℕ)
    → a ≡ bit_steps 128 (get_or bytes 0 0) → b ≡ bit_steps 120 (get_or bytes 1 0) → c ≡ bit_steps 112 (get_or bytes 2 0) → d ≡ bit_steps 104 (get_or bytes 3 0)
    → e ≡ bit_steps 96 (get_or bytes 4 0) → f ≡ bit_steps 88 (get_or bytes 5 0) → g ≡ bit_steps 80 (get_or bytes 6 0) → h ≡ bit_steps 72 (get_or bytes 7 0)
    → parts a b c d e f g h ≡ bit_steps 128 w
joined_later w fits bytes same a b c d e f g h pa pb pc pd pe pf pg ph =
    rw (pa ∙ steps_add 64 64 _, pb ∙ steps_add 56 64 _, pc ∙ steps_add 48 64 _, pd ∙ steps_add 40 64 _, pe ∙ steps_add 32 64 _, pf ∙ steps_add 24 64 _, pg ∙ steps_add 16 64 _, ph ∙ steps_add 8 64 _)
    (parts_later _ _ _ _ _ _ _ _ w (joined w fits bytes same _ _ _ _ _ _ _ _ refl refl refl refl refl refl refl refl))

-- chunk by chunk, or all at once
module _ (n : ℕ) where
  longer : (k : ℕ) → n + k * n ≡ suc k * n
  longer k = sym (suc-mul k n ∙ add_comm (k * n) n)

  pub chunks_run : (k r : ℕ) (bytes : List ℕ) → fold crc_run r (first_chunks n k bytes) ≡ crc_run r (take (k * n) bytes)
  chunks_run zero r bytes = rw zero-mul refl
  chunks_run (suc k) r bytes =
      chunks_run k (crc_run r (take n bytes)) (drop n bytes)
      ∙ sym (fold-append byte_step r (take n bytes) (take (k * n) (drop n bytes)))
      ∙ ap (crc_run r) (sym (take-add n (k * n) bytes) ∙ ap (λ (m : ℕ). take m bytes) (longer k))

  -- the chunks and then what is left of them
  pub whole_run : (k r : ℕ) (bytes : List ℕ) → crc_run (fold crc_run r (first_chunks n k bytes)) (drop (k * n) bytes) ≡ crc_run r bytes
  whole_run k r bytes =
      ap (λ (x : ℕ). crc_run x (drop (k * n) bytes)) (chunks_run k r bytes)
      ∙ sym (fold-append byte_step r (take (k * n) bytes) (drop (k * n) bytes))
      ∙ ap (crc_run r) (take-append-drop (k * n) bytes)

-- sixteen bytes, from two words
pub sixteen_whole : (r : ℕ) (xs : List ℕ) → length xs ≡ 16 → ((i : ℕ) → get_or xs i 0 < 256)
    → bit_xor (bit_steps 128 (bit_xor (from_le_bytes w64 (get_or xs 0 0 ∷ get_or xs 1 0 ∷ get_or xs 2 0 ∷ get_or xs 3 0 ∷ get_or xs 4 0 ∷ get_or xs 5 0 ∷ get_or xs 6 0 ∷ get_or xs 7 0 ∷ [])) r))
    (bit_steps 64 (from_le_bytes w64 (get_or xs 8 0 ∷ get_or xs 9 0 ∷ get_or xs 10 0 ∷ get_or xs 11 0 ∷ get_or xs 12 0 ∷ get_or xs 13 0 ∷ get_or xs 14 0 ∷ get_or xs 15 0 ∷ [])))
    ≡ crc_run r xs
sixteen_whole r xs size small =
    let front : List ℕ = get_or xs 0 0 ∷ get_or xs 1 0 ∷ get_or xs 2 0 ∷ get_or xs 3 0 ∷ get_or xs 4 0 ∷ get_or xs 5 0 ∷ get_or xs 6 0 ∷ get_or xs 7 0 ∷ [] in
    let back : List ℕ = get_or xs 8 0 ∷ get_or xs 9 0 ∷ get_or xs 10 0 ∷ get_or xs 11 0 ∷ get_or xs 12 0 ∷ get_or xs 13 0 ∷ get_or xs 14 0 ∷ get_or xs 15 0 ∷ [] in
    sixteen_run r _ _ front back refl refl (eight_small _ _ _ _ _ _ _ _ (small 0) (small 1) (small 2) (small 3) (small 4) (small 5) (small 6) (small 7))
    (eight_small _ _ _ _ _ _ _ _ (small 8) (small 9) (small 10) (small 11) (small 12) (small 13) (small 14) (small 15)) refl refl
    ∙ ap (crc_run r) (sixteen xs size)

-- two halves of a block, chunk by chunk
pub halves : (r first second moved : ℕ) (block front back : List ℕ) → length block ≡ 256 → ((i : ℕ) → get_or block i 0 < 256)
    → front ≡ take 128 block → back ≡ drop 128 block
    → first ≡ fold crc_run r (first_chunks 16 (length front / 16) front)
    → second ≡ fold crc_run 0 (first_chunks 16 (length back / 16) back)
    → moved ≡ bit_steps 1024 first → bit_xor moved second ≡ crc_run r block
halves r first second moved block front back size small is_front is_back ef es em =
    let sf : length front ≡ 128 = ap length is_front ∙ length-take-le 128 block (omega (arith, size)) in
    let sb : length back ≡ 128 = ap length is_back ∙ omega (arith, size, length-drop 128 block) in
    let whole_f : take (length front / 16 * 16) front ≡ front = take_all (length front / 16 * 16) front (omega (arith, sf)) in
    let whole_b : take (length back / 16 * 16) back ≡ back = take_all (length back / 16 * 16) back (omega (arith, sb)) in
    let one : first ≡ crc_run r front = ef ∙ chunks_run 16 (length front / 16) r front ∙ ap (crc_run r) whole_f in
    let two : second ≡ crc_run 0 back = es ∙ chunks_run 16 (length back / 16) 0 back ∙ ap (crc_run 0) whole_b in
    let bytes : (i : ℕ) → get_or back i 0 < 256 = λ (i : ℕ). rw (is_back, get_or-drop 128 block i 0) (small (128 + i)) in
    let whole : front ++ back ≡ block = rw (is_front, is_back) (take-append-drop 128 block) in
    rw (em, one, two) (side_by_side r 128 front back sb bytes ∙ ap (crc_run r) whole)

-- a register's bytes, each moved by itself
pub moved_parts : (r : ℕ) → r < 2 ^ 32 → (bytes : List ℕ) → bytes ≡ to_le_bytes w32 r → (a b c d : ℕ)
    → a ≡ bit_steps 1024 (get_or bytes 0 0 * 256 ^ 0) → b ≡ bit_steps 1024 (get_or bytes 1 0 * 256 ^ 1)
    → c ≡ bit_steps 1024 (get_or bytes 2 0 * 256 ^ 2) → d ≡ bit_steps 1024 (get_or bytes 3 0 * 256 ^ 3)
    → bit_xor (bit_xor (bit_xor a b) c) d ≡ bit_steps 1024 r
moved_parts r fits bytes same a b c d pa pb pc pd =
    let w : ℕ = r % 256 * 256 ^ 0 in
    let x : ℕ = r / 256 % 256 * 256 ^ 1 in
    let y : ℕ = r / 256 ^ 2 % 256 * 256 ^ 2 in
    let z : ℕ = r / 256 ^ 3 % 256 * 256 ^ 3 in
    let one : bit_xor w x ≡ r / 256 % 256 * 2 ^ 8 + r % 256 = xor_comm w x ∙ xor_shifted (r / 256 % 256) 8 w (omega arith) ∙ omega arith in
    let two : bit_xor (r / 256 % 256 * 2 ^ 8 + r % 256) y ≡ r / 256 ^ 2 % 256 * 2 ^ 16 + (r / 256 % 256 * 2 ^ 8 + r % 256) =
    xor_comm (r / 256 % 256 * 2 ^ 8 + r % 256) y ∙ xor_shifted (r / 256 ^ 2 % 256) 16 (r / 256 % 256 * 2 ^ 8 + r % 256) (omega arith) in
    let three : bit_xor (r / 256 ^ 2 % 256 * 2 ^ 16 + (r / 256 % 256 * 2 ^ 8 + r % 256)) z ≡ r =
    xor_comm (r / 256 ^ 2 % 256 * 2 ^ 16 + (r / 256 % 256 * 2 ^ 8 + r % 256)) z ∙ xor_shifted (r / 256 ^ 3 % 256) 24 (r / 256 ^ 2 % 256 * 2 ^ 16 + (r / 256 % 256 * 2 ^ 8 + r % 256)) (omega arith) ∙ omega arith in
    let all : bit_xor (bit_xor (bit_xor w x) y) z ≡ r = ap (λ (v : ℕ). bit_xor (bit_xor v y) z) one ∙ ap (λ (v : ℕ). bit_xor v z) two ∙ three in
    rw (pa, pb, pc, pd, same) (
    sym (steps_xor 1024 (bit_xor (bit_xor w x) y) z ∙ ap (λ (v : ℕ). bit_xor v (bit_steps 1024 z)) (steps_xor 1024 (bit_xor w x) y ∙ ap (λ (v : ℕ). bit_xor v (bit_steps 1024 y)) (steps_xor 1024 w x)))
    ∙ ap (bit_steps 1024) all
    )
