-- A table's rows, each held against the row before it by computing.
use Rattle.std.proofs.Common.{◌≡◌, ℕ, zero, suc, ◌+◌, ◌*◌, ◌^◌, ◌<◌, List, [], ◌∷◌, map, get_or, refl, sym, ap, ◌∙◌, arith, zero-add, zero-mul}
use Rattle.wal_crc.specs.Crc.{bit_steps}
use Rattle.wal_crc.proofs.Steps.{steps_add, steps_zero}

-- the numbers from one on
unfoldable pub numbers_from : ℕ → ℕ → List ℕ
numbers_from at zero = []
numbers_from at (suc n) = at ∷ numbers_from (suc at) n

number_at : (at n i : ℕ) → i < n → get_or (numbers_from at n) i 0 ≡ at + i
unfolding numbers_from
number_at at zero i h = absurd (omega arith)
number_at at (suc n) zero h = omega arith
number_at at (suc n) (suc i) h = number_at (suc at) n i (omega arith) ∙ omega arith

-- rows of registers, each eight bits later than the one before
unfoldable pub rows_from : ℕ → List ℕ → List (List ℕ)
rows_from zero row = []
rows_from (suc n) row = row ∷ rows_from n (map (bit_steps 8) row)

mapped : (n : ℕ) (row : List ℕ) (i : ℕ) → get_or (map (bit_steps n) row) i 0 ≡ bit_steps n (get_or row i 0)
mapped n [] i = sym (steps_zero n)
mapped n (r ∷ rs) zero = refl
mapped n (r ∷ rs) (suc i) = mapped n rs i

row_at : (n k : ℕ) (row : List ℕ) (i : ℕ) → k < n → get_or (get_or (rows_from n row) k []) i 0 ≡ bit_steps (8 * k) (get_or row i 0)
unfolding rows_from bit_steps
row_at zero k row i h = absurd (omega arith)
row_at (suc n) zero row i h = refl
row_at (suc n) (suc k) row i h =
    let later : 8 + 8 * k ≡ 8 * suc k = omega arith in
    row_at n k (map (bit_steps 8) row) i (omega arith) ∙ ap (bit_steps (8 * k)) (mapped 8 row i) ∙ sym (steps_add 8 (8 * k) (get_or row i 0)) ∙ ap (λ (m : ℕ). bit_steps m (get_or row i 0)) later

-- the rows that the bytes leave behind
unfoldable pub byte_rows : List (List ℕ)
byte_rows = rows_from 16 (map (bit_steps 8) (numbers_from 0 256))

pub register_at : (rows : List (List ℕ)) → rows ≡ byte_rows → (k byte : ℕ) → k < 16 → byte < 256 → get_or (get_or rows k []) byte 0 ≡ bit_steps (8 * (k + 1)) byte
unfolding byte_rows
register_at rows same k byte in_row in_byte =
    let later : 8 + 8 * k ≡ 8 * (k + 1) = omega arith in
    ap (λ (ys : List (List ℕ)). get_or (get_or ys k []) byte 0) same
    ∙ row_at 16 k (map (bit_steps 8) (numbers_from 0 256)) byte in_row
    ∙ ap (bit_steps (8 * k)) (mapped 8 (numbers_from 0 256) byte ∙ ap (bit_steps 8) (number_at 0 256 byte in_byte ∙ zero-add byte))
    ∙ sym (steps_add 8 (8 * k) byte)
    ∙ ap (λ (m : ℕ). bit_steps m byte) later

-- the bytes, each times a number
unfoldable pub scaled : ℕ → List ℕ
scaled s = map (λ b. b * s) (numbers_from 0 256)

scaled_at : (s : ℕ) (row : List ℕ) (i : ℕ) → get_or (map (λ b. b * s) row) i 0 ≡ get_or row i 0 * s
scaled_at s [] i = rw zero-mul refl
scaled_at s (r ∷ rs) zero = refl
scaled_at s (r ∷ rs) (suc i) = scaled_at s rs i

pub block_at : (s byte : ℕ) → byte < 256 → get_or (map (bit_steps 1024) (scaled s)) byte 0 ≡ bit_steps 1024 (byte * s)
unfolding scaled
block_at s byte low =
    mapped 1024 (scaled s) byte
    ∙ ap (bit_steps 1024) (scaled_at s (numbers_from 0 256) byte ∙ ap (λ (b : ℕ). b * s) (number_at 0 256 byte low ∙ zero-add byte))
