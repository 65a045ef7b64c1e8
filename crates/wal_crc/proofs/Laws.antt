-- What callers use of the sum: it goes piece by piece, and it fits 32 bits.
use Rattle.std.proofs.Common.{◌≡◌, ℕ, zero, suc, ◌*◌, ◌/◌, ◌%◌, ◌^◌, ◌<◌, List, [], ◌∷◌, ◌++◌, get_or, bit_xor, arith}
use Rattle.std.proofs.lemmas.Nat.{xor_lt}
use Rattle.std.proofs.lemmas.List.Sums.{fold-append}
use Rattle.wal_crc.specs.Crc.{bit_step, bit_steps, byte_step, crc_start, crc_run, crc32c}

-- two pieces, one after the other
pub crc_run-append : (r : ℕ) (front back : List ℕ) → crc_run r (front ++ back) ≡ crc_run (crc_run r front) back
crc_run-append r front back = fold-append byte_step r front back

step_fits : (r : ℕ) → r < 2 ^ 32 → bit_step r < 2 ^ 32
step_fits r fits = xor_lt 32 (r / 2) (r % 2 * 0x82F63B78) (omega (arith, fits)) (omega arith)

steps_fit : (n r : ℕ) → r < 2 ^ 32 → bit_steps n r < 2 ^ 32
unfolding bit_steps
steps_fit zero r fits = fits
steps_fit (suc n) r fits = steps_fit n (bit_step r) (step_fits r fits)

pub crc_run-fits : (r : ℕ) (bytes : List ℕ) → r < 2 ^ 32 → ((i : ℕ) → get_or bytes i 0 < 256) → crc_run r bytes < 2 ^ 32
crc_run-fits r [] fits small = fits
crc_run-fits r (b ∷ bs) fits small =
    let low : b < 256 = small 0 in
    crc_run-fits (byte_step r b) bs (steps_fit 8 (bit_xor r b) (xor_lt 32 r b fits (omega (arith, low)))) (λ i. small (suc i))

pub crc32c-fits : (bytes : List ℕ) → ((i : ℕ) → get_or bytes i 0 < 256) → crc32c bytes < 2 ^ 32
crc32c-fits bytes small = xor_lt 32 (crc_run crc_start bytes) 0xFFFFFFFF (crc_run-fits crc_start bytes (omega arith) small) (omega arith)
