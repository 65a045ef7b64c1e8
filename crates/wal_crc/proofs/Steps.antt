-- The register's steps go through sums without carry, so each byte's part may be looked up by itself.
use Rattle.std.proofs.Common.{◌≡◌, ℕ, zero, suc, ◌+◌, ◌*◌, ◌/◌, ◌%◌, ◌^◌, ◌<◌, bit_and, bit_xor, refl, sym, ap, ◌∙◌, arith, zero-add, suc-add, mul-one, pow-suc, mul_assoc}
use Rattle.std.specs.Int.Bits.{xor_shr, xor_mod, xor_zero_r, shifted_even}
use Rattle.std.proofs.lemmas.Nat.{mod_below, shl-shr, xor_comm, and_mask}
use Rattle.wal_crc.specs.Crc.{bit_step, bit_steps}
use Rattle.wal_crc.proofs.Xor.{xor_columns, by_low_byte}

-- the polynomial, mixed in for one bit of two or for none
mixed_once : (a b : ℕ) → a < 2 → b < 2 → bit_xor a b * 0x82F63B78 ≡ bit_xor (a * 0x82F63B78) (b * 0x82F63B78)
mixed_once zero zero _ _ = refl
mixed_once zero (suc zero) _ _ = refl
mixed_once (suc zero) zero _ _ = refl
mixed_once (suc zero) (suc zero) _ _ = refl
mixed_once (suc (suc a)) b h _ = absurd (omega (arith, h))
mixed_once a (suc (suc b)) _ h = absurd (omega (arith, h))

step_xor : (a b : ℕ) → bit_step (bit_xor a b) ≡ bit_xor (bit_step a) (bit_step b)
step_xor a b =
    ap (λ (x : ℕ). bit_xor x (bit_xor a b % 2 * 0x82F63B78)) (xor_shr a b 1)
    ∙ ap (λ (x : ℕ). bit_xor (bit_xor (a / 2) (b / 2)) (x * 0x82F63B78)) (xor_mod a b 1)
    ∙ ap (bit_xor (bit_xor (a / 2) (b / 2))) (mixed_once (a % 2) (b % 2) (mod_below a 2 (omega arith)) (mod_below b 2 (omega arith)))
    ∙ xor_columns (a / 2) (b / 2) (a % 2 * 0x82F63B78) (b % 2 * 0x82F63B78)

pub steps_xor : (n a b : ℕ) → bit_steps n (bit_xor a b) ≡ bit_xor (bit_steps n a) (bit_steps n b)
unfolding bit_steps
steps_xor zero a b = refl
steps_xor (suc n) a b = ap (bit_steps n) (step_xor a b) ∙ steps_xor n (bit_step a) (bit_step b)

pub steps_zero : (n : ℕ) → bit_steps n 0 ≡ 0
unfolding bit_steps
steps_zero zero = refl
steps_zero (suc n) = steps_zero n

pub steps_add : (m n r : ℕ) → bit_steps (m + n) r ≡ bit_steps n (bit_steps m r)
unfolding bit_steps
steps_add zero n r = rw zero-add refl
steps_add (suc m) n r = rw suc-add (steps_add m n (bit_step r))

-- zeros at the low end leave, and no more
step_even : (m : ℕ) → bit_step (m * 2) ≡ m
step_even m =
    ap (λ (x : ℕ). bit_xor x (m * 2 % 2 * 0x82F63B78)) (shl-shr m 1)
    ∙ ap (λ (x : ℕ). bit_xor m (x * 0x82F63B78)) (shifted_even m 0)
    ∙ xor_zero_r m

pub zeros_leave : (n m : ℕ) → bit_steps n (m * 2 ^ n) ≡ m
unfolding bit_steps
zeros_leave zero m = mul-one m
zeros_leave (suc n) m = ap (λ (x : ℕ). bit_steps n (bit_step x)) (ap (λ (x : ℕ). m * x) (pow-suc 2 n) ∙ sym (mul_assoc m (2 ^ n) 2)) ∙ ap (bit_steps n) (step_even (m * 2 ^ n)) ∙ zeros_leave n m

-- the lowest byte's part, and what is left of the rest
pub low_byte_apart : (n r : ℕ) → bit_steps (8 + n) r ≡ bit_xor (bit_steps (8 + n) (r % 256)) (bit_steps n (r / 256))
low_byte_apart n r =
    ap (bit_steps (8 + n)) (by_low_byte r)
    ∙ steps_xor (8 + n) (r / 256 * 256) (r % 256)
    ∙ ap (λ (x : ℕ). bit_xor x (bit_steps (8 + n) (r % 256))) (steps_add 8 n (r / 256 * 256) ∙ ap (bit_steps n) (zeros_leave 8 (r / 256)))
    ∙ xor_comm (bit_steps n (r / 256)) (bit_steps (8 + n) (r % 256))

pub none_left : (r : ℕ) → bit_steps 0 r ≡ r
unfolding bit_steps
none_left r = refl

-- a byte's part from a table, and what is above it
pub byte_joined : (r part : ℕ) → part ≡ bit_steps 8 (bit_and r 255) → bit_xor part (r / 256) ≡ bit_steps 8 r
byte_joined r part same =
    ap (λ (x : ℕ). bit_xor x (r / 256)) (same ∙ ap (bit_steps 8) (and_mask r 8))
    ∙ ap (bit_xor (bit_steps 8 (r % 256))) (sym (none_left (r / 256)))
    ∙ sym (low_byte_apart 0 r)
