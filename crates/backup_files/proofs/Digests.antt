-- A digest is bytes, so its digits spell it.
use Rattle.std.proofs.Common.{◌≡◌, ℕ, zero, suc, List, [], ◌∷◌, ◌++◌, Ok, arith}
use Rattle.std.specs.Int.{w32, to_be_bytes}
use Rattle.hex.specs.Hex.{IsBytes, decode_of, encode_lower}
use Rattle.hex.proofs.HexLemmas.{decode_of-encode_lower}
use Rattle.sha2.specs.Sha256.{sha256, digest_bytes}

bytes-append : (xs ys : List ℕ) → IsBytes xs → IsBytes ys → IsBytes (xs ++ ys)
bytes-append [] ys h k i = k i
bytes-append (x ∷ xs) ys h k zero = h zero
bytes-append (x ∷ xs) ys h k (suc i) = bytes-append xs ys (λ j. h (suc j)) k i

word : (n : ℕ) → IsBytes (to_be_bytes w32 n)
word n zero = omega arith
word n (suc zero) = omega arith
word n (suc (suc zero)) = omega arith
word n (suc (suc (suc zero))) = omega arith
word n (suc (suc (suc (suc i)))) = omega arith

digest : (h : List ℕ) (n : ℕ) → IsBytes (digest_bytes h n)
unfolding digest_bytes
digest h zero = λ i. omega arith
digest h (suc n) = bytes-append (digest_bytes h n) (to_be_bytes w32 _) (digest h n) (word _)

pub sha256-bytes : (m : List ℕ) → IsBytes (sha256 m)
unfolding sha256
sha256-bytes m = digest _ 8

pub spelled : (m : List ℕ) → decode_of (encode_lower (sha256 m)) ≡ Ok (sha256 m)
spelled m = decode_of-encode_lower (sha256 m) (sha256-bytes m)
