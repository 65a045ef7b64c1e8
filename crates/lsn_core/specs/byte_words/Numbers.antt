-- Numbers as little-endian bytes, read from the front of a list; and places rounded up.
use Rattle.std.specs.Prelude.{ℕ, ◌+◌, ◌*◌, ◌/◌, ◌<◌, List, length, get_or, take, drop, Option, Some, None, nat_lt, if◌then◌else◌}
use Rattle.std.specs.Int.{Width, byte_len, from_le_bytes}

-- each element is a byte
abbrev pub IsBytes : List ℕ → Type 0
IsBytes bytes = (i : ℕ) → get_or bytes i 0 < 256

-- what a reader goes on with, where the step before it found something
infixl 10 ◌>>=◌
abbrev pub ◌>>=◌ : {A B : Type 0} → Option A → (A → Option B) → Option B
(Some x) >>= f = f x
None >>= f = None

-- the number at the front, and the bytes after it
abbrev pub number_at : Width → List ℕ → Option (ℕ × List ℕ)
number_at w bytes =
    if nat_lt (length bytes) (byte_len w) then None
    else Some (from_le_bytes w (take (byte_len w) bytes), drop (byte_len w) bytes)

-- the numbers at a place
abbrev pub u16_in : List ℕ → ℕ → ℕ
u16_in bytes at = get_or bytes at 0 + 256 * get_or bytes (at + 1) 0

abbrev pub u32_in : List ℕ → ℕ → ℕ
u32_in bytes at = u16_in bytes at + 65536 * u16_in bytes (at + 2)

abbrev pub u64_in : List ℕ → ℕ → ℕ
u64_in bytes at = u32_in bytes at + 4294967296 * u32_in bytes (at + 4)

-- the next multiple of 8
abbrev pub aligned : ℕ → ℕ
aligned at = (at + 7) / 8 * 8
