-- What is written of numbers is bytes.
use Rattle.std.proofs.Common.{ℕ, zero, suc, List, [], ◌∷◌, ◌++◌, length, arith}
use Rattle.std.specs.List.{flat_map}
use Rattle.std.specs.Int.{w32, w64, to_le_bytes}
use Rattle.lsn_core.specs.byte_words.Numbers.{IsBytes}
use Rattle.summary_file.specs.declared.numbers.ForkNumbers.{ForkNumbers}
use Rattle.summary_file.specs.declared.numbers.FileNumbers.{FileNumbers}
use Rattle.summary_file.specs.Numbers.{fork_head, fork_bytes, file_head, numbers_bytes}

bytes_append : (xs ys : List ℕ) → IsBytes xs → IsBytes ys → IsBytes (xs ++ ys)
bytes_append [] ys h k i = k i
bytes_append (x ∷ xs) ys h k zero = h zero
bytes_append (x ∷ xs) ys h k (suc i) = bytes_append xs ys (λ j. h (suc j)) k i

number_bytes : (n : ℕ) → IsBytes (to_le_bytes w32 n)
number_bytes n zero = omega arith
number_bytes n (suc zero) = omega arith
number_bytes n (suc (suc zero)) = omega arith
number_bytes n (suc (suc (suc zero))) = omega arith
number_bytes n (suc (suc (suc (suc i)))) = omega arith

long_bytes : (n : ℕ) → IsBytes (to_le_bytes w64 n)
long_bytes n zero = omega arith
long_bytes n (suc zero) = omega arith
long_bytes n (suc (suc zero)) = omega arith
long_bytes n (suc (suc (suc zero))) = omega arith
long_bytes n (suc (suc (suc (suc zero)))) = omega arith
long_bytes n (suc (suc (suc (suc (suc zero))))) = omega arith
long_bytes n (suc (suc (suc (suc (suc (suc zero)))))) = omega arith
long_bytes n (suc (suc (suc (suc (suc (suc (suc zero))))))) = omega arith
long_bytes n (suc (suc (suc (suc (suc (suc (suc (suc i)))))))) = omega arith

pieces_bytes : {X : Type 0} (write : X → List ℕ) (xs : List X) → ((x : X) → IsBytes (write x)) → IsBytes (flat_map write xs)
pieces_bytes write [] each = λ i. omega arith
pieces_bytes write (x ∷ xs) each = bytes_append (write x) (flat_map write xs) (each x) (pieces_bytes write xs each)

fork_head_bytes : (f : ForkNumbers) → IsBytes (fork_head f)
unfolding fork_head
fork_head_bytes f =
    let r4 : List ℕ = to_le_bytes w32 (length f.blocks) in
    let r3 : List ℕ = to_le_bytes w32 f.limit ++ r4 in
    let r2 : List ℕ = to_le_bytes w32 f.kind ++ r3 in
    let r1 : List ℕ = to_le_bytes w32 f.rel ++ r2 in
    bytes_append (to_le_bytes w32 f.db) r1 (number_bytes f.db) (bytes_append (to_le_bytes w32 f.rel) r2 (number_bytes f.rel) (bytes_append (to_le_bytes w32 f.kind) r3 (number_bytes f.kind) (
    bytes_append (to_le_bytes w32 f.limit) r4 (number_bytes f.limit) (number_bytes (length f.blocks)))))

fork_is_bytes : (f : ForkNumbers) → IsBytes (fork_bytes f)
fork_is_bytes f = bytes_append (fork_head f) (flat_map (to_le_bytes w32) f.blocks) (fork_head_bytes f) (pieces_bytes (to_le_bytes w32) f.blocks number_bytes)

file_head_bytes : (n : FileNumbers) → IsBytes (file_head n)
unfolding file_head
file_head_bytes n =
    let r4 : List ℕ = to_le_bytes w64 (length n.forks) in
    let r3 : List ℕ = to_le_bytes w64 n.made ++ r4 in
    let r2 : List ℕ = to_le_bytes w64 n.end ++ r3 in
    let r1 : List ℕ = to_le_bytes w64 n.start ++ r2 in
    bytes_append (to_le_bytes w32 n.magic) r1 (number_bytes n.magic) (bytes_append (to_le_bytes w64 n.start) r2 (long_bytes n.start) (bytes_append (to_le_bytes w64 n.end) r3 (long_bytes n.end) (
    bytes_append (to_le_bytes w64 n.made) r4 (long_bytes n.made) (long_bytes (length n.forks)))))

pub numbers_are_bytes : (n : FileNumbers) → IsBytes (numbers_bytes n)
numbers_are_bytes n = bytes_append (file_head n) (flat_map fork_bytes n.forks) (file_head_bytes n) (pieces_bytes fork_bytes n.forks fork_is_bytes)
