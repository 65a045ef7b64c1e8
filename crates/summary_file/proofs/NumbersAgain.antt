-- A file's numbers are read again, and so bytes have one reading as numbers.
use Rattle.std.proofs.Common.{◌≡◌, ℕ, ◌^◌, ◌<◌, cond, List, [], ◌∷◌, ◌++◌, length, Option, Some, None, refl, sym, ap, ◌∙◌}
use Rattle.std.specs.Prelude.{◌==◌}
use Rattle.std.proofs.lemmas.List.{append_assoc}
use Rattle.std.specs.List.{flat_map, AllByRecursion}
use Rattle.std.specs.Int.{w32, w64, to_le_bytes}
use Rattle.lsn_core.specs.byte_words.Numbers.{◌>>=◌, number_at}
use Rattle.lsn_core.proofs.byte_words.Fields.{wide32, wide64, step_again, number_again}
use Rattle.summary_file.specs.declared.numbers.ForkNumbers.{ForkNumbers}
use Rattle.summary_file.specs.declared.numbers.FileNumbers.{FileNumbers}
use Rattle.summary_file.specs.Numbers.{fork_head, fork_bytes, file_head, file_bytes, ForkFits, NumbersFit, HasNumbers}
use Rattle.summary_file.specs.Inside.{many, fork_at, file_at}
use Rattle.summary_file.proofs.Many.{some_pair}

-- parts that are read again one by one are read again together
many_again : {A : Type 0} (read : List ℕ → Option (A × List ℕ)) (write : A → List ℕ) (P : A → Type 0) → ((x : A) (more : List ℕ) → P x → read (write x ++ more) ≡ Some (x, more))
    → (xs : List A) (more : List ℕ) → AllByRecursion P xs → many read (length xs) (flat_map write xs ++ more) ≡ Some (xs, more)
many_again read write P again [] more all = refl
many_again read write P again (x ∷ xs) more all =
    let rest = flat_map write xs ++ more in
    ap (λ l. read l >>= λ y. many read (length xs) y.1 >>= λ ys. Some (y.0 ∷ ys.0, ys.1)) (append_assoc (write x) (flat_map write xs) more)
    ∙ ap (λ o. o >>= λ y. many read (length xs) y.1 >>= λ ys. Some (y.0 ∷ ys.0, ys.1)) (again x rest all.0)
    ∙ ap (λ o. o >>= λ ys. Some (x ∷ ys.0, ys.1)) (many_again read write P again xs more all.1)

blocks_again : (xs : List ℕ) (more : List ℕ) → AllByRecursion (λ b. b < 2 ^ 32) xs → many (number_at w32) (length xs) (flat_map (to_le_bytes w32) xs ++ more) ≡ Some (xs, more)
blocks_again = many_again (number_at w32) (to_le_bytes w32) (λ b. b < 2 ^ 32) (λ x more lt. number_again w32 (2 ^ 32) wide32 x more lt)

fork_again : (f : ForkNumbers) (more : List ℕ) → ForkFits f → fork_at (fork_bytes f ++ more) ≡ Some (f, more)
unfolding fork_at fork_head
fork_again f more fits =
    let r5 : List ℕ = flat_map (to_le_bytes w32) f.blocks ++ more in
    let r4 : List ℕ = to_le_bytes w32 (length f.blocks) ++ r5 in
    let r3 : List ℕ = to_le_bytes w32 f.limit ++ r4 in
    let r2 : List ℕ = to_le_bytes w32 f.kind ++ r3 in
    let r1 : List ℕ = to_le_bytes w32 f.rel ++ r2 in
    step_again w32 (2 ^ 32) wide32 _ f.db r1 _ _ refl fits.db (
    step_again w32 (2 ^ 32) wide32 r1 f.rel r2 _ _ refl fits.rel (
    step_again w32 (2 ^ 32) wide32 r2 f.kind r3 _ _ refl fits.kind (
    step_again w32 (2 ^ 32) wide32 r3 f.limit r4 _ _ refl fits.limit (
    step_again w32 (2 ^ 32) wide32 r4 (length f.blocks) r5 _ _ refl fits.count (
    ap (λ o. o >>= λ blocks. Some (record { db = f.db; rel = f.rel; kind = f.kind; limit = f.limit; blocks = blocks.0 }, blocks.1)) (blocks_again f.blocks more fits.blocks))))))

-- the sum that stands behind the forks
abbrev sum_behind : FileNumbers → List ℕ → Option (FileNumbers × ℕ)
sum_behind n rest = number_at w32 rest >>= λ crc. cond (length crc.1 == 0) (Some (n, crc.0)) None

spelled_again : (n : FileNumbers) (crc : ℕ) → NumbersFit n → crc < 2 ^ 32 → file_at (file_bytes n crc) ≡ Some (n, crc)
unfolding file_at file_head
spelled_again n crc fits small =
    let r6 : List ℕ = to_le_bytes w32 crc in
    let r5 : List ℕ = flat_map fork_bytes n.forks ++ r6 in
    let r4 : List ℕ = to_le_bytes w64 (length n.forks) ++ r5 in
    let r3 : List ℕ = to_le_bytes w64 n.made ++ r4 in
    let r2 : List ℕ = to_le_bytes w64 n.end ++ r3 in
    let r1 : List ℕ = to_le_bytes w64 n.start ++ r2 in
    step_again w32 (2 ^ 32) wide32 _ n.magic r1 _ _ refl fits.magic (
    step_again w64 (2 ^ 64) wide64 r1 n.start r2 _ _ refl fits.start (
    step_again w64 (2 ^ 64) wide64 r2 n.end r3 _ _ refl fits.end (
    step_again w64 (2 ^ 64) wide64 r3 n.made r4 _ _ refl fits.made (
    step_again w64 (2 ^ 64) wide64 r4 (length n.forks) r5 _ _ refl fits.count (
    ap (λ o. o >>= λ forks. sum_behind (record { magic = n.magic; start = n.start; end = n.end; made = n.made; forks = forks.0 }) forks.1) (many_again fork_at fork_bytes ForkFits fork_again n.forks r6 fits.forks)
    ∙ step_again w32 (2 ^ 32) wide32 r6 crc [] (λ crc. cond (length crc.1 == 0) (Some (n, crc.0)) None) (Some (n, crc)) refl small refl)))))

pub file_again : (bytes : List ℕ) (n : FileNumbers) (crc : ℕ) → HasNumbers bytes n crc → file_at bytes ≡ Some (n, crc)
file_again bytes n crc has = ap file_at has.spelled ∙ spelled_again n crc has.fits has.crc_fits

-- bytes have one reading as numbers
pub numbers_once : (bytes : List ℕ) (m n : FileNumbers) (c d : ℕ) → HasNumbers bytes m c → HasNumbers bytes n d → (m ≡ n) × (c ≡ d)
numbers_once bytes m n c d a b = some_pair m n c d (sym (file_again bytes m c a) ∙ file_again bytes n d b)
