-- The rows of the table of blocks, each held against the definition by computing, one at a time.
use Rattle.std.proofs.Common.{◌≡◌, ℕ, zero, suc, ◌*◌, ◌^◌, ◌<◌, List, [], ◌∷◌, map, get_or, refl, ap, ◌∙◌, arith}
use Rattle.wal_crc.specs.Crc.{bit_steps}
use Rattle.wal_crc.specs.declared.tables.TheConstants.{LATER}
use Rattle.wal_crc.proofs.Registers.{scaled, numbers_from, block_at}

row_0 : get_or LATER 0 [] ≡ map (bit_steps 1024) (scaled 1)
unfolding scaled numbers_from bit_steps
row_0 = refl

row_1 : get_or LATER 1 [] ≡ map (bit_steps 1024) (scaled 256)
unfolding scaled numbers_from bit_steps
row_1 = refl

row_2 : get_or LATER 2 [] ≡ map (bit_steps 1024) (scaled 65536)
unfolding scaled numbers_from bit_steps
row_2 = refl

row_3 : get_or LATER 3 [] ≡ map (bit_steps 1024) (scaled 16777216)
unfolding scaled numbers_from bit_steps
row_3 = refl

pub moved_at : (k byte : ℕ) → k < 4 → byte < 256 → get_or (get_or LATER k []) byte 0 ≡ bit_steps 1024 (byte * 256 ^ k)
moved_at zero byte in_row low = ap (λ (row : List ℕ). get_or row byte 0) row_0 ∙ block_at 1 byte low
moved_at (suc zero) byte in_row low = ap (λ (row : List ℕ). get_or row byte 0) row_1 ∙ block_at 256 byte low
moved_at (suc (suc zero)) byte in_row low = ap (λ (row : List ℕ). get_or row byte 0) row_2 ∙ block_at 65536 byte low
moved_at (suc (suc (suc zero))) byte in_row low = ap (λ (row : List ℕ). get_or row byte 0) row_3 ∙ block_at 16777216 byte low
moved_at (suc (suc (suc (suc k)))) byte in_row low = absurd (omega arith)
