-- How long announcements are at most.
use Rattle.std.proofs.Common.{ℕ, ◌+◌, ◌*◌, ◌≤◌, List, [], ◌∷◌, ◌++◌, length, Option, Some, None, arith}
use Rattle.std.specs.Int.{w32, to_le_bytes}
use Rattle.wal_pages.specs.declared.wal_heads.announce.ImageHead.{ImageHead}
use Rattle.wal_pages.specs.declared.wal_heads.announce.RelName.{RelName}
use Rattle.wal_pages.specs.declared.wal_heads.announce.BlockHead.{BlockHead}
use Rattle.wal_pages.specs.declared.wal_heads.announce.MainHead.TheVariants.{Absent}
use Rattle.wal_pages.specs.wal_heads.Heads.{hole_bytes, image_bytes, rel_bytes, block_bytes, heads_bytes}

hole_most : (o : Option ℕ) (rest : List ℕ) → length (hole_bytes o rest) ≤ 2 + length rest
hole_most None rest = omega arith
hole_most (Some n) rest = omega arith

image_head_most : (o : Option ImageHead) (rest : List ℕ) → length (image_bytes o rest) ≤ 7 + length rest
image_head_most None rest = omega arith
image_head_most (Some h) rest = omega (arith, hole_most h.hole rest)

name_most : (o : Option RelName) (rest : List ℕ) → length (rel_bytes o rest) ≤ 12 + length rest
name_most None rest = omega arith
name_most (Some r) rest = omega arith

head_most : (h : BlockHead) (rest : List ℕ) → length (block_bytes h rest) ≤ 27 + length rest
head_most h rest =
    let more : List ℕ = to_le_bytes w32 h.block ++ rest in
    omega (arith, image_head_most h.image (rel_bytes h.rel more), name_most h.rel more)

pub heads_most : (hs : List BlockHead) (rest : List ℕ) → length (heads_bytes hs Absent rest) ≤ length hs * 27 + length rest
heads_most [] rest = omega arith
heads_most (h ∷ hs) rest = omega (arith, head_most h (heads_bytes hs Absent rest), heads_most hs rest)
