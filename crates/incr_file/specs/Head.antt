-- The head of an incremental file (profile): which blocks of a fork's segment file it holds, and
-- how that is written.
use Rattle.std.specs.Prelude.{◌<◌, ◌≤◌, ℕ, ◌+◌, ◌*◌, ◌/◌, ◌==◌, List, [], ◌∷◌, ◌++◌, length, if◌then◌else◌}
use Rattle.std.specs.List.{All}
use Rattle.std.specs.List.Sorted.{IsStrictlyIncreasing}
use Rattle.std.specs.Int.{w32, to_le_bytes}
use Rattle.lsn_core.specs.byte_words.Pieces.{zero_filled}
use Rattle.lsn_core.specs.Sizes.{page_size, most_relseg}
use Rattle.incr_file.specs.declared.head.IncrHead.{IncrHead}

-- the number at the front of an incremental file
abbrev pub head_magic : ℕ
head_magic = 3551403789

-- a head of the grammar: the file that it stands for has at most 131,072 blocks, and the listed
-- blocks are among these and rise
pub record IsHead (head : IncrHead) : Type 0 where
  pub length_fits : head.truncation ≤ most_relseg
  pub blocks_fit : All (λ block. block < most_relseg) head.blocks
  pub rising : IsStrictlyIncreasing head.blocks

abbrev pub head_with : ℕ → List ℕ → IncrHead
head_with truncation blocks = record { truncation = truncation; blocks = blocks }

-- how many bytes magic, count, truncation length and so many block numbers take
abbrev pub head_size : ℕ → ℕ
head_size count = 12 + 4 * count

-- the next multiple of a page
abbrev pub page_aligned : ℕ → ℕ
page_aligned at = (at + 8191) / 8192 * 8192

-- where the first of so many listed blocks begins: behind the numbers, at the next multiple of a
-- page; a file without blocks has no padding
unfoldable pub body_place : ℕ → ℕ
body_place count = if count == 0 then 12 else page_aligned (head_size count)

-- the size of a file of so many listed blocks
abbrev pub file_size : ℕ → ℕ
file_size count = body_place count + page_size * count

-- numbers, each as four bytes
abbrev pub numbers_bytes : List ℕ → List ℕ
numbers_bytes [] = []
numbers_bytes (n ∷ ns) = to_le_bytes w32 n ++ numbers_bytes ns

-- magic, count, truncation length and block numbers
unfoldable pub fields_bytes : IncrHead → List ℕ
fields_bytes head =
    to_le_bytes w32 head_magic ++ (to_le_bytes w32 (length head.blocks)
    ++ (to_le_bytes w32 head.truncation ++ numbers_bytes head.blocks))

-- the bytes before the first block: these, and zeros up to its place
abbrev pub head_bytes : IncrHead → List ℕ
head_bytes head = zero_filled (fields_bytes head) (body_place (length head.blocks))
