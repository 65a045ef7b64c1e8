-- How the head of an incremental file is read, and what it is refused for.
use Rattle.std.specs.Prelude.{◌≡◌, ◌≢◌, ◌≤◌, ◌<◌, ℕ, ◌+◌, ◌*◌, ◌==◌, min, List, map, length, Option, Some, None, Result, Ok, Err, if◌then◌else◌}
use Rattle.std.specs.List.{range_with_len, position, All}
use Rattle.std.specs.List.Sorted.{IsStrictlyIncreasing}
use Rattle.std.specs.Option.{option_map}
use Rattle.lsn_core.specs.byte_words.Numbers.{u32_in}
use Rattle.lsn_core.specs.Sizes.{page_size, most_relseg}
use Rattle.incr_file.specs.declared.head.IncrHead.{IncrHead}
use Rattle.incr_file.specs.declared.head.HeadView.{HeadView}
use Rattle.incr_file.specs.declared.decode.HeadFault.{HeadFault}
use Rattle.incr_file.specs.declared.decode.HeadFault.TheVariants.{Length, Magic, Range, Order, NoMemory}
use Rattle.incr_file.specs.Head.{head_magic, head_with, head_size, body_place, file_size, IsHead}

-- how many blocks a file lists, by its first bytes
abbrev pub listed_count : List ℕ → ℕ
listed_count bytes = u32_in bytes 4

-- so many numbers of four bytes, behind the first twelve bytes
unfoldable pub block_numbers : List ℕ → ℕ → List ℕ
block_numbers bytes count = map (λ i. u32_in bytes (12 + 4 * i)) (range_with_len 0 count)

-- what the bytes tell, whatever it is
abbrev pub head_in : List ℕ → IncrHead
head_in bytes = head_with (u32_in bytes 8) (block_numbers bytes (listed_count bytes))

-- the beginning of a file of so many bytes: its first twelve, where it has them, and all its block
-- numbers, where their count gives the file's size
pub record HoldsHead (bytes : List ℕ) (file : ℕ) : Type 0 where
  pub front : min 12 file ≤ length bytes
  pub numbers : file ≡ file_size (listed_count bytes)
      → head_size (listed_count bytes) ≤ length bytes

-- the size is the one that the head gives, and the head begins as one
pub record HasFront (bytes : List ℕ) (file : ℕ) : Type 0 where
  pub size : file ≡ file_size (listed_count bytes)
  pub magic : u32_in bytes 0 ≡ head_magic

-- no number of the head is too great
pub record FitsSegmentFile (head : IncrHead) : Type 0 where
  pub length_fits : head.truncation ≤ most_relseg
  pub blocks_fit : All (λ block. block < most_relseg) head.blocks

-- a reader answers the head with the place of its first block, where all tests pass, and else the
-- first that fails: the size, the magic, the range of the numbers, their order
abbrev pub HeadAnswers : List ℕ → ℕ → Result HeadView HeadFault → Type 0
HeadAnswers bytes file (Ok view) =
    HasFront bytes file × IsHead view.head × (view.head ≡ head_in bytes)
    × (view.body ≡ body_place (listed_count bytes))
HeadAnswers bytes file (Err Length) = file ≢ file_size (listed_count bytes)
HeadAnswers bytes file (Err Magic) =
    (file ≡ file_size (listed_count bytes)) × (u32_in bytes 0 ≢ head_magic)
HeadAnswers bytes file (Err Range) = HasFront bytes file × (FitsSegmentFile (head_in bytes) → ⊥)
HeadAnswers bytes file (Err Order) =
    HasFront bytes file × FitsSegmentFile (head_in bytes)
    × (IsStrictlyIncreasing (head_in bytes).blocks → ⊥)
HeadAnswers bytes file (Err NoMemory) = Unit {0}

-- how many bytes to read of a file of this size for its head, by its first bytes; none where the
-- count doesn't give the size
abbrev pub told_head_size : List ℕ → ℕ → Option ℕ
told_head_size bytes file =
    if file == file_size (listed_count bytes) then Some (head_size (listed_count bytes)) else None

-- a head with the place of its first block
abbrev pub view_of : IncrHead → HeadView
view_of head = record { head = head; body = body_place (length head.blocks) }

-- the places of the listed blocks may be told: as in each head that was read
pub record HasPlaces (view : HeadView) : Type 0 where
  pub blocks : length view.head.blocks ≤ 131072
  pub body : view.body ≤ 1048576

-- where a block begins in the file, if it is listed
abbrev pub place_in : HeadView → ℕ → Option ℕ
place_in view block =
    option_map (λ n. view.body + page_size * n) (position (λ b. b == block) view.head.blocks)
