-- The numbers of a summary's file, and the bytes of these, each at its width with its least byte
-- first (profile).
use Rattle.std.specs.Prelude.{◌≡◌, ◌<◌, ◌^◌, ℕ, List, ◌++◌, length}
use Rattle.std.specs.List.{flat_map, AllByRecursion}
use Rattle.std.specs.Int.{w32, w64, to_le_bytes}
use Rattle.summary_file.specs.declared.numbers.ForkNumbers.{ForkNumbers}
use Rattle.summary_file.specs.declared.numbers.FileNumbers.{FileNumbers}

-- a fork's numbers and the count of its blocks, and then its blocks
unfoldable pub fork_head : ForkNumbers → List ℕ
fork_head f =
    to_le_bytes w32 f.db ++ (to_le_bytes w32 f.rel ++ (to_le_bytes w32 f.kind
    ++ (to_le_bytes w32 f.limit ++ to_le_bytes w32 (length f.blocks))))

abbrev pub fork_bytes : ForkNumbers → List ℕ
fork_bytes f = fork_head f ++ flat_map (to_le_bytes w32) f.blocks

-- the numbers of a file and the count of its forks, and then its forks
unfoldable pub file_head : FileNumbers → List ℕ
file_head n =
    to_le_bytes w32 n.magic ++ (to_le_bytes w64 n.start ++ (to_le_bytes w64 n.end
    ++ (to_le_bytes w64 n.made ++ to_le_bytes w64 (length n.forks))))

abbrev pub numbers_bytes : FileNumbers → List ℕ
numbers_bytes n = file_head n ++ flat_map fork_bytes n.forks

-- a file: its numbers, and a sum at its end
abbrev pub file_bytes : FileNumbers → ℕ → List ℕ
file_bytes n crc = numbers_bytes n ++ to_le_bytes w32 crc

-- numbers and counts that have room in their widths
pub record ForkFits (f : ForkNumbers) : Type 0 where
  pub db : f.db < 2 ^ 32
  pub rel : f.rel < 2 ^ 32
  pub kind : f.kind < 2 ^ 32
  pub limit : f.limit < 2 ^ 32
  pub count : length f.blocks < 2 ^ 32
  pub blocks : AllByRecursion (λ b. b < 2 ^ 32) f.blocks

pub record NumbersFit (n : FileNumbers) : Type 0 where
  pub magic : n.magic < 2 ^ 32
  pub start : n.start < 2 ^ 64
  pub end : n.end < 2 ^ 64
  pub made : n.made < 2 ^ 64
  pub count : length n.forks < 2 ^ 64
  pub forks : AllByRecursion ForkFits n.forks

-- bytes are a file of these numbers with this sum, whatever the numbers mean: its counts give its
-- size
pub record HasNumbers (bytes : List ℕ) (n : FileNumbers) (crc : ℕ) : Type 0 where
  pub fits : NumbersFit n
  pub crc_fits : crc < 2 ^ 32
  pub spelled : bytes ≡ file_bytes n crc
