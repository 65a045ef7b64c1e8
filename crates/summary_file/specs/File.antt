-- The file of a summary (profile): which bytes are whose, and what other bytes are refused for.
use Rattle.std.specs.Prelude.{◌≡◌, ◌≢◌, ◌<◌, ◌^◌, ℕ, List, map, length, Option, Some, None, Result, Ok, Err, IfSome}
use Rattle.std.specs.List.{AllByRecursion}
use Rattle.wal_crc.specs.Crc.{crc32c}
use Rattle.lsn_core.specs.Sizes.{most_blocks}
use Rattle.lsn_core.specs.declared.ids.ForkKind.{ForkKind}
use Rattle.lsn_core.specs.declared.ids.ForkKind.TheVariants.{Main, Init}
use Rattle.wal_summary.specs.Summary.{AreSorted}
use Rattle.wal_summary.specs.declared.summary.ForkSummary.{ForkSummary}
use Rattle.wal_summary.specs.declared.summary.Summary.{Summary}
use Rattle.summary_file.specs.Numbers.{numbers_bytes, file_bytes, HasNumbers}
use Rattle.summary_file.specs.declared.numbers.ForkNumbers.{ForkNumbers}
use Rattle.summary_file.specs.declared.numbers.FileNumbers.{FileNumbers}
use Rattle.summary_file.specs.declared.fault.SummaryFault.{SummaryFault}
use Rattle.summary_file.specs.declared.fault.SummaryFault.TheVariants.{Length, Magic, Sum, Order, NoMemory}

-- the number at the front of each file
abbrev pub file_magic : ℕ
file_magic = 0x314D5553

-- the number that stands where a fork has no limit
abbrev pub no_limit : ℕ
no_limit = 0xFFFFFFFF

abbrev pub limit_number : Option ℕ → ℕ
limit_number None = no_limit
limit_number (Some count) = count

-- a kind of fork by PostgreSQL's number of it (ForkNumber)
abbrev pub fork_number : ForkKind → ℕ
fork_number Main = 0
fork_number Init = 3

-- what stands in a file of a fork of a summary
abbrev pub fork_numbers : ForkSummary → ForkNumbers
fork_numbers f = record {
  db = f.fork.rel.db;
  rel = f.fork.rel.rel;
  kind = fork_number f.fork.kind;
  limit = limit_number f.limit;
  blocks = f.blocks;
}

-- what stands in a file of a summary
abbrev pub summary_numbers : Summary → FileNumbers
summary_numbers s = record {
  magic = file_magic;
  start = s.start.0;
  end = s.end.0;
  made = s.made;
  forks = map fork_numbers s.forks;
}

-- the bytes of a summary's file: its numbers, and their CRC-32C
abbrev pub summary_bytes : Summary → List ℕ
summary_bytes s = file_bytes (summary_numbers s) (crc32c (numbers_bytes (summary_numbers s)))

-- a fork that a file can hold: its limit isn't the number that stands for none, and its blocks are
-- those that a store's forks have
pub record IsWritableFork (f : ForkSummary) : Type 0 where
  pub limit : IfSome f.limit (λ count. count < no_limit)
  pub blocks : AllByRecursion (λ b. b < most_blocks) f.blocks

-- a summary that a file can hold: its range isn't empty, its forks and their blocks are in order,
-- and each fork has a limit or a block
pub record IsWritable (s : Summary) : Type 0 where
  pub rises : s.start.0 < s.end.0
  pub sorted : AreSorted s.forks
  pub forks : AllByRecursion IsWritableFork s.forks

-- numbers that have room where they stand; those of a relation are 1 at least
pub record ForkHasRoom (f : ForkSummary) : Type 0 where
  pub some_db : 0 < f.fork.rel.db
  pub db : f.fork.rel.db < 2 ^ 32
  pub some_rel : 0 < f.fork.rel.rel
  pub rel : f.fork.rel.rel < 2 ^ 32

pub record HasRoom (s : Summary) : Type 0 where
  pub start : s.start.0 < 2 ^ 64
  pub end : s.end.0 < 2 ^ 64
  pub made : s.made < 2 ^ 64
  pub count : length s.forks < 2 ^ 64
  pub forks : AllByRecursion ForkHasRoom s.forks

-- bytes are the file of a summary
pub record IsFileOf (s : Summary) (bytes : List ℕ) : Type 0 where
  pub writable : IsWritable s
  pub room : HasRoom s
  pub spelled : bytes ≡ summary_bytes s

-- the counts in bytes don't give their size
abbrev pub HasNoNumbers : List ℕ → Type 0
HasNoNumbers bytes = (n : FileNumbers) (crc : ℕ) → HasNumbers bytes n crc → ⊥

-- bytes are a file of numbers of which this holds, and of their sum
abbrev pub HasSuch : (FileNumbers → ℕ → Type 0) → List ℕ → Type 0
HasSuch P bytes = (n : FileNumbers) × (crc : ℕ) × HasNumbers bytes n crc × P n crc

-- the sum of some numbers is that of their bytes
abbrev pub IsSummed : FileNumbers → ℕ → Type 0
IsSummed n crc = crc ≡ crc32c (numbers_bytes n)

-- bytes are no summary's file
abbrev pub IsNoFile : List ℕ → Type 0
IsNoFile bytes = (s : Summary) → IsFileOf s bytes → ⊥

-- what bytes are read as or refused for, in this order: their counts don't give their size, the
-- number at their front, their sum; and then a range that is empty, forks or blocks out of order, a
-- relation's number of 0, another number of a fork than 0 and 3, a block that no store's fork has,
-- or a fork without limit and blocks: no summary has these numbers
abbrev pub DecodeAnswers : List ℕ → Result Summary SummaryFault → Type 0
DecodeAnswers bytes (Ok s) = IsFileOf s bytes
DecodeAnswers bytes (Err Length) = HasNoNumbers bytes
DecodeAnswers bytes (Err Magic) = HasSuch (λ n crc. n.magic ≢ file_magic) bytes
DecodeAnswers bytes (Err Sum) =
    HasSuch (λ n crc. (n.magic ≡ file_magic) × ¬ IsSummed n crc) bytes
DecodeAnswers bytes (Err Order) =
    HasSuch (λ n crc. (n.magic ≡ file_magic) × IsSummed n crc) bytes × IsNoFile bytes
DecodeAnswers bytes (Err NoMemory) = Unit {0}
