-- How the numbers of a file are read, and what functions inside the crate answer. No public
-- contract cites these.
use Rattle.std.specs.Prelude.{◌≡◌, ◌<◌, ◌^◌, ℕ, zero, suc, ◌==◌, List, [], ◌∷◌, ◌++◌, map, length, Option, Some, None, Result, Ok, Err, if◌then◌else◌}
use Rattle.std.specs.List.{AllByRecursion}
use Rattle.std.specs.List.Sorted.{IsStrictlySortedBy}
use Rattle.std.specs.Ordering.{nat_cmp}
use Rattle.std.specs.Int.{w32, w64}
use Rattle.lsn_core.specs.byte_words.Numbers.{◌>>=◌, number_at}
use Rattle.lsn_core.specs.Sizes.{most_blocks}
use Rattle.lsn_core.specs.Store.{fork_cmp}
use Rattle.lsn_core.specs.declared.ids.ForkKind.{ForkKind}
use Rattle.wal_summary.specs.Summary.{IsForkSummary}
use Rattle.wal_summary.specs.declared.summary.ForkSummary.{ForkSummary}
use Rattle.wal_summary.specs.declared.summary.Summary.{Summary}
use Rattle.summary_file.specs.File.{fork_number, fork_numbers, IsWritableFork}
use Rattle.summary_file.specs.Name.{sixteen_digits}
use Rattle.summary_file.specs.declared.numbers.ForkNumbers.{ForkNumbers}
use Rattle.summary_file.specs.declared.numbers.FileNumbers.{FileNumbers}
use Rattle.summary_file.specs.declared.fault.SummaryFault.{SummaryFault}
use Rattle.summary_file.specs.declared.fault.SummaryFault.TheVariants.{Length, Magic, Sum, Order, NoMemory}

-- so many parts of one form
abbrev pub many : {A : Type 0} → (List ℕ → Option (A × List ℕ)) → ℕ → List ℕ
    → Option (List A × List ℕ)
many read zero bytes = Some ([], bytes)
many read (suc n) bytes =
    read bytes >>= λ x. many read n x.1 >>= λ xs. Some (x.0 ∷ xs.0, xs.1)

-- a fork's numbers at the front, and the bytes after them
unfoldable pub fork_at : List ℕ → Option (ForkNumbers × List ℕ)
fork_at bytes = do
  db ← number_at w32 bytes
  rel ← number_at w32 db.1
  kind ← number_at w32 rel.1
  limit ← number_at w32 kind.1
  count ← number_at w32 limit.1
  blocks ← many (number_at w32) count.0 count.1
  Some (
    record { db = db.0; rel = rel.0; kind = kind.0; limit = limit.0; blocks = blocks.0 },
    blocks.1,
  )

-- the numbers of a file, and the sum at its end; None where the counts don't give the size
unfoldable pub file_at : List ℕ → Option (FileNumbers × ℕ)
file_at bytes = do
  magic ← number_at w32 bytes
  start ← number_at w64 magic.1
  end ← number_at w64 start.1
  made ← number_at w64 end.1
  count ← number_at w64 made.1
  forks ← many fork_at count.0 count.1
  crc ← number_at w32 forks.1
  if length crc.1 == 0 then Some (
    record {
      magic = magic.0;
      start = start.0;
      end = end.0;
      made = made.0;
      forks = forks.0;
    },
    crc.0,
  ) else None

-- a reading fails by Length alone, just where nothing is found, or for want of memory
abbrev pub Fails : {X : Type 0} → Option X → SummaryFault → Type 0
Fails found Length = found ≡ None
Fails found Magic = ⊥
Fails found Sum = ⊥
Fails found Order = ⊥
Fails found NoMemory = Unit {0}

-- a reading answers what is found
abbrev pub Reads : {A X : Type 0} → Option X → (A → X) → Result A SummaryFault → Type 0
Reads found shows (Ok x) = found ≡ Some (shows x)
Reads found shows (Err fault) = Fails found fault

-- the numbers of a summary but those of its forks have room where they stand
pub record FrontHasRoom (s : Summary) : Type 0 where
  pub start : s.start.0 < 2 ^ 64
  pub end : s.end.0 < 2 ^ 64
  pub made : s.made < 2 ^ 64
  pub count : length s.forks < 2 ^ 64

-- no kind of fork has this number
abbrev pub IsNoKind : ℕ → Type 0
IsNoKind number = (kind : ForkKind) → number ≡ fork_number kind → ⊥

-- blocks of a file: they rise, and a store's fork may have them
abbrev pub AreBlocks : List ℕ → Type 0
AreBlocks blocks =
    IsStrictlySortedBy nat_cmp blocks × AllByRecursion (λ b. b < most_blocks) blocks

-- numbers are those of a fork that a file can hold, with its blocks in order
pub record IsForkOf (n : ForkNumbers) (f : ForkSummary) : Type 0 where
  pub some_db : 0 < f.fork.rel.db
  pub some_rel : 0 < f.fork.rel.rel
  pub sorted : IsForkSummary f
  pub writable : IsWritableFork f
  pub numbers : n ≡ fork_numbers f

abbrev pub IsNoForkOf : ForkNumbers → Type 0
IsNoForkOf n = (f : ForkSummary) → IsForkOf n f → ⊥

-- the same of several, one by one
abbrev pub AreForksOf : List ForkNumbers → List ForkSummary → Type 0
AreForksOf [] [] = Unit {0}
AreForksOf [] (f ∷ fs) = ⊥
AreForksOf (n ∷ ns) [] = ⊥
AreForksOf (n ∷ ns) (f ∷ fs) = IsForkOf n f × AreForksOf ns fs

abbrev pub ForksAnswer : List ForkNumbers → Option (List ForkSummary) → Type 0
ForksAnswer ns (Some fs) = AreForksOf ns fs
ForksAnswer ns None = (fs : List ForkSummary) → AreForksOf ns fs → ⊥

-- numbers are those of a summary, in order, whatever stands at their front
pub record IsSummaryOf (n : FileNumbers) (s : Summary) : Type 0 where
  pub rises : s.start.0 < s.end.0
  pub forks : AreForksOf n.forks s.forks
  pub order : IsStrictlySortedBy fork_cmp (map (λ f. f.fork) s.forks)
  pub start : n.start ≡ s.start.0
  pub end : n.end ≡ s.end.0
  pub made : n.made ≡ s.made

abbrev pub SummaryAnswer : FileNumbers → Option Summary → Type 0
SummaryAnswer n (Some s) = IsSummaryOf n s
SummaryAnswer n None = (s : Summary) → IsSummaryOf n s → ⊥

-- no sixteen digits stand at the front
abbrev pub HasNoSixteen : List ℕ → Type 0
HasNoSixteen text = (n : ℕ) (tail : List ℕ) → n < 2 ^ 64 → text ≡ sixteen_digits n ++ tail → ⊥
