-- What is kept of an honest area is honest.
use Rattle.std.proofs.Common.{◌≡◌, ℕ, inl, inr, List, [], ◌∷◌, ◌++◌, Option, Some, None, refl, unwrap_or}
use Rattle.std.specs.FinMap.{get, keys}
use Rattle.std.specs.List.{AllByRecursion}
use Rattle.std.specs.Int.{w32, to_le_bytes}
use Rattle.lsn_core.specs.Files.{Files}
use Rattle.history.specs.Entry.{Entry}
use Rattle.vault.specs.Area.{bytes_of}
use Rattle.wal_summary.specs.declared.summary.Summary.{Summary}
use Rattle.wal_summary.specs.Kept.{AreHonest}
use Rattle.wal_summary.specs.Summary.{IsSummary}
use Rattle.history.specs.fuzzy_copies.Summary.{summary_of}
use Rattle.wal_crc.specs.Crc.{crc32c}
use Rattle.summary_file.specs.Numbers.{numbers_bytes}
use Rattle.summary_file.specs.File.{IsFileOf, summary_numbers}
use Rattle.summary_file.specs.Name.{summary_name_bytes}
use Rattle.summary_store.specs.Kept.{IsSummaryIn, AreKeptPast, AreKept}
use Rattle.summary_store.specs.Honest.{IsHonest}

no_sum : (bytes : List ℕ) (crc : ℕ) → [] ≡ bytes ++ to_le_bytes w32 crc → ⊥
no_sum [] crc e = absurd cc
no_sum (b ∷ bs) crc e = absurd cc

no_bytes : (s : Summary) → IsFileOf s [] → ⊥
no_bytes s file = no_sum (numbers_bytes (summary_numbers s)) (crc32c (numbers_bytes (summary_numbers s))) file.spelled

-- a file that is a summary's is there
is_there : (o : Option (List ℕ)) (s : Summary) → IsFileOf s (unwrap_or o []) → o ≡ Some (unwrap_or o [])
is_there None s file = absurd (no_bytes s file)
is_there (Some bytes) s file = refl

-- this holds of each summary whose file, under the name of its range, is among files
abbrev pub Holds : (Summary → Type 0) → Files → Type 0
Holds P files =
    (name bytes : List ℕ) (sum : Summary) → get files name ≡ Some bytes
    → name ≡ summary_name_bytes sum.start.0 sum.end.0 → IsFileOf sum bytes → P sum

pub holds_one : (P : Summary → Type 0) (files : Files) (name : List ℕ) (s : Summary) → Holds P files → IsSummaryIn files name s → P s
holds_one P files name s holds is = holds name (bytes_of files name) s (is_there (get files name) s is.file) is.named is.file

-- so it does of those that are kept of them
pub holds_kept : (P : Summary → Type 0) (files : Files) (low : ℕ) (names : List (List ℕ)) (sums : List Summary) → Holds P files → AreKeptPast low files names sums → AllByRecursion P sums
holds_kept P files low names [] holds kept = tt
holds_kept P files low [] (s ∷ ss) holds kept = absurd cc
holds_kept P files low (name ∷ names) (s ∷ ss) holds (inl here) = (holds_one P files name s holds here.0.0, holds_kept P files s.end.0 names ss holds here.1)
holds_kept P files low (name ∷ names) (s ∷ ss) holds (inr over) = holds_kept P files low names (s ∷ ss) holds over.1

pub honest_kept : (history : List Entry) (files : Files) (sums : List Summary) → IsHonest history files → AreKept files sums → AreHonest history sums
honest_kept history files sums honest kept =
    holds_kept (λ sum. IsSummary (summary_of history sum.start.0 sum.end.0) sum.forks) files 0 (keys files) sums (λ name bytes sum at named file. (honest name bytes sum at named file).says) kept
