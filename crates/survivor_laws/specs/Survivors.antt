-- The entries of a WAL that survive a stop.
use Rattle.std.specs.Prelude.{◌≡◌, ◌≢◌, ℕ, List, ◌∷◌, ◌++◌, Some, Result, Ok, Err}
use Rattle.lsn_core.specs.Files.{Files}
use Rattle.lsn_core.specs.Tip.{Tip}
use Rattle.wal_record.specs.Spelling.{sealed}
use Rattle.wal_record.specs.Tips.{first_tip}
use Rattle.wal_record.specs.declared.record.Record.{Record}
use Rattle.wal_record.specs.declared.record.RecordFault.{RecordFault}
use Rattle.wal_record.specs.declared.record.RecordFault.TheVariants as refusal
use Rattle.wal_archive.specs.Archive.{Archive, archive_of}
use Rattle.wal_archive.specs.Rules.{Judge, Gives, lsn, place_behind}
use Rattle.wal_archive.specs.Rules.{next_bytes, next_in, Walks}
use Rattle.wal_archive.specs.Writing.{IsChain}

-- no entry is given behind a tip
abbrev pub IsStopped : Judge → ℕ → ℕ → Archive → Tip → Type 0
IsStopped judge mib system a tip = (r : Record) → next_in judge mib system a tip ≡ Gives r → ⊥

-- the entries before the first end or damage of an archive
pub record AreSurvivors (judge : Judge) (mib system : ℕ) (files : Files) (rs : List Record)
    (tip : Tip) : Type 0 where
  pub walk : Walks judge mib system (archive_of mib files) (first_tip mib) rs tip
  pub stopped : IsStopped judge mib system (archive_of mib files) tip

-- what is judged so passes the tests of its length, its link and its sum
abbrev pub PassesTests : Result Record RecordFault → Type 0
PassesTests (Ok r) = Unit {0}
PassesTests (Err refusal.Length) = ⊥
PassesTests (Err refusal.Prev) = ⊥
PassesTests (Err refusal.Crc) = ⊥
PassesTests (Err (refusal.Unsupported manager info)) = Unit {0}
PassesTests (Err refusal.Header) = Unit {0}
PassesTests (Err (refusal.Content why)) = Unit {0}
PassesTests (Err refusal.NoMemory) = ⊥

-- whatever stands behind a tip fails one of these tests, so that the archive ends there or is
-- damaged
abbrev pub FailsTests : Judge → ℕ → ℕ → Archive → Tip → Type 0
FailsTests judge mib system a tip =
    (bytes : List ℕ) → next_bytes a mib system tip.end ≡ Ok (Some bytes)
    → PassesTests (judge (place_behind mib tip.end bytes) (Some (lsn tip.prev)) bytes) → ⊥

-- bytes at the place of the next entry that aren't that entry's, and pass these tests
pub record MatchesByChance (judge : Judge) (mib system : ℕ) (a : Archive) (tip : Tip) (r : Record)
    : Type 0 where
  pub bytes : List ℕ
  pub stand : next_bytes a mib system tip.end ≡ Ok (Some bytes)
  pub other : bytes ≢ sealed r
  pub passes : PassesTests (judge (place_behind mib tip.end bytes) (Some (lsn tip.prev)) bytes)

-- entries one behind the other may be torn anywhere, but none by chance into another one
abbrev pub NoneByChance : Judge → ℕ → ℕ → Archive → Tip → List Record → Type 0
NoneByChance judge mib system a tip news =
    (done behind : List Record) (mid : Tip) (r : Record) → news ≡ done ++ (r ∷ behind)
    → IsChain judge mib tip done mid → MatchesByChance judge mib system a mid r → ⊥
