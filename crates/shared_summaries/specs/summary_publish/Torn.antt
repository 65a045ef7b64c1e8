-- How a summary's file begins.
use Rattle.std.specs.Prelude.{◌≡◌, ◌⊎◌, ℕ, List, ◌∷◌, Option}
use Rattle.lsn_core.specs.Files.{Files}
use Rattle.vault.specs.Area.{Related}
use Rattle.wal_summary.specs.declared.summary.Summary.{Summary}
use Rattle.shared_summaries.specs.summary_publish.Published.{IsWhole}
use Rattle.shared_summaries.specs.summary_publish.Partly.{MayWriteSummary}

-- the first bytes of every summary's file, of which the first isn't 0
abbrev pub first_byte : ℕ
first_byte = 83

abbrev pub second_byte : ℕ
second_byte = 85

abbrev pub HasFront : List ℕ → Type 0
HasFront bytes = (rest : List ℕ) × (bytes ≡ first_byte ∷ (second_byte ∷ rest))

-- what a writing of a summary's file leaves, whatever it answers: all as it was, or a file that was
-- written, maybe not to its end
abbrev pub MayLeave : Summary → Files → Files → Type 0
MayLeave sum old new = (new ≡ old) ⊎ (IsWhole sum × MayWriteSummary sum old new)

-- so it is where the area tells its files
abbrev pub IsLeft : Summary → Option Files → Option Files → Type 0
IsLeft sum old new = Related (MayLeave sum) old new
