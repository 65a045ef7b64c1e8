-- What holds of the files of summaries.
use Rattle.std.specs.Prelude.{◌≡◌, ◌⊎◌, ◌<◌, ◌^◌, ℕ, List, Result, Ok, Err}
use Rattle.wal_summary.specs.declared.summary.Summary.{Summary}
use Rattle.summary_file.specs.File.{IsWritable, HasRoom, summary_bytes, DecodeAnswers}
use Rattle.summary_file.specs.Name.{summary_name_bytes}
use Rattle.summary_file.specs.declared.fault.SummaryFault.{SummaryFault}
use Rattle.summary_file.specs.declared.fault.SummaryFault.TheVariants.{NoMemory}

-- what is written of a summary is read as that summary, and isn't refused
abbrev pub WrittenSummariesAreRead : Type 0
WrittenSummariesAreRead = (s : Summary) (r : Result Summary SummaryFault)
    → IsWritable s → HasRoom s → DecodeAnswers (summary_bytes s) r
    → (r ≡ Ok s) ⊎ (r ≡ Err NoMemory)

-- bytes that are read as a summary are those that are written of it, and of no other one
abbrev pub ReadSummariesAreWritten : Type 0
ReadSummariesAreWritten = (bytes : List ℕ) (s : Summary) → DecodeAnswers bytes (Ok s)
    → IsWritable s × (summary_bytes s ≡ bytes)
    × ((t : Summary) → DecodeAnswers bytes (Ok t) → t ≡ s)

-- a name is that of one range's file
abbrev pub NamesHaveOneRange : Type 0
NamesHaveOneRange = (a b c d : ℕ) → a < 2 ^ 64 → b < 2 ^ 64 → c < 2 ^ 64 → d < 2 ^ 64
    → summary_name_bytes a b ≡ summary_name_bytes c d → (a ≡ c) × (b ≡ d)
