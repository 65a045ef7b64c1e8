-- Which summaries are kept of an area's files.
use Rattle.std.specs.Prelude.{◌≡◌, ℕ, ◌≤◌, ◌⊎◌, List, [], ◌∷◌}
use Rattle.std.specs.FinMap.{keys}
use Rattle.lsn_core.specs.Files.{Files}
use Rattle.lsn_core.specs.Causes.{Rose}
use Rattle.lsn_core.specs.declared.fault.AreaFault.TheVariants.{Failed}
use Rattle.vault.specs.Area.{bytes_of}
use Rattle.vault.specs.Frame.{OnlyReads}
use Rattle.vault.specs.declared.area.Vault.{Ghosts}
use Rattle.wal_summary.specs.declared.summary.Summary.{Summary}
use Rattle.summary_file.specs.File.{IsFileOf}
use Rattle.summary_file.specs.Name.{summary_name_bytes}
use Rattle.summary_store.specs.declared.kept.SumsFault.{SumsFault}

-- an area, and the summaries that are kept of it
pub record Sums (V : Type 0) : Type 0 where
  pub area : V
  pub sums : List Summary

-- a file is that of a summary, under the name of the summary's range
pub record IsSummaryIn (files : Files) (name : List ℕ) (sum : Summary) : Type 0 where
  pub named : name ≡ summary_name_bytes sum.start.0 sum.end.0
  pub file : IsFileOf sum (bytes_of files name)

-- and the summary starts at a place or past it; a file of which no summary does is passed over
abbrev pub IsKeptPast : ℕ → Files → List ℕ → Summary → Type 0
IsKeptPast low files name sum = IsSummaryIn files name sum × (low ≤ sum.start.0)

abbrev pub IsPassedOver : ℕ → Files → List ℕ → Type 0
IsPassedOver low files name = (sum : Summary) → IsKeptPast low files name sum → ⊥

-- what is kept of the files of these names, taken in turn: the summary of each that starts at a
-- place or past it, which then is the end of the last one kept
abbrev pub AreKeptPast : ℕ → Files → List (List ℕ) → List Summary → Type 0
AreKeptPast low files [] sums = sums ≡ []
AreKeptPast low files (name ∷ names) [] =
    IsPassedOver low files name × AreKeptPast low files names []
AreKeptPast low files (name ∷ names) (sum ∷ sums) =
    (IsKeptPast low files name sum × AreKeptPast sum.end.0 files names sums)
    ⊎ (IsPassedOver low files name × AreKeptPast low files names (sum ∷ sums))

-- what is kept of all files, taken in byte order of their names
abbrev pub AreKept : Files → List Summary → Type 0
AreKept files sums = AreKeptPast 0 files (keys files) sums

-- the end of the last one of some summaries; where there is none, a place before them
abbrev pub end_behind : ℕ → List Summary → ℕ
end_behind low [] = low
end_behind low (sum ∷ sums) = end_behind sum.end.0 sums

-- an area was only read, and is handed back with a fault, which has its cause
pub record IsHandedBack {V : Type 0} (g : Ghosts V) (area : V) (fault : SumsFault V) : Type 0 where
  pub reads : OnlyReads g area fault.area
  pub cause : fault.why ≡ Failed → Rose (g.faults area) (g.faults fault.area)
