-- Laws of the machine, over every list of steps.
use Rattle.std.specs.Prelude.{◌≡◌, ℕ, ◌≤◌, List, [], ◌∷◌, ◌++◌, Option, None, Some, slice_get}
use Rattle.std.specs.List.{All}
use Rattle.std.specs.FinMap.{empty}
use Rattle.lsn_core.specs.Segment.{IsSegmentMib}
use Rattle.lsn_core.specs.Store.{Store}
use Rattle.history.specs.Entry.{Entry}
use Rattle.history.specs.Laws.{HasGoodPages, applied_up_to}
use Rattle.history.specs.Op.{act_of_op}
use Rattle.history.specs.Whole.{whole}
use Rattle.history.specs.fuzzy_copies.Sound.{IsSoundCopy}
use Rattle.history.specs.fuzzy_copies.Recovered.{recovered_records}
use Rattle.history.specs.fuzzy_copies.Summary.{summary_of}
use Rattle.store_core.specs.declared.step.Step.{Step}
use Rattle.store_core.specs.declared.step.Step.TheVariants as step
use Rattle.store_core.specs.State.{Published, Increment, Finished, State, records_of}
use Rattle.store_core.specs.Increments.{copy_over, chain_store}
use Rattle.store_core.specs.Steps.{machine_after}
use Rattle.store_core.specs.Facts.{AllKeepFacts}

-- the pages that a step puts have good headers, as each value of their type has
abbrev pub PutsPages : Step → Type 0
PutsPages (step.Insert worker command) = HasGoodPages (act_of_op command)
PutsPages (step.WritePage q) = Unit
PutsPages (step.Clean q) = Unit
PutsPages (step.Redo worker) = Unit
PutsPages (step.Begin worker what) = Unit
PutsPages step.Publish = Unit
PutsPages (step.ListForks worker q) = Unit
PutsPages (step.CopyBlock worker at) = Unit
PutsPages (step.End worker) = Unit

-- a machine with segments of so many MiB may take these steps
pub record MayRun (mib : ℕ) (steps : List Step) : Type 0 where
  pub segment : IsSegmentMib mib
  pub pages : All PutsPages steps

-- after every list of steps each partition keeps its facts
abbrev pub MachinesKeepTheirFacts : Type 0
MachinesKeepTheirFacts =
    (mib relseg : ℕ) (steps : List Step) → MayRun mib steps
    → AllKeepFacts (machine_after mib relseg steps)

-- a published summary says what the entries of its range say
abbrev pub IsHonest : List Entry → Published → Type 0
IsHonest history p = p.table ≡ summary_of history p.start p.end

abbrev pub PublishedSummariesAreHonest : Type 0
PublishedSummariesAreHonest =
    (mib relseg : ℕ) (steps : List Step) → MayRun mib steps
    → All (IsHonest (machine_after mib relseg steps).history)
    (machine_after mib relseg steps).published

-- an incremental backup extends each sound copy that starts where it tells, and ends by its start,
-- to a sound one
abbrev pub ExtendsCopies : List Entry → Finished → Increment → Type 0
ExtendsCopies history b i =
    (prior : Store) (stop : ℕ) → IsSoundCopy prior history i.prior stop → stop ≤ b.start
    → IsSoundCopy (copy_over i.sent b.copy prior) history b.start b.end

-- a finished backup is sound for a history: a full one is a sound copy
abbrev pub IsSoundBy : List Entry → Finished → Option Increment → Type 0
IsSoundBy history b None = IsSoundCopy b.copy history b.start b.end
IsSoundBy history b (Some i) = ExtendsCopies history b i

abbrev pub IsSoundFor : List Entry → Finished → Type 0
IsSoundFor history b = IsSoundBy history b b.increment

-- and each finished backup is sound
abbrev pub FinishedBackupsAreSound : Type 0
FinishedBackupsAreSound =
    (mib relseg : ℕ) (steps : List Step) → MayRun mib steps
    → All (IsSoundFor (machine_after mib relseg steps).history)
    (machine_after mib relseg steps).finished

-- one machine comes of another by more steps: its history goes on, and what was finished stays so
pub record GoesOn (before behind : State) : Type 0 where
  pub entries : List Entry
  pub history : behind.history ≡ before.history ++ entries
  pub backups : List Finished
  pub finished : behind.finished ≡ before.finished ++ backups
  -- so that each backup that was finished is sound for the later history
  pub sound : All (IsSoundFor behind.history) before.finished

abbrev pub FinishedBackupsStay : Type 0
FinishedBackupsStay =
    (mib relseg : ℕ) (steps more : List Step) → MayRun mib (steps ++ more)
    → GoesOn (machine_after mib relseg steps) (machine_after mib relseg (steps ++ more))

-- an incremental backup stands behind another one: it tells that one's start, and starts where that
-- one ends or past it
abbrev pub IsLinked : Finished → Option Increment → Finished → Type 0
IsLinked b None prior = ⊥
IsLinked b (Some i) prior = (i.prior ≡ prior.start) × (prior.end ≤ b.start)

-- a chain of backups, the newest first: a full one, and incremental ones behind it
abbrev pub IsChain : Finished → List Finished → Type 0
IsChain b [] = b.increment ≡ None
IsChain b (prior ∷ older) = IsLinked b b.increment prior × IsChain prior older

-- a backup is one of these
abbrev pub IsAmong : List Finished → Finished → Type 0
IsAmong finished b = (k : ℕ) × (slice_get finished k ≡ Some b)

-- backups of these that are a chain
pub record IsChainOf (finished : List Finished) (b : Finished) (older : List Finished)
    : Type 0 where
  pub among : All (IsAmong finished) (b ∷ older)
  pub chain : IsChain b older

-- the store of each chain of finished backups is sound, and replay of the machine's WAL over it
-- gives what the whole WAL gives from nothing, which is what the history made, for each place from
-- the last backup's end on
pub record IsRestored (s : State) (copy : Store) (start place : ℕ) : Type 0 where
  pub same : recovered_records copy (records_of s) start place ≡ whole (records_of s) place
  pub told : whole (records_of s) place ≡ applied_up_to empty s.history place

pub record IsWhole (s : State) (copy : Store) (start end : ℕ) : Type 0 where
  pub sound : IsSoundCopy copy s.history start end
  pub restored : (place : ℕ) → end ≤ place → IsRestored s copy start place

abbrev pub RestoredChainsAreWhole : Type 0
RestoredChainsAreWhole =
    (mib relseg : ℕ) (steps : List Step) (b : Finished) (older : List Finished)
    → MayRun mib steps → IsChainOf (machine_after mib relseg steps).finished b older
    → IsWhole (machine_after mib relseg steps) (chain_store (b ∷ older)) b.start b.end
