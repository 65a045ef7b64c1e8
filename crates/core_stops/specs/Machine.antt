-- The core machine with what its steps do to the areas of its partitions, and with the place up
-- to which the WAL is flushed before each of them.
use Rattle.std.specs.Prelude.{◌≡◌, ◌≤◌, ℕ, ◌==◌, ◌&&◌, ◌||◌, min, not, Bool, false, List, [], ◌∷◌}
use Rattle.std.specs.Prelude.{◌++◌, length, Option, Some, None, nat_lt, nat_le, if◌then◌else◌}
use Rattle.std.specs.List.{filter, list_any}
use Rattle.std.specs.FinMap.{empty}
use Rattle.lsn_core.specs.declared.ids.BlockId.{BlockId}
use Rattle.lsn_core.specs.Blocks.{pages_of}
use Rattle.lsn_core.specs.Files.{Files}
use Rattle.lsn_core.specs.Store.{Store}
use Rattle.vault.specs.Stops.{Event, synced}
use Rattle.vault.specs.Frame.{Each}
use Rattle.rel_files.specs.Events.{IsFileRemoval, IsForkCut, IsMake, IsPut}
use Rattle.rel_files.specs.Forks.{Holds, whole_pages}
use Rattle.history.specs.Entry.{Entry}
use Rattle.history.specs.fuzzy_copies.Touches.{touches}
use Rattle.history.specs.fuzzy_copies.Taken.{since}
use Rattle.store_core.specs.declared.step.Step.{Step}
use Rattle.store_core.specs.declared.step.Step.TheVariants.{Insert, WritePage, Clean, Redo, Begin}
use Rattle.store_core.specs.declared.step.Step.TheVariants.{Publish, ListForks, CopyBlock, End}
use Rattle.store_core.specs.declared.step.Work.{Work}
use Rattle.store_core.specs.declared.step.Work.TheVariants.{Make, Cut, Remove}
use Rattle.store_core.specs.State.{Part, State, first_record, first_state, end_of_wal}
use Rattle.store_core.specs.Parts.{Turn, next_write}
use Rattle.store_core.specs.Facts.{enters}
use Rattle.store_core.specs.Laws.{PutsPages}
use Rattle.store_core.specs.Steps.{step_of}
use Rattle.stop_machine.specs.Area.{Area}

-- ---- the machine

-- the core machine; what happened to the area of each partition, by its number; and the place up
-- to which the WAL is flushed
pub record CoreWithStops : Type 0 where
  pub core : State
  pub pasts : ℕ → List Event
  pub flushed : ℕ

-- an entry starts below a place, or ends at another one or before it; or neither
abbrev pub is_known : ℕ → ℕ → Entry → Bool
is_known from flushed e = nat_lt e.start from || nat_le e.end flushed

abbrev pub is_later : ℕ → ℕ → Entry → Bool
is_later from flushed e = not (is_known from flushed e)

-- the area of a partition: of a history it knows the entries that start below the partition's
-- point or are flushed, and the others are later
abbrev pub area_at : List Entry → ℕ → ℕ → List Event → Area
area_at history from flushed past = record {
  known = filter (is_known from flushed) history;
  later = filter (is_later from flushed) history;
  from = from;
  mark = flushed;
  past = past;
}

abbrev pub area_of : CoreWithStops → ℕ → Area
area_of c q = area_at c.core.history (c.core.parts q).point c.flushed (c.pasts q)

-- a new store: its areas are empty, durably, and its first entry is flushed
abbrev pub first_core : ℕ → ℕ → CoreWithStops
first_core mib relseg = record {
  core = first_state mib relseg;
  pasts = λ q. synced (Some empty) ∷ [];
  flushed = (first_record mib).end.0;
}

-- ---- writes of a partition

-- an entry that did something ends past a place
abbrev pub is_late : (Entry → Bool) → ℕ → Entry → Bool
is_late did flushed e = did e && nat_lt flushed e.end

-- the WAL is flushed up to the end of the last of some entries that did something
abbrev pub IsFlushed : (Entry → Bool) → ℕ → List Entry → Type 0
IsFlushed did flushed entries = list_any (is_late did flushed) entries ≡ false

abbrev pub entered : Work → Entry → Bool
entered work e = enters work e.act

-- an event of a work that is done on a disk; one of a page that is put there
abbrev pub IsOfWork : ℕ → Store → Work → Event → Type 0
IsOfWork relseg disk (Make fork) = IsMake fork
IsOfWork relseg disk (Cut fork count) =
    IsForkCut relseg fork (min (length (whole_pages (pages_of disk fork))) count)
IsOfWork relseg disk (Remove fork) = IsFileRemoval fork 0

abbrev pub IsOfPut : ℕ → Store → BlockId → Event → Type 0
IsOfPut relseg disk at = IsPut relseg (length (whole_pages (pages_of disk at.fork))) at

-- events are those of the next write on a disk, for which the WAL is flushed: of these entries,
-- up to the last one that entered the first work, or, where there is none, that touched the first
-- dirty block
abbrev pub IsNextWrite : ℕ → ℕ → List Entry → Store → List Work → List BlockId → List Event
    → Type 0
IsNextWrite relseg flushed entries disk (work ∷ works) dirty events =
    IsFlushed (entered work) flushed entries × Each (IsOfWork relseg disk work) events
IsNextWrite relseg flushed entries disk [] (at ∷ dirty) events =
    IsFlushed (touches at.fork at.block) flushed entries × Each (IsOfPut relseg disk at) events
IsNextWrite relseg flushed entries disk [] [] events = events ≡ []

-- a partition behind its next write
abbrev pub part_behind : Part → Option Turn → Part
part_behind part None = part
part_behind part (Some turn) = turn.part

abbrev pub after_write : Part → Part
after_write part = part_behind part (next_write part part.works part.dirty)

-- the events of several writes in turn, and the partition and what happened to its area behind
-- them
abbrev pub AreWrites : ℕ → ℕ → List Entry → Part → List (List Event) → Type 0
AreWrites relseg flushed entries part [] = Unit {0}
AreWrites relseg flushed entries part (events ∷ writes) =
    IsNextWrite relseg flushed entries part.disk part.works part.dirty events
    × AreWrites relseg flushed entries (after_write part) writes

abbrev pub after_writes : Part → List (List Event) → Part
after_writes part [] = part
after_writes part (events ∷ writes) = after_writes (after_write part) writes

abbrev pub past_after : List Event → List (List Event) → List Event
past_after past [] = past
past_after past (events ∷ writes) = past_after (events ++ past) writes

-- nothing is dirty or pending
pub record IsClean (part : Part) : Type 0 where
  pub works : part.works ≡ []
  pub dirty : part.dirty ≡ []

-- ---- steps

-- a step of the core machine with what goes before it and what comes of it: the place up to which
-- the WAL is flushed before it, and, of a write or a clean, the events of its writes in turn, and
-- the files that are synced behind those of a clean
pub record FlushedStep : Type 0 where
  pub flushed : ℕ
  pub step : Step
  pub writes : List (List Event)
  pub files : Files

-- the machine behind the flush
abbrev pub with_flush : CoreWithStops → ℕ → CoreWithStops
with_flush c flushed = record { core = c.core; pasts = c.pasts; flushed = flushed }

abbrev pub with_past : (ℕ → List Event) → ℕ → List Event → ℕ → List Event
with_past pasts q past other = if other == q then past else pasts other

abbrev pub pasts_after : (ℕ → List Event) → FlushedStep → Step → ℕ → List Event
pasts_after pasts x (Insert worker command) = pasts
pasts_after pasts x (WritePage q) = with_past pasts q (past_after (pasts q) x.writes)
pasts_after pasts x (Clean q) =
    with_past pasts q (synced (Some x.files) ∷ past_after (pasts q) x.writes)
pasts_after pasts x (Redo worker) = pasts
pasts_after pasts x (Begin worker what) = pasts
pasts_after pasts x Publish = pasts
pasts_after pasts x (ListForks worker q) = pasts
pasts_after pasts x (CopyBlock worker at) = pasts
pasts_after pasts x (End worker) = pasts

-- the machine behind flush and step, and behind several in turn
abbrev pub after_step : CoreWithStops → FlushedStep → CoreWithStops
after_step c x = record {
  core = (step_of c.core x.step).0;
  pasts = pasts_after c.pasts x x.step;
  flushed = x.flushed;
}

abbrev pub after_steps : CoreWithStops → List FlushedStep → CoreWithStops
after_steps c [] = c
after_steps c (x ∷ steps) = after_steps (after_step c x) steps

-- its events are those of its writes of a partition, for which the WAL is flushed
abbrev pub WritesPart : CoreWithStops → FlushedStep → ℕ → Type 0
WritesPart c x q =
    AreWrites c.core.relseg x.flushed (since (c.core.parts q).point c.core.history)
    (c.core.parts q) x.writes

-- a clean writes until nothing is dirty or pending, and syncs files that hold the pages
pub record CleansPart (c : CoreWithStops) (x : FlushedStep) (q : ℕ) : Type 0 where
  pub writes : WritesPart c x q
  pub clean : IsClean (after_writes (c.core.parts q) x.writes)
  pub holds : Holds c.core.relseg x.files (c.core.parts q).frames

abbrev pub FitsStep : CoreWithStops → FlushedStep → Step → Type 0
FitsStep c x (Insert worker command) = Unit {0}
FitsStep c x (WritePage q) = WritesPart c x q × (length x.writes ≡ 1)
FitsStep c x (Clean q) = CleansPart c x q
FitsStep c x (Redo worker) = Unit {0}
FitsStep c x (Begin worker what) = Unit {0}
FitsStep c x Publish = Unit {0}
FitsStep c x (ListForks worker q) = Unit {0}
FitsStep c x (CopyBlock worker at) = Unit {0}
FitsStep c x (End worker) = Unit {0}

-- a step may be taken: the WAL is flushed as far as before or further, up to its end at most
pub record MayTake (c : CoreWithStops) (x : FlushedStep) : Type 0 where
  pub rises : c.flushed ≤ x.flushed
  pub within : x.flushed ≤ (end_of_wal c.core).end
  pub puts : PutsPages x.step
  pub fits : FitsStep c x x.step

abbrev pub MayTakeAll : CoreWithStops → List FlushedStep → Type 0
MayTakeAll c [] = Unit {0}
MayTakeAll c (x ∷ steps) = MayTake c x × MayTakeAll (after_step c x) steps
