-- The area of one partition as a machine: entries, how far the WAL is flushed, and what happened to
-- the area.
use Rattle.std.specs.Prelude.{◌≡◌, ◌<◌, ◌≤◌, ℕ, Bool, true, List, [], ◌∷◌, ◌++◌, Some}
use Rattle.std.specs.List.{All}
use Rattle.std.specs.FinMap.{get}
use Rattle.lsn_core.specs.declared.ids.ForkId.{ForkId}
use Rattle.lsn_core.specs.Files.{Files}
use Rattle.lsn_core.specs.Store.{Store}
use Rattle.vault.specs.Stops.{Event, synced}
use Rattle.vault.specs.Frame.{Each, LeavesNow}
use Rattle.history.specs.Entry.{Entry}
use Rattle.history.specs.fuzzy_copies.Sound.{state_before, entries_before}
use Rattle.history.specs.fuzzy_copies.Taken.{since}
use Rattle.rel_files.specs.Forks.{Holds, HasWholePages}
use Rattle.stop_areas.specs.Left.{IsLeftOf}
use Rattle.stop_areas.specs.Keeps.{Keeps}
use Rattle.stop_laws.specs.Window.{base_of, IsWindow}

-- the entries that start below the point or are flushed, and the others, behind them; the point;
-- the mark, up to which the WAL was flushed for a write; and what happened to the area
pub record Area : Type 0 where
  pub known : List Entry
  pub later : List Entry
  pub from : ℕ
  pub mark : ℕ
  pub past : List Event

-- a step: an entry more; more of them are flushed, up to a mark; events of writes; or a sync of
-- these files, behind which the point is raised
pub data Step : Type 0 where
  Append : Entry → Step
  Flush : ℕ → List Entry → List Entry → Step
  Write : List Event → Step
  Clean : ℕ → List Entry → List Entry → Files → Step

-- the area behind a step
abbrev pub after : Area → Step → Area
after a (Append e) = record {
  known = a.known;
  later = a.later ++ (e ∷ []);
  from = a.from;
  mark = a.mark;
  past = a.past;
}
after a (Flush mark more rest) = record {
  known = a.known ++ more;
  later = rest;
  from = a.from;
  mark = mark;
  past = a.past;
}
after a (Write events) = record {
  known = a.known;
  later = a.later;
  from = a.from;
  mark = a.mark;
  past = events ++ a.past;
}
after a (Clean from known later files) = record {
  known = known;
  later = later;
  from = from;
  mark = a.mark;
  past = synced (Some files) ∷ a.past;
}

-- what stays of the area
abbrev pub IsLeftAt : (ForkId → Bool) → ℕ → Area → Store → Files → Type 0
IsLeftAt ours relseg a store files =
    IsLeftOf relseg (base_of ours store (since a.from a.known)) files

-- files hold just what the known entries make of these forks, as of another point; the others start
-- there or past it
pub record IsCleaned (ours : ForkId → Bool) (relseg : ℕ) (a : Area) (from : ℕ)
    (known later : List Entry) (files : Files) : Type 0 where
  pub same : known ++ later ≡ a.known ++ a.later
  pub store : Store
  pub now : Store
  pub window : IsWindow from known [] store now now
  pub held : Store
  pub ours_held : (fork : ForkId) → ours fork ≡ true → get held fork ≡ get now fork
  pub holds : Holds relseg files held
  pub whole : HasWholePages held
  pub late : entries_before later from ≡ []
  pub ends : All (λ e. a.mark < e.end) later

-- a step may be taken: entries that are appended end past the mark, those that aren't flushed too;
-- what is written keeps what stays
abbrev pub MayStep : (ForkId → Bool) → ℕ → Area → Step → Type 0
MayStep ours relseg a (Append e) = (a.mark < e.end) × (a.from ≤ e.start)
MayStep ours relseg a (Flush mark more rest) =
    (a.later ≡ more ++ rest) × All (λ e. mark < e.end) rest
MayStep ours relseg a (Write events) =
    (store : Store) → state_before a.known a.from ≡ Some store
    → Each (Keeps relseg (base_of ours store (since a.from a.known))) events
MayStep ours relseg a (Clean from known later files) =
    IsCleaned ours relseg a from known later files

-- the area is safe: each stop leaves what stays
pub record IsSafe (ours : ForkId → Bool) (relseg : ℕ) (a : Area) : Type 0 where
  pub store : Store
  pub defined : state_before a.known a.from ≡ Some store
  pub late : entries_before a.later a.from ≡ []
  pub ends : All (λ e. a.mark < e.end) a.later
  pub left : LeavesNow (IsLeftAt ours relseg a store) (Some a.past)
