-- Data areas that a stop left, and the entries that survived it.
use Rattle.std.specs.Prelude.{◌≡◌, ◌<◌, ℕ, ◌==◌, Bool, true, false, List, ◌∷◌, ◌++◌, map, Some}
use Rattle.std.specs.List.{list_any}
use Rattle.std.specs.FinMap.{get}
use Rattle.lsn_core.specs.declared.ids.ForkId.{ForkId}
use Rattle.lsn_core.specs.Store.{Store}
use Rattle.wal_record.specs.declared.record.Record.{Record}
use Rattle.history.specs.Entry.{Entry}
use Rattle.history.specs.Whole.{entry_of}
use Rattle.history.specs.partitions.Parts.{partition_of, is_of}
use Rattle.history.specs.fuzzy_copies.Touches.{resets, settles}
use Rattle.history.specs.fuzzy_copies.Orderly.{RecordsRise}
use Rattle.history.specs.fuzzy_copies.Sound.{is_in, window, state_before, IsWrittenAsDelta}
use Rattle.history.specs.fuzzy_copies.Taken.{since}
use Rattle.history.specs.fuzzy_copies.Covers.{AreTidy, Covers}

-- entries change nothing of some forks
pub record LeaveAlone (ours : ForkId → Bool) (entries : List Entry) : Type 0 where
  pub blocks : (fork : ForkId) (block : ℕ) → ours fork ≡ true
      → list_any (resets fork block) entries ≡ false
  pub forks : (fork : ForkId) → ours fork ≡ true → list_any (settles fork) entries ≡ false

-- entries are tidy behind those that start below a place
abbrev pub AreTidyBehind : List Entry → List Entry → ℕ → Type 0
AreTidyBehind known more from =
    (base : Store) → state_before known from ≡ Some base → AreTidy base more

-- four disks together are a copy
abbrev pub IsCopyOf : (ℕ → Store) → Store → Type 0
IsCopyOf disks copy =
    (fork : ForkId) → get copy fork ≡ get (disks (partition_of fork.rel)) fork

-- from a place on, each delta of a block stands behind an image of it or a cut
abbrev pub DeltasFollow : List Entry → ℕ → ℕ → Type 0
DeltasFollow history from to =
    (fork : ForkId) (block : ℕ) (before : List Entry) (e : Entry) (later : List Entry)
    → history ≡ before ++ (e ∷ later) → is_in from to e ≡ true
    → IsWrittenAsDelta before e fork block
    → list_any (resets fork block) (window before from to) ≡ true

-- records that survived, and the disks that a stop left: each covers the records from a redo point
-- on, behind which the deltas follow, up to their end
pub record AreRestorable (records : List Record) (disks : ℕ → Store) (from to : ℕ) : Type 0 where
  pub rise : RecordsRise 0 records
  pub covers : (q : ℕ) → q < 4 → Covers (is_of q) (disks q) (map entry_of records) from
  pub deltas : DeltasFollow (map entry_of records) from to
  pub starts : list_any (λ e. e.start == from) (map entry_of records) ≡ true
  pub ends : list_any (λ e. e.end == to) (map entry_of records) ≡ true
  pub above : from < to
  -- and no record starts at that end or past it
  pub all : (t : Entry → Bool) → list_any t (window (map entry_of records) from to) ≡ false
      → list_any t (since from (map entry_of records)) ≡ false
