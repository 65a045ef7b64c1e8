-- What a stop leaves of a partition's area, by the entries that survive it in the WAL.
use Rattle.std.specs.Prelude.{◌≡◌, ◌<◌, ℕ, ◌==◌, Bool, true, false, List, ◌++◌, map, Some}
use Rattle.std.specs.List.{All, list_any}
use Rattle.lsn_core.specs.Files.{Files}
use Rattle.lsn_core.specs.Store.{Store}
use Rattle.wal_record.specs.declared.record.Record.{Record}
use Rattle.history.specs.Entry.{Marking, Shutdown, Online, RedoMark, NoOp, BackupEnd, IdleCut}
use Rattle.history.specs.Entry.{IdleCommit, Act, Create, Truncate, Change, Drop, Mark, Entry}
use Rattle.history.specs.Whole.{entry_of}
use Rattle.history.specs.fuzzy_copies.Sound.{state_before}
use Rattle.stop_areas.specs.Left.{IsLeftOf}
use Rattle.stop_laws.specs.Window.{window_base}

-- a mark names a redo point: it is the end of a checkpoint, or of a store that was shut down
abbrev pub mark_names : ℕ → Marking → Bool
mark_names from (Shutdown redo) = redo == from
mark_names from (Online redo) = redo == from
mark_names from (RedoMark n) = false
mark_names from NoOp = false
mark_names from (BackupEnd start) = false
mark_names from (IdleCut rel count flags) = false
mark_names from (IdleCommit time) = false

-- an act does, and an entry
abbrev pub act_names : ℕ → Act → Bool
act_names from (Create fork) = false
act_names from (Truncate rel count) = false
act_names from (Change items) = false
act_names from (Drop rels) = false
act_names from (Mark marking) = mark_names from marking

abbrev pub names : ℕ → Entry → Bool
names from e = act_names from e.act

-- entries are the first of a history, with each that ends at a place or before it, up to which
-- the WAL is flushed
pub record AreFirst (history : List Entry) (flushed : ℕ) (first : List Entry) : Type 0 where
  pub lost : List Entry
  pub parts : history ≡ first ++ lost
  pub late : All (λ e. flushed < e.end) lost

-- files of a partition: whichever first entries survive, and whichever redo point a checkpoint
-- among them names, the files have what the store had there, unless one of them from there on
-- changes it
abbrev pub IsLeftForAll : ℕ → ℕ → List Entry → ℕ → Files → Type 0
IsLeftForAll q relseg history flushed files =
    (first : List Entry) (from : ℕ) (base : Store) → AreFirst history flushed first
    → list_any (names from) first ≡ true → state_before first from ≡ Some base
    → IsLeftOf relseg (window_base q from first base) files

-- the same of the records of a WAL: the redo point is one at which one of those starts that
-- survive
abbrev pub IsLeftForRecords : ℕ → ℕ → List Record → ℕ → Files → Type 0
IsLeftForRecords q relseg records flushed files =
    (first lost : List Record) (from : ℕ) (base : Store)
    → records ≡ first ++ lost → All (λ r. flushed < r.end.0) lost
    → list_any (names from) (map entry_of first) ≡ true
    → list_any (λ e. e.start == from) (map entry_of first) ≡ true
    → state_before (map entry_of first) from ≡ Some base
    → IsLeftOf relseg (window_base q from (map entry_of first) base) files
