-- From where on the log of several runs is replayed.
use Rattle.std.specs.Prelude.{◌≡◌, ◌⊎◌, ℕ, ◌==◌, ◌&&◌, Bool, true, false, List, [], ◌∷◌, ◌++◌, map, Some, IfSome}
use Rattle.std.specs.List.{All, list_any}
use Rattle.lsn_core.specs.declared.lsn.Lsn.{Lsn}
use Rattle.wal_record.specs.declared.record.Record.{Record}
use Rattle.history.specs.Entry.{Entry}
use Rattle.history.specs.Whole.{entry_of}
use Rattle.history.specs.Written.{is_redo}
use Rattle.store_restart.specs.Survivors.{has_start, named_by, replay_start}

-- the start of a checkpoint starts at a place
abbrev pub is_mark_at : ℕ → Entry → Bool
is_mark_at from e = (e.start == from) && is_redo e.act

-- the first of some entries starts at a place, or the start of a checkpoint does
abbrev pub IsRedoPlace : ℕ → List Entry → Type 0
IsRedoPlace from [] = ⊥
IsRedoPlace from (e ∷ es) = (e.start ≡ from) ⊎ (list_any (is_mark_at from) (e ∷ es) ≡ true)

-- wherever a history is cut off, its replay begins at such a place
abbrev pub BeginAtRedoPlaces : List Record → Type 0
BeginAtRedoPlaces history =
    (records lost : List Record) (from : Lsn) → history ≡ records ++ lost
    → replay_start records ≡ Some from → IsRedoPlace from.0 (map entry_of records)

-- each checkpoint of some records names a place where none of those starts that were found before
abbrev pub NameOwnPlaces : List Record → List Record → Type 0
NameOwnPlaces found news =
    All (λ r. IfSome (named_by r.kind) (λ at. has_start found at.0 ≡ false)) news
