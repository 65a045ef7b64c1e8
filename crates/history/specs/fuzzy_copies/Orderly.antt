-- Histories whose entries stand one behind the other.
use Rattle.std.specs.Prelude.{◌≡◌, ◌<◌, ◌≤◌, ◌^◌, ℕ, true, false, List, [], ◌∷◌}
use Rattle.std.specs.List.{All, list_any}
use Rattle.wal_record.specs.declared.record.Record.{Record}
use Rattle.history.specs.Entry.{Entry, is_of_run}
use Rattle.history.specs.Laws.{IsFresh}

-- entries behind a place, in order: each starts where the one before ends or past it, and ends past
-- its start, and no patch of it is of a block that an earlier item of the entry names
abbrev pub IsOrderly : ℕ → List Entry → Type 0
IsOrderly last [] = Unit
IsOrderly last (e ∷ es) =
    (last ≤ e.start) × (e.start < e.end) × IsFresh e.act × IsOrderly e.end es

-- all entries are those of records that were read: none is of this run
abbrev pub AreRead : List Entry → Type 0
AreRead entries = list_any is_of_run entries ≡ false

-- the entries that start at a place or past it are this run's own
abbrev pub AreOwnFrom : ℕ → List Entry → Type 0
AreOwnFrom from = All (λ e. from ≤ e.start → is_of_run e ≡ true)

-- all entries end by a place
abbrev pub AllEndBy : ℕ → List Entry → Type 0
AllEndBy place = All (λ e. e.end ≤ place)

-- records behind a place, each behind the one before in the same way, with ends below 2^64
abbrev pub RecordsRise : ℕ → List Record → Type 0
RecordsRise last [] = Unit
RecordsRise last (r ∷ rs) =
    (last ≤ r.start.0) × (r.start.0 < r.end.0) × (r.end.0 < 2 ^ 64) × RecordsRise r.end.0 rs
