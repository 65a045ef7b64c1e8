-- Replay from a copy.
use Rattle.std.specs.Prelude.{ℕ, ◌&&◌, Bool, List, [], ◌∷◌, nat_le, Option, Some}
use Rattle.std.specs.List.{filter}
use Rattle.lsn_core.specs.byte_words.Numbers.{◌>>=◌}
use Rattle.lsn_core.specs.Store.{Store}
use Rattle.wal_record.specs.declared.record.Record.{Record}
use Rattle.history.specs.Entry.{Entry}
use Rattle.history.specs.Apply.{Rule, act_by}
use Rattle.history.specs.Whole.{entry_of}
use Rattle.history.specs.Redo.{redone, redo_all}

-- entries in turn, by a rule for edits; `apply_all` is this with `edited`
abbrev pub entries_by : Rule → Store → List Entry → Option Store
entries_by rule store [] = Some store
entries_by rule store (e ∷ es) =
    act_by rule e.end store e.act >>= λ next. entries_by rule next es

-- an entry starts at a place or past it, and ends by another
abbrev pub is_replayed : ℕ → ℕ → Entry → Bool
is_replayed from place e = nat_le from e.start && nat_le e.end place

-- the entries that start at a place or past it and end by another, replayed over a copy: an image
-- is restored, a delta is done where the page's LSN is below the entry's end
abbrev pub recovered : Store → List Entry → ℕ → ℕ → Option Store
recovered copy history from place =
    entries_by redone copy (filter (is_replayed from place) history)

-- the same of records, as they were read
abbrev pub recovered_records : Store → List Record → ℕ → ℕ → Option Store
recovered_records copy records from place =
    redo_all copy (filter (λ r. is_replayed from place (entry_of r)) records)
