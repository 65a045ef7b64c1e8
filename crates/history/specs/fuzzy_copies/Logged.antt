-- A history whose first entries were found in the WAL and whose others are this run's own, and the
-- records that the WAL then has.
use Rattle.std.specs.Prelude.{◌≡◌, ℕ, List, [], ◌∷◌, ◌++◌, map}
use Rattle.wal_record.specs.declared.record.Record.{Record}
use Rattle.history.specs.Entry.{Entry}
use Rattle.history.specs.Whole.{entry_of}
use Rattle.history.specs.Written.{Before, behind, behind_all, next_record, at_first, wal_of}
use Rattle.history.specs.Laws.{AreWrittenInPlace}

-- the history: entries that were found, and own ones behind them
abbrev pub history_of : List Record → List Entry → List Entry
history_of found own = map entry_of found ++ own

-- what is known before the first own entry
abbrev pub found_before : ℕ → List Record → Before
found_before mib found = behind_all (at_first mib) (map entry_of found)

-- the records of the WAL: those that were found, and behind them those that the history is written
-- as, which are of its own entries alone
abbrev pub log_of : ℕ → List Record → List Entry → List Record
log_of mib found own = found ++ wal_of mib (history_of found own)

-- each entry starts where its record does
abbrev pub StartInPlace : ℕ → Before → List Entry → Type 0
StartInPlace mib before [] = Unit
StartInPlace mib before (e ∷ es) =
    (e.start ≡ (next_record mib before e.act).start.0) × StartInPlace mib (behind before e) es

-- own entries that start and end where their records do, and put good pages
pub record AreLogged (mib : ℕ) (found : List Record) (own : List Entry) : Type 0 where
  pub starts : StartInPlace mib (found_before mib found) own
  pub written : AreWrittenInPlace mib (found_before mib found) own
