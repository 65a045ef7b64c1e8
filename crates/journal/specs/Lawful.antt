-- A history that a store may come to.
use Rattle.std.specs.Prelude.{◌≡◌, ℕ, ◌<◌, List, [], ◌∷◌, map, length, Some}
use Rattle.std.specs.List.{All}
use Rattle.std.specs.FinMap.{empty}
use Rattle.lsn_core.specs.Segment.{segment_bytes}
use Rattle.lsn_core.specs.Store.{Store}
use Rattle.wal_pages.specs.Places.{start_after}
use Rattle.wal_record.specs.declared.record.Record.{Record}
use Rattle.history.specs.Entry.{Entry}
use Rattle.history.specs.Apply.{apply_all}
use Rattle.history.specs.Whole.{entry_of}
use Rattle.history.specs.Laws.{IsFresh}
use Rattle.history.specs.fuzzy_copies.Covers.{AreTidy}
use Rattle.history.specs.fuzzy_copies.Logged.{history_of, AreLogged}

-- each entry starts where one may start behind a place, which is where the one before ends, and
-- ends past its start
abbrev pub StandInPlace : ℕ → ℕ → List Entry → Type 0
StandInPlace mib last [] = Unit {0}
StandInPlace mib last (e ∷ es) =
    (e.start ≡ start_after mib last) × (e.start < e.end) × StandInPlace mib e.end es

-- the entries that were found, of which there is one at least, and behind them the run's own: in
-- their places, and such that they make a store. The own entries are those of commands and marks:
-- they end where they are written to, put good pages, and find what they name
pub record IsLawful (mib : ℕ) (history : List Entry) : Type 0 where
  pub found : List Record
  pub own : List Entry
  pub grown : history ≡ history_of found own
  pub some : 0 < length found
  pub places : StandInPlace mib (segment_bytes mib) history
  pub fresh : All (λ e. IsFresh e.act) history
  pub store : Store
  pub made : apply_all empty history ≡ Some store
  pub logged : AreLogged mib found own
  pub tidy : (base : Store) → apply_all empty (map entry_of found) ≡ Some base → AreTidy base own
