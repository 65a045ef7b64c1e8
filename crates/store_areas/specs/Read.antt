-- A WAL that was read whole.
use Rattle.std.specs.Prelude.{◌≡◌, ℕ, ◌<◌, List, map, Option, Some, None, IsSome}
use Rattle.std.specs.FinMap.{empty}
use Rattle.lsn_core.specs.Files.{Files}
use Rattle.lsn_core.specs.Segment.{StoreSettings}
use Rattle.lsn_core.specs.Store.{Store}
use Rattle.lsn_core.specs.Tip.{Tip}
use Rattle.wal_record.specs.declared.record.Record.{Record}
use Rattle.history.specs.Entry.{Entry}
use Rattle.history.specs.Apply.{apply_all}
use Rattle.history.specs.Pages.{page_count}
use Rattle.history.specs.Whole.{entry_of}
use Rattle.recovery.specs.Reading.{IsReadTo}
use Rattle.recovery.specs.Causes.{HasSettings}

-- a WAL was read whole: its entries are the history, which makes a store of so many pages, where
-- the WAL's area tells its files
pub record HasRead (s : StoreSettings) (files : Option Files) (history : List Entry) (pages : ℕ)
    (tip : Tip) : Type 0 where
  pub found : List Record
  pub read : IsReadTo s files None found tip
  pub history_is : history ≡ map entry_of found
  pub store : Store
  pub made : IsSome files → apply_all empty history ≡ Some store
  pub counted : IsSome files → page_count store ≡ pages

-- the WAL of a store was found: its settings, and what it was read to, an entry at least
pub record IsFound (files : Option Files) (s : StoreSettings) (history : List Entry) (pages : ℕ)
    (tip : Tip) : Type 0 where
  pub given : HasSettings files s
  pub has : HasRead s files history pages tip
  pub some : 0 < tip.count
