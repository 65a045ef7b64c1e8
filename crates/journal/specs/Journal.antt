-- The WAL of a store, and the history that it tells.
use Rattle.std.specs.Prelude.{◌≡◌, ℕ, ◌<◌, ◌≤◌, ◌^◌, ◌==◌, true, List, ◌++◌, length, Option, Some, IfSome, Result}
use Rattle.std.specs.List.{list_any}
use Rattle.std.specs.FinMap.{empty}
use Rattle.std.specs.Global.{Vec}
use Rattle.lsn_core.specs.Files.{Files}
use Rattle.lsn_core.specs.Segment.{StoreSettings}
use Rattle.lsn_core.specs.Store.{Store}
use Rattle.lsn_core.specs.Tip.{Tip}
use Rattle.vault.specs.Frame.{IsDurable}
use Rattle.vault.specs.declared.area.Vault.{Ghosts}
use Rattle.wal_record.specs.declared.record.Record.{Record}
use Rattle.wal_record.specs.declared.record.Kind.{Kind}
use Rattle.wal_record.specs.Decoding.{record_at}
use Rattle.wal_archive.specs.Archive.{archive_of}
use Rattle.wal_archive.specs.Rules.{IsWal, lsn}
use Rattle.wal_archive.specs.Laws.{HasNoGap}
use Rattle.wal_reader.specs.declared.fault.WalFault.{WalFault}
use Rattle.wal_reader.specs.wal_pieces.Piece.{ReadsPiece}
use Rattle.wal_writer.specs.declared.state.WalState.{WalState}
use Rattle.wal_writer.specs.Log.{Log}
use Rattle.wal_writer.specs.Laws.{IsKnown, Waits}
use Rattle.history.specs.Entry.{Act, Entry}
use Rattle.history.specs.Apply.{apply_act, apply_all}
use Rattle.history.specs.Laws.{IsFresh, HasGoodPages}
use Rattle.history.specs.Op.{IsTidy}
use Rattle.history.specs.Pages.{page_count}
use Rattle.history.specs.Written.{kind_of, tip_of}
use Rattle.history.specs.fuzzy_copies.Orderly.{AllEndBy}
use Rattle.history.specs.fuzzy_copies.Logged.{log_of}
use Rattle.journal.specs.Lawful.{IsLawful}

-- the area's archive is the first of these entries, and the others wait in the log to be flushed.
-- Where no flush failed since, the archive ends behind them, unless it goes on over a missing file
pub record HoldsLog (log : Log) (files : Files) (records : List Record) : Type 0 where
  pub stable : List Record
  pub waiting : List Record
  pub all : records ≡ stable ++ waiting
  pub tip : Tip
  pub known : IsKnown record_at log files stable tip
  pub waits : Waits record_at log tip waiting
  pub ended : log.touched ≤ tip.end → HasNoGap log.mib (archive_of log.mib files) tip.end
      → IsWal record_at log.mib log.system files stable tip

-- a log ends with a history, whatever its area tells: it counts as many entries, ends where the
-- last one does, and none ends behind it
pub record EndsWith (log : Log) (history : List Entry) : Type 0 where
  pub counted : length history ≡ log.tip.count
  pub end : (tip_of log.mib history).end ≡ log.tip.end
  pub within : AllEndBy log.tip.end history

-- a log ends where a lawful history does, whose store has so many pages; and where the area tells
-- its files, the WAL is the records of that history
pub record IsTold (log : Log) (told : Option Files) (history : List Entry) (pages : ℕ)
    : Type 0 where
  pub lawful : IsLawful log.mib history
  pub tip : log.tip ≡ tip_of log.mib history
  pub counted : page_count lawful.store ≡ pages
  pub held : IfSome told (λ files. HoldsLog log files (log_of log.mib lawful.found lawful.own))

-- so the log and the files of a WAL that is written
abbrev pub IsJournal : {V : Type 0} → Ghosts V → WalState V → List Entry → ℕ → Type 0
IsJournal g wal history pages = IsTold wal.tail (g.files wal.area) history pages

-- where no flush failed since the last one that succeeded, a stop leaves the area's files
abbrev pub IsAtRest : {V : Type 0} → Ghosts V → WalState V → Type 0
IsAtRest g wal = wal.tail.touched ≤ wal.tail.flushed → IsDurable (g.files wal.area)
    (g.past wal.area)

-- a journal, as contracts see it
pub record Written (V : Type 0) : Type 0 where
  pub wal : WalState V
  pub pen : List Entry
  pub pages : ℕ

-- an entry of a history ends at a place
abbrev pub IsEndOf : List Entry → ℕ → Type 0
IsEndOf history at = list_any (λ e. e.end == at) history ≡ true

-- an act may come next, where the store is this one: it is written as this kind, behind the latest
-- redo point, finds what it names, and can be done, which leaves so many pages
pub record MayComeNext (redo : ℕ) (store : Store) (act : Act) (kind : Kind) (pages : ℕ)
    : Type 0 where
  pub kind_is : kind ≡ kind_of store redo act
  pub tidy : IsTidy store act
  pub fresh : IsFresh act
  pub good : HasGoodPages act
  pub done : (end : ℕ) → end < 2 ^ 64
      → (next : Store) × (apply_act end store act ≡ Some next) × (page_count next ≡ pages)

-- behind a history
abbrev pub MayFollow : ℕ → List Entry → Act → Kind → ℕ → Type 0
MayFollow mib history act kind pages =
    (store : Store) → apply_all empty history ≡ Some store
    → MayComeNext (tip_of mib history).redo store act kind pages

-- the entry of an act in a record's place, by a worker; a command has its number among the worker's
abbrev pub entry_at : Record → Act → ℕ → Option ℕ → Entry
entry_at r act worker seq = record {
  act = act;
  start = r.start.0;
  end = r.end.0;
  worker = Some worker;
  seq = seq;
}

-- a piece of what is flushed is read
abbrev pub ReadsFlushed : {V : Type 0} → Ghosts V → StoreSettings → ℕ → ℕ → WalState V → WalState V
    → Result (Vec Record) WalFault → Type 0
ReadsFlushed g s from most old new result =
    ReadsPiece g s from (Some (lsn old.tail.flushed)) most old.area new.area result
