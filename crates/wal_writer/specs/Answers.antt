-- What calls on the writer of the WAL answer.
use Rattle.std.specs.Prelude.{◌≡◌, ℕ, ◌-◌, ◌<◌, ◌≤◌, length, Result, Ok, Err}
use Rattle.std.specs.Option.{option_map}
use Rattle.lsn_core.specs.Files.{Files}
use Rattle.vault.specs.declared.area.Vault.{Ghosts}
use Rattle.wal_archive.specs.Writing.{archive_written}
use Rattle.wal_record.specs.Tips.{wal_limit}
use Rattle.wal_record.specs.declared.record.Record.{Record}
use Rattle.wal_record.specs.declared.record.Kind.{Kind}
use Rattle.wal_writer.specs.declared.fault.AppendFault.{AppendFault}
use Rattle.wal_writer.specs.declared.fault.AppendFault.TheVariants.{WalFull, NoMemory}
use Rattle.lsn_core.specs.declared.fault.NoMemory.{NoMemory as Lack}
use Rattle.wal_writer.specs.declared.prepared.Prepared.{Prepared}
use Rattle.wal_writer.specs.declared.state.WalState.{WalState}
use Rattle.wal_writer.specs.Log.{Log, Ready, IsReady, next_record, appended, flushed_to, flush_end, to_flush}
use Rattle.wal_writer.specs.Stops.{Leaves, WritesBetween, KeepsArchive, IsSettled}

-- the entry that comes next is prepared exactly where it ends within the WAL's room
abbrev pub PrepareAnswer : Kind → Log → Result Prepared AppendFault → Type 0
PrepareAnswer kind log (Ok ready) = (ready.entry ≡ next_record log kind) × IsReady log ready
PrepareAnswer kind log (Err WalFull) = wal_limit log.mib < (next_record log kind).end.0
PrepareAnswer kind log (Err NoMemory) = Unit {0}

-- an entry that was prepared is added, or nothing
abbrev pub AddAnswer : Ready → Log → Log → Result Record Lack → Type 0
AddAnswer ready old new (Ok r) = (r ≡ ready.entry) × (new ≡ appended old r)
AddAnswer ready old new (Err fault) = new ≡ old

-- the next entry is appended where it ends within the WAL's room; a refusal changes nothing
abbrev pub AppendAnswer : Kind → Log → Log → Result Record AppendFault → Type 0
AppendAnswer kind old new (Ok r) =
    (r ≡ next_record old kind) × ((new ≡ appended old r) × (r.end.0 ≤ wal_limit old.mib))
AppendAnswer kind old new (Err WalFull) =
    (new ≡ old) × (wal_limit old.mib < (next_record old kind).end.0)
AppendAnswer kind old new (Err NoMemory) = new ≡ old

-- the files after a flush up to a place
abbrev pub after_flush : Log → ℕ → Files → Files
after_flush log at =
    archive_written log.mib (length (to_flush log at)) log.flushed (to_flush log at)

module _ {V : Type 0} (g : Ghosts V) where
  -- what waited up to a place was written, and a stop leaves it so
  abbrev pub FlushesAt : ℕ → WalState V → WalState V → Type 0
  FlushesAt at old new =
      (g.files new.area ≡ option_map (after_flush old.tail at) (g.files old.area))
      × ((new.tail ≡ flushed_to old.tail at) × IsSettled g new.area)

  -- a flush up to a place, where that wasn't flushed yet
  abbrev pub Flushes : ℕ → WalState V → WalState V → Type 0
  Flushes to old new = old.tail.flushed < to → FlushesAt (flush_end old.tail to) old new

  -- up to a place, whatever is answered, the archive may be torn from the flushed place on; what
  -- was held before it is held still, and behind the place nothing changed
  abbrev pub TearsAt : ℕ → WalState V → WalState V → Type 0
  TearsAt at old new =
      Leaves old.tail.mib old.tail.flushed (at - old.tail.flushed) (g.files old.area)
      (g.files new.area)

  abbrev pub Tears : ℕ → WalState V → WalState V → Type 0
  Tears to old new = TearsAt (flush_end old.tail to) old new

  -- at each moment a stop leaves what it left of the archive before the flushed place
  abbrev pub Keeps : WalState V → WalState V → Type 0
  Keeps old new =
      KeepsArchive old.tail.mib old.tail.flushed (g.past old.area) (g.past new.area)

  -- only the archive is written, from the flushed place on and up to another one
  abbrev pub FlushWritesAt : ℕ → WalState V → WalState V → Type 0
  FlushWritesAt at old new = WritesBetween g old.tail.mib old.tail.flushed at old.area new.area

  abbrev pub FlushWrites : ℕ → WalState V → WalState V → Type 0
  FlushWrites to old new = FlushWritesAt (flush_end old.tail to) old new
