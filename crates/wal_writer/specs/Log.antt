-- The WAL as its writer knows it.
use Rattle.std.specs.Prelude.{◌≡◌, ℕ, ◌+◌, ◌-◌, ◌<◌, ◌≤◌, ◌^◌, max, List, [], ◌++◌, length, take, drop}
use Rattle.lsn_core.specs.Segment.{StoreSettings, IsSegmentMib, segment_bytes}
use Rattle.lsn_core.specs.Tip.{Tip}
use Rattle.wal_pages.specs.Spread.{spread}
use Rattle.wal_record.specs.Spelling.{sealed}
use Rattle.wal_record.specs.Tips.{tip_after, record_at_tip, IsWithin}
use Rattle.wal_record.specs.declared.record.Record.{Record}
use Rattle.wal_record.specs.declared.record.Kind.{Kind}

-- the segment size in MiB and the system identifier, the place up to which all is flushed, the
-- place before which a flush that failed may have left bytes, the end of the WAL, and the archive's
-- bytes from the flushed place to that end
pub record Log : Type 0 where
  pub mib : ℕ
  pub system : ℕ
  pub flushed : ℕ
  pub touched : ℕ
  pub tip : Tip
  pub pending : List ℕ

abbrev pub log_of : StoreSettings → ℕ → ℕ → Tip → List ℕ → Log
log_of settings flushed touched tip pending = record {
  mib = settings.segment;
  system = settings.system;
  flushed = flushed;
  touched = touched;
  tip = tip;
  pending = pending;
}

-- what a log keeps
pub record IsLog (log : Log) : Type 0 where
  pub segment : IsSegmentMib log.mib
  pub system : log.system < 2 ^ 64
  pub least : segment_bytes log.mib ≤ log.flushed
  pub pending : log.flushed + length log.pending ≡ log.tip.end
  pub touched : log.touched ≤ log.tip.end
  pub within : IsWithin log.mib log.tip

-- the WAL of an area whose archive ends so
abbrev pub log_at : StoreSettings → Tip → Log
log_at settings tip = log_of settings tip.end tip.end tip []

-- the entry of a kind that comes next
abbrev pub next_record : Log → Kind → Record
next_record log kind = record_at_tip log.mib log.tip kind

-- the archive's bytes of an entry that comes next
abbrev pub entry_spread : Log → Record → List ℕ
entry_spread log r = spread log.mib log.system log.tip.end (sealed r)

-- the WAL with one more entry
abbrev pub appended : Log → Record → Log
appended log r = record log {
  tip = tip_after log.tip r;
  pending = log.pending ++ entry_spread log r;
}

-- how far a flush up to a place goes: at least to where one that failed may have left bytes
abbrev pub flush_end : Log → ℕ → ℕ
flush_end log to = max to log.touched

-- the bytes that are written up to a place
abbrev pub to_flush : Log → ℕ → List ℕ
to_flush log at = take (at - log.flushed) log.pending

-- the WAL once it is flushed up to a place
abbrev pub flushed_to : Log → ℕ → Log
flushed_to log at = record log { flushed = at; pending = drop (at - log.flushed) log.pending }

-- the WAL after a flush up to a place failed
abbrev pub touched_to : Log → ℕ → Log
touched_to log at = record log { touched = max log.touched at }

-- an entry, and the archive's bytes of it
pub record Ready : Type 0 where
  pub entry : Record
  pub bytes : List ℕ

abbrev pub ready_of : Record → List ℕ → Ready
ready_of entry bytes = record { entry = entry; bytes = bytes }

-- the entry of its kind that comes next behind a tip, within the WAL's room, with its bytes
pub record IsPrepared (mib system : ℕ) (tip : Tip) (ready : Ready) : Type 0 where
  pub entry : ready.entry ≡ record_at_tip mib tip ready.entry.kind
  pub bytes : ready.bytes ≡ spread mib system tip.end (sealed ready.entry)
  pub size : tip.end + length ready.bytes ≡ ready.entry.end.0
  pub within : IsWithin mib (tip_after tip ready.entry)

abbrev pub IsReady : Log → Ready → Type 0
IsReady log ready = IsPrepared log.mib log.system log.tip ready
