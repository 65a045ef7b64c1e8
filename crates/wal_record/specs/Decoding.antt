-- How an entry is read.
use Rattle.std.specs.Prelude.{ℕ, Bool, true, false, List, take, Option, Some, None, Result, Ok, Err, not, ◌==◌, if◌then◌else◌}
use Rattle.lsn_core.specs.declared.lsn.Lsn.{Lsn}
use Rattle.lsn_core.specs.declared.lsn.Place.{Place}
use Rattle.wal_pages.specs.declared.wal_heads.header.Header.{Header}
use Rattle.wal_record.specs.declared.record.Record.{Record}
use Rattle.wal_record.specs.declared.record.Kind.{Kind}
use Rattle.wal_record.specs.declared.record.Kind.TheVariants.{Shutdown, Online, RedoMark, NoOp, BackupEnd, Images, Generic, Create, Truncate, Commit}
use Rattle.wal_record.specs.declared.record.RecordFault.{RecordFault}
use Rattle.wal_record.specs.declared.record.RecordFault.TheVariants as faults
use Rattle.wal_record.specs.declared.record.Why.TheVariants.{First}
use Rattle.wal_record.specs.Outcome.{◌>>=◌, or_fault, refused}
use Rattle.wal_pages.specs.wal_heads.Header.{parts_at, entry_sum, is_linked, form_of}
use Rattle.wal_pages.specs.wal_heads.Announcements.{heads_at}
use Rattle.wal_record.specs.Content.{said}

-- what the bytes behind a header of this manager and info byte say
unfoldable pub kind_at : ℕ → ℕ → List ℕ → Result Kind RecordFault
kind_at manager info body = do
  form ← or_fault (faults.Unsupported manager info) (form_of manager info)
  heads ← or_fault faults.Header (heads_at 34 0 0 body)
  refused (said form heads.0 heads.1 heads.2)

-- a shutdown checkpoint whose redo point is its own start
abbrev pub is_own_redo : Lsn → Kind → Bool
is_own_redo start (Shutdown redo) = redo.0 == start.0
is_own_redo start (Online redo) = false
is_own_redo start (RedoMark n) = false
is_own_redo start NoOp = false
is_own_redo start (BackupEnd from) = false
is_own_redo start (Images blocks) = false
is_own_redo start (Generic blocks) = false
is_own_redo start (Create fork) = false
is_own_redo start (Truncate rel count flags) = false
is_own_redo start (Commit time rels) = false

-- an entry that stands behind none, where the one before would start at 0, has to be such a
-- checkpoint
abbrev pub may_come : Option Lsn → Lsn → Kind → Bool
may_come None start kind = true
may_come (Some prev) start kind = if prev.0 == 0 then is_own_redo start kind else true

-- the entry of a header and the bytes behind it, by the header's first 20 bytes
unfoldable pub record_in : Place → Option Lsn → List ℕ → Header × List ℕ → Result Record RecordFault
record_in place prev front (h, body) =
    if not (is_linked prev h.prev) then Err faults.Prev
    else (if not (h.crc == entry_sum front body) then Err faults.Crc
    else (kind_at h.manager h.info body >>= λ kind.
    if may_come prev place.start kind then Ok (record {
      start = place.start;
      end = place.end;
      prev = record { 0 = h.prev };
      xid = h.xid;
      kind = kind;
    }) else Err (faults.Content First)))

-- the entry at the front of the bytes
unfoldable pub record_at : Place → Option Lsn → List ℕ → Result Record RecordFault
record_at place prev bytes =
    or_fault faults.Length (parts_at bytes) >>= record_in place prev (take 20 bytes)
