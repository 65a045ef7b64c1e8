-- Where a WAL ends, moved over its entries.
use Rattle.std.specs.Prelude.{◌≡◌, ℕ, ◌+◌, ◌*◌, ◌%◌, ◌≤◌, Bool, true, false, List, [], ◌∷◌, ◌==◌, ◌||◌, if◌then◌else◌}
use Rattle.lsn_core.specs.Segment.{segment_bytes}
use Rattle.lsn_core.specs.Sizes.{most_segments}
use Rattle.lsn_core.specs.Tip.{Tip}
use Rattle.wal_pages.specs.Places.{start_after, end_of}
use Rattle.wal_record.specs.declared.record.Record.{Record}
use Rattle.wal_record.specs.declared.record.Kind.{Kind}
use Rattle.wal_record.specs.declared.record.Kind.TheVariants.{Shutdown, Online, RedoMark, NoOp, BackupEnd, Images, Generic, Create, Truncate, Commit}
use Rattle.wal_record.specs.Spelling.{total_of}

-- the end of a WAL without an entry, with segments of so many MiB: the WAL begins with segment 1
abbrev pub first_tip : ℕ → Tip
first_tip mib = record { end = segment_bytes mib; prev = 0; redo = 0; count = 0 }

abbrev pub is_redo_mark : Kind → Bool
is_redo_mark (Shutdown redo) = false
is_redo_mark (Online redo) = false
is_redo_mark (RedoMark n) = true
is_redo_mark NoOp = false
is_redo_mark (BackupEnd start) = false
is_redo_mark (Images blocks) = false
is_redo_mark (Generic blocks) = false
is_redo_mark (Create fork) = false
is_redo_mark (Truncate rel count flags) = false
is_redo_mark (Commit time rels) = false

-- the latest redo point with one more entry: the start of the first entry, or of the latest mark
abbrev pub redo_after : Tip → Record → ℕ
redo_after tip r = if (tip.count == 0) || is_redo_mark r.kind then r.start.0 else tip.redo

-- the end with one more entry
abbrev pub tip_after : Tip → Record → Tip
tip_after tip r = record {
  end = r.end.0;
  prev = r.start.0;
  redo = redo_after tip r;
  count = tip.count + 1;
}

-- the end with several more, in turn
abbrev pub tip_behind : Tip → List Record → Tip
tip_behind tip [] = tip
tip_behind tip (r ∷ rs) = tip_behind (tip_after tip r) rs

-- the entry of a kind that comes next, written by no transaction
abbrev pub record_at_tip : ℕ → Tip → Kind → Record
record_at_tip mib tip kind = record {
  start = record { 0 = start_after mib tip.end };
  end = record { 0 = end_of mib (start_after mib tip.end) (total_of kind) };
  prev = record { 0 = tip.prev };
  xid = 0;
  kind = kind;
}

-- where the room of a WAL ends: behind its last segment
abbrev pub wal_limit : ℕ → ℕ
wal_limit mib = (most_segments + 1) * segment_bytes mib

-- an end within that room, at or behind each place that it tells, with a header's 24 bytes at least
-- for each entry that it counts
pub record IsWithin (mib : ℕ) (tip : Tip) : Type 0 where
  pub aligned : tip.end % 8 ≡ 0
  pub least : segment_bytes mib ≤ tip.end
  pub most : tip.end ≤ wal_limit mib
  pub prev : tip.prev ≤ tip.end
  pub redo : tip.redo ≤ tip.end
  pub count : tip.count * 24 ≤ tip.end
