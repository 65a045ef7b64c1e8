-- What a window on a stream's end takes and forgets, and what it shows.
use Rattle.std.specs.Prelude.{◌≡◌, ◌≤◌, ℕ, ◌+◌, ◌-◌, min, Option, Some, None, List, [], ◌++◌, length, take, drop, replicate}
use Rattle.std.specs.FinMap.{get}
use Rattle.lsn_core.specs.Segment.{segment_bytes}
use Rattle.wal_record.specs.Tips.{wal_limit}
use Rattle.stream_laws.specs.Streams.{segments_begun, segment_part}
use Rattle.stream_laws.specs.Windows.{Span, shown, span_files, span_top}

-- the window of a stream without bytes
abbrev pub empty_span : ℕ → Span
empty_span mib = record { mib = mib; base = segment_bytes mib; bytes = []; zeros = 0 }

-- zeros, bytes, and zeros again
abbrev pub run : ℕ → List ℕ → ℕ → List ℕ
run lead bytes zeros = replicate lead 0 ++ (bytes ++ replicate zeros 0)

-- it begins at segment 1 or behind, and ends within the archive's room
pub record IsInRoom (mib base : ℕ) (bytes : List ℕ) (zeros : ℕ) : Type 0 where
  pub least : segment_bytes mib ≤ base
  pub most : base + (length bytes + zeros) ≤ wal_limit mib

-- its bytes, with the zeros behind them
abbrev pub span_tail : Span → List ℕ
span_tail w = w.bytes ++ replicate w.zeros 0

-- behind so many bytes a piece is all zeros
pub record IsLastNonzero (piece : List ℕ) (end : ℕ) : Type 0 where
  pub within : end ≤ length piece
  pub zeros : piece ≡ take end piece ++ replicate (length piece - end) 0

-- it has the same segments, and begins at the same place
pub record StaysAt (old new : Span) : Type 0 where
  pub mib : new.mib ≡ old.mib
  pub base : new.base ≡ old.base

-- a piece came behind them
pub record HoldsPiece (old : Span) (piece : List ℕ) (new : Span) : Type 0 where
  pub tail : span_tail new ≡ span_tail old ++ piece
  pub top : length new.bytes + new.zeros ≡ length old.bytes + old.zeros + length piece

-- a piece came behind them, as far as the archive has room
pub record TakesPiece (old : Span) (piece : List ℕ) (new : Span) : Type 0 where
  pub mib : new.mib ≡ old.mib
  pub base : new.base ≡ old.base
  pub tail : span_tail new ≡ span_tail old ++ take (wal_limit old.mib - span_top old) piece

-- the bytes before a place are forgotten
pub record DropsBefore (old : Span) (place : ℕ) (new : Span) : Type 0 where
  pub mib : new.mib ≡ old.mib
  pub base : new.base ≡ place
  pub tail : span_tail new ≡ drop (place - old.base) (span_tail old)

-- ---- as an area

-- how many of its segments have a file
abbrev pub span_segments : Span → ℕ
span_segments w = segments_begun w.mib (shown w)

-- the segment of which a name's file is; none exactly where there is no such file
abbrev pub NamesPart : Span → List ℕ → Option ℕ → Type 0
NamesPart w name None = get (span_files w) name ≡ None
NamesPart w name (Some s) =
    (1 ≤ s) × (s ≤ span_segments w)
    × (get (span_files w) name ≡ Some (segment_part w.mib (shown w) s))

-- a read of a segment's part of what is shown
pub record IsPartRead (w : Span) (s at : ℕ) (before now : List ℕ) (count : ℕ) : Type 0 where
  pub counted : count ≡ min (length before) (length (segment_part w.mib (shown w) s) - at)
  pub bytes : now ≡ take count (drop at (segment_part w.mib (shown w) s)) ++ drop count before
