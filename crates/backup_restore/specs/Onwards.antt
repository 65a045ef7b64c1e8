-- A WAL that is read from the start of one of its entries on.
use Rattle.std.specs.Prelude.{◌≡◌, List, ◌∷◌, ◌++◌}
use Rattle.lsn_core.specs.Files.{Files}
use Rattle.lsn_core.specs.Segment.{IsSegmentMib, StoreSettings}
use Rattle.lsn_core.specs.Tip.{Tip}
use Rattle.wal_record.specs.declared.record.Record.{Record}
use Rattle.wal_record.specs.Tips.{first_tip, tip_after}
use Rattle.wal_archive.specs.Rules.{Gives}
use Rattle.wal_reader.specs.Wal.{stands_behind, stands_at, ReadsOn, IsWal, IsWalFrom}

-- an entry of a WAL is what a cursor finds that is set at its start
abbrev pub EntriesAreFoundAtTheirStart : Type 0
EntriesAreFoundAtTheirStart =
    (s : StoreSettings) (files : Files) (older : List Record) (mid : Tip) (r : Record)
    → IsSegmentMib s.segment → ReadsOn s files (first_tip s.segment) older mid
    → stands_behind s files mid ≡ Gives r → stands_at s files r.start.0 ≡ Gives r

-- and what stands behind it doesn't hang on where the reading began
abbrev pub ReadingGoesOn : Type 0
ReadingGoesOn =
    (s : StoreSettings) (files : Files) (mid at : Tip) (r : Record)
    → stands_behind s files (tip_after mid r) ≡ stands_behind s files (tip_after at r)

-- the entries of a WAL that start at an entry's start or past it are those that a reading from
-- that start gives
abbrev pub ReadingFromEntryIsRest : Type 0
ReadingFromEntryIsRest =
    (s : StoreSettings) (files : Files) (older later : List Record) (r : Record) (last : Tip)
    → IsSegmentMib s.segment → IsWal s files (older ++ (r ∷ later)) last
    → (tip : Tip) × (IsWalFrom s files r.start.0 (r ∷ later) tip × (tip.end ≡ last.end))
