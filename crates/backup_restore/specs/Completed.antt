-- What a restore of a sound copy makes is what a replay of the whole WAL makes.
use Rattle.std.specs.Prelude.{◌≡◌, ◌≤◌, ℕ, List, map, Option, Some}
use Rattle.lsn_core.specs.Files.{Files}
use Rattle.lsn_core.specs.declared.lsn.Lsn.{Lsn}
use Rattle.lsn_core.specs.Segment.{IsSegmentMib, StoreSettings}
use Rattle.lsn_core.specs.Store.{Store, files_of}
use Rattle.lsn_core.specs.Tip.{Tip}
use Rattle.wal_record.specs.declared.record.Record.{Record}
use Rattle.wal_reader.specs.Wal.{IsWal}
use Rattle.history.specs.Redo.{redo_all}
use Rattle.history.specs.Whole.{entry_of, whole}
use Rattle.history.specs.fuzzy_copies.Sound.{IsSoundCopy}
use Rattle.recovery.specs.declared.reading.Beginning.TheVariants.{AtPlace}
use Rattle.recovery.specs.declared.replaying.Replayed.{Replayed}
use Rattle.recovery.specs.Onward.{IsReadFromTo, replayed_to, ending_by}
use Rattle.backup_restore.specs.Restored.{MakesOf}

-- over a sound copy, what is read of the WAL from the copy's start on, up to a target or to its
-- end, makes what the whole WAL up to there makes from nothing; where the one can't be done, nor
-- can the other
abbrev pub SoundCopiesAreCompleted : Type 0
SoundCopiesAreCompleted =
    (s : StoreSettings) (files : Files) (records entries : List Record) (last tip : Tip)
    (copy : Store) (start : Lsn) (to : ℕ) (upto : Option Lsn)
    → IsSegmentMib s.segment → IsWal s files records last
    → IsSoundCopy copy (map entry_of records) start.0 to
    → IsReadFromTo s (Some files) (AtPlace start) upto entries tip
    → to ≤ replayed_to upto tip
    → redo_all copy (ending_by (replayed_to upto tip) entries)
    ≡ whole records (replayed_to upto tip)

-- so the output of a restore has just the files of what a replay to the same place makes
abbrev pub RestoresAreReplays : Type 0
RestoresAreReplays =
    (s : StoreSettings) (files : Files) (records entries : List Record) (last tip : Tip)
    (start : Lsn) (to : ℕ) (upto : Option Lsn) (chain : List Files) (out : Option Files)
    (replayed : Replayed)
    (made : MakesOf s.relseg chain entries (replayed_to upto tip) replayed out)
    → IsSegmentMib s.segment → IsWal s files records last
    → IsSoundCopy made.copy (map entry_of records) start.0 to
    → IsReadFromTo s (Some files) (AtPlace start) upto entries tip
    → to ≤ replayed_to upto tip
    → (whole records (replayed_to upto tip) ≡ Some made.store)
    × (out ≡ Some (files_of s.relseg made.store))
