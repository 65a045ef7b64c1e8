-- What functions inside the crate leave of a WAL's archive. No public contract cites these.
use Rattle.std.specs.Prelude.{◌≡◌, ℕ, ◌<◌, ◌≤◌, ◌%◌, ◌⊎◌, true, List, Option, None, if◌then◌else◌}
use Rattle.std.specs.Option.{option_map}
use Rattle.std.specs.FinMap.{get}
use Rattle.lsn_core.specs.Files.{Files}
use Rattle.lsn_core.specs.Names.{segment_name_bytes, segment_number}
use Rattle.lsn_core.specs.Segment.{segment_bytes}
use Rattle.vault.specs.Area.{after_cut, after_remove}
use Rattle.wal_archive.specs.Archive.{is_segment}
use Rattle.store_restart.specs.Trimmed.{IsLaterFile}

-- a file is removed where it is of a segment behind this one
abbrev pub DropsLater : ℕ → ℕ → List ℕ → Option Files → Option Files → Type 0
DropsLater mib own name old new =
    (IsLaterFile mib own name × (new ≡ option_map (after_remove name) old))
    ⊎ ((IsLaterFile mib own name → ⊥) × (new ≡ old))

-- the files of the segments behind this one are gone, and those of the others are as they were
pub record Clears (mib own : ℕ) (old new : Files) : Type 0 where
  pub kept : (seg : ℕ) → is_segment seg ≡ true → seg ≤ own
      → get new (segment_name_bytes seg mib) ≡ get old (segment_name_bytes seg mib)
  pub gone : (seg : ℕ) → is_segment seg ≡ true → own < seg
      → get new (segment_name_bytes seg mib) ≡ None

-- the files after the segment's that has a place is cut to it, if that is one of the archive
abbrev pub own_cut : ℕ → ℕ → Files → Files
own_cut mib end files =
    if is_segment (segment_number end mib)
    then after_cut (segment_name_bytes (segment_number end mib) mib) (end % segment_bytes mib) files
    else files

abbrev pub CutsOwn : ℕ → ℕ → Option Files → Option Files → Type 0
CutsOwn mib end old new = new ≡ option_map (own_cut mib end) old
