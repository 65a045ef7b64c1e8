-- What calls on an area leave of the archive in it, also where they failed, and at a stop.
use Rattle.std.specs.Prelude.{◌≡◌, ℕ, ◌+◌, ◌-◌, ◌*◌, ◌<◌, ◌≤◌, true, List, length, Option, Some, Ok, IfSome}
use Rattle.std.proofs.Common.{inl, inr}
use Rattle.lsn_core.specs.Files.{Files}
use Rattle.lsn_core.specs.Segment.{segment_bytes}
use Rattle.lsn_core.specs.Names.{segment_name_bytes}
use Rattle.lsn_core.specs.Tip.{Tip}
use Rattle.vault.specs.Area.{Related}
use Rattle.vault.specs.Stops.{Event}
use Rattle.vault.specs.Frame.{Adds, AgreeBut, LeavesNow, LeavesOnly}
use Rattle.vault.specs.declared.area.Vault.{Ghosts}
use Rattle.wal_archive.specs.Archive.{Archive, IsArchive, Extends, is_segment, archive_of}
use Rattle.wal_archive.specs.Rules.{Judge, next_bytes, Walks}
use Rattle.wal_archive.specs.Stands.{IsEnd}
use Rattle.wal_archive.specs.Writing.{IsLeft}
use Rattle.wal_archive.specs.Laws.{IsFair}
use Rattle.wal_record.specs.Tips.{first_tip}
use Rattle.wal_record.specs.declared.record.Record.{Record}

-- the file of a segment that reaches behind a place and starts before an end
pub record IsSegmentFile (mib at end : ℕ) (name : List ℕ) : Type 0 where
  pub seg : ℕ
  pub there : is_segment seg ≡ true
  pub behind : at < (seg + 1) * segment_bytes mib
  pub before : seg * segment_bytes mib < end
  pub named : name ≡ segment_name_bytes seg mib

-- a write of bytes in a segment's file, at or behind a place of the archive and up to an end
pub record IsPieceBetween (mib at end : ℕ) (name : List ℕ) (place : ℕ) (piece : List ℕ)
    : Type 0 where
  pub seg : ℕ
  pub there : is_segment seg ≡ true
  pub named : name ≡ segment_name_bytes seg mib
  pub behind : at ≤ seg * segment_bytes mib + place
  pub before : seg * segment_bytes mib < end
  pub within : seg * segment_bytes mib + place + length piece ≤ end

-- such a write, or a sync
abbrev pub IsBetween : ℕ → ℕ → ℕ → Event → Type 0
IsBetween mib at end (inl w) = IsPieceBetween mib at end w.0 w.1.0 w.1.1
IsBetween mib at end (inr (inl k)) = ⊥
IsBetween mib at end (inr (inr (inl name))) = ⊥
IsBetween mib at end (inr (inr (inr files))) = Unit {0}

-- an area was changed only by writes and syncs of its archive from a place on and up to an end
pub record WritesBetween {V : Type 0} (g : Ghosts V) (mib at end : ℕ) (old new : V) : Type 0 where
  pub files : Related (AgreeBut (IsSegmentFile mib at end)) (g.files old) (g.files new)
  pub past : Adds (IsBetween mib at end) (g.past old) (g.past new)
  pub faults : g.faults old ≤ g.faults new

-- of the archive in an area at most so many bytes from a place on are unknown
abbrev pub Leaves : ℕ → ℕ → ℕ → Option Files → Option Files → Type 0
Leaves mib at count old new =
    Related (λ m n. IsLeft (archive_of mib m) (archive_of mib n) at count) old new

-- an archive holds at least what another one does before a place
abbrev pub Holds : ℕ → Archive → ℕ → Files → Type 0
Holds mib a at files = Extends a (archive_of mib files) at

-- what a stop left of the archive before a place, it leaves at each moment
abbrev pub KeepsArchive : ℕ → ℕ → Option (List Event) → Option (List Event) → Type 0
KeepsArchive mib at old new =
    (a : Archive) → LeavesNow (Holds mib a at) old → LeavesOnly (Holds mib a at) old new

-- an archive is from a place on as another one: each byte, and which segments that start there have
-- a file
pub record IsSameFrom (mib at : ℕ) (old new : Archive) : Type 0 where
  pub bytes : (x : ℕ) → at ≤ x → new.byte x ≡ old.byte x
  pub files : (seg : ℕ) → at ≤ seg * segment_bytes mib → new.has_file seg ≡ old.has_file seg

-- the archive of files is so
abbrev pub HasRest : ℕ → Archive → ℕ → Files → Type 0
HasRest mib a at files = IsSameFrom mib at a (archive_of mib files)

-- what a stop left of the archive from a place on, it leaves at each moment
abbrev pub KeepsRest : ℕ → ℕ → Option (List Event) → Option (List Event) → Type 0
KeepsRest mib at old new =
    (a : Archive) → LeavesNow (HasRest mib a at) old → LeavesOnly (HasRest mib a at) old new

-- these entries are read of files, up to a tip
abbrev pub Reads : Judge → ℕ → ℕ → List Record → Tip → Files → Type 0
Reads judge mib system rs tip files =
    Walks judge mib system (archive_of mib files) (first_tip mib) rs tip

-- a stop leaves what a read gives
abbrev pub IsSettled : {V : Type 0} → Ghosts V → V → Type 0
IsSettled g area = IfSome (g.files area) (λ m. LeavesNow (λ c. c ≡ m) (g.past area))

-- entries that are read of an archive are read of what each stop leaves that keeps its bytes up to
-- their end
abbrev pub StopsKeepEntries : Type 0
StopsKeepEntries =
    (judge : Judge) (mib system : ℕ) (a : Archive) (rs : List Record) (tip : Tip)
    (old new : Option (List Event))
    → IsFair judge → 1 ≤ mib → Walks judge mib system a (first_tip mib) rs tip
    → LeavesNow (Holds mib a tip.end) old → KeepsArchive mib tip.end old new
    → LeavesOnly (Reads judge mib system rs tip) old new

-- and where a sync has succeeded, a stop leaves what the archive is
abbrev pub SettledIsHeld : Type 0
SettledIsHeld =
    (mib at : ℕ) (files : Files) (past : Option (List Event))
    → LeavesNow (λ c. c ≡ files) past → LeavesNow (Holds mib (archive_of mib files) at) past

-- nothing is written behind an end: from there on the archive is as it was, whatever was answered
abbrev pub WritesKeepRest : Type 0
WritesKeepRest =
    (mib at end : ℕ) (old new : Option Files)
    → Leaves mib at (end - at) old new → Related (AgreeBut (IsSegmentFile mib at end)) old new
    → (x : ℕ) → at ≤ x → end ≤ x
    → Related (λ m n. IsSameFrom mib x (archive_of mib m) (archive_of mib n)) old new

-- and at each moment a stop leaves of it what it left before
abbrev pub StopsKeepRest : Type 0
StopsKeepRest =
    (mib at end : ℕ) (old new : Option (List Event))
    → 1 ≤ mib → Adds (IsBetween mib at end) old new → (x : ℕ) → end ≤ x → KeepsRest mib x old new

-- where a sync has succeeded, that is what the archive is
abbrev pub SettledHasRest : Type 0
SettledHasRest =
    (mib at : ℕ) (files : Files) (past : Option (List Event))
    → LeavesNow (λ c. c ≡ files) past → LeavesNow (HasRest mib (archive_of mib files) at) past

-- so behind an end nothing is read but what was read there before
abbrev pub NothingNewIsRead : Type 0
NothingNewIsRead =
    (mib system e : ℕ) (old new : Archive) (bytes : List ℕ)
    → 1 ≤ mib → IsArchive mib old → IsEnd mib e → IsSameFrom mib e old new
    → next_bytes new mib system e ≡ Ok (Some bytes)
    → next_bytes old mib system e ≡ Ok (Some bytes)
