-- What calls answer that look through the files of an archive for its ends.
use Rattle.std.specs.Prelude.{◌≡◌, ℕ, ◌-◌, ◌<◌, ◌≤◌, min, Bool, true, false, List, length, take, drop, Option, Some, None, IfSome, ◌==◌, ◌&&◌, nat_lt}
use Rattle.std.specs.List.{list_all}
use Rattle.std.specs.FinMap.{keys}
use Rattle.lsn_core.specs.Files.{Files}
use Rattle.lsn_core.specs.Names.{segment_name_bytes}
use Rattle.vault.specs.Area.{bytes_of}
use Rattle.wal_archive.specs.Archive.{is_segment, held_in, nonzero_end, end_at, has_segment, top_of, mark_of}

-- the segment of the archive whose file has a name, where there is one
abbrev pub TellsSegment : ℕ → List ℕ → Option ℕ → Type 0
TellsSegment mib name None =
    (s : ℕ) → is_segment s ≡ true → name ≡ segment_name_bytes s mib → ⊥
TellsSegment mib name (Some s) = (is_segment s ≡ true) × (name ≡ segment_name_bytes s mib)

-- a segment of this timeline and number is one of the archive
abbrev pub is_in_archive : ℕ → ℕ → Bool
is_in_archive timeline number = (timeline == 1) && is_segment number

-- how many bytes are held of a segment, where it has a file
abbrev pub TellsHeld : ℕ → Files → ℕ → Option ℕ → Type 0
TellsHeld mib files s None = has_segment mib files s ≡ false
TellsHeld mib files s (Some count) =
    (has_segment mib files s ≡ true) × (count ≡ length (held_in mib files s))

-- where the bytes of a segment end, and where those other than zero do
abbrev pub held_end : ℕ → Files → ℕ → ℕ
held_end mib files s = end_at mib s (length (held_in mib files s))

abbrev pub marked_end : ℕ → Files → ℕ → ℕ
marked_end mib files s = end_at mib s (nonzero_end (held_in mib files s))

-- of a segment whose file has this name the end is at most x
abbrev pub IsScanned : (ℕ → ℕ) → ℕ → ℕ → List ℕ → Type 0
IsScanned ends mib x name =
    (s : ℕ) → is_segment s ≡ true → name ≡ segment_name_bytes s mib → ends s ≤ x

-- whether the end of a segment is behind x: found where one is, and not where the file of this name
-- shows none
abbrev pub TellsPast : (ℕ → ℕ) → ℕ → ℕ → List ℕ → Bool → Type 0
TellsPast ends mib x name true = (s : ℕ) × (is_segment s ≡ true) × (x < ends s)
TellsPast ends mib x name false = IsScanned ends mib x name

abbrev pub all_zero : List ℕ → Bool
all_zero bytes = list_all (λ b. b == 0) bytes

-- so many bytes of a file from a place on, fewer than wanted just where it ends, and whether each
-- of them is zero
pub record IsZeroRun (bytes : List ℕ) (at wanted count : ℕ) (zero : Bool) : Type 0 where
  pub counted : count ≡ min wanted (length bytes - at)
  pub zero_is : zero ≡ all_zero (take count (drop at bytes))

abbrev pub RunsIn : Option Files → List ℕ → ℕ → ℕ → ℕ × Bool → Type 0
RunsIn files name at wanted run =
    IfSome files (λ m. IsZeroRun (bytes_of m name) at wanted run.0 run.1)

-- whether a file's bytes between two offsets are all zero
abbrev pub TellsZeros : Option Files → List ℕ → ℕ → ℕ → Bool → Type 0
TellsZeros files name from limit zero =
    IfSome files (λ m. zero ≡ all_zero (drop from (take limit (bytes_of m name))))

-- what a look at an area tells that may not tell its files
abbrev pub HeldIn : ℕ → Option Files → ℕ → Option ℕ → Type 0
HeldIn mib files s held = IfSome files (λ m. TellsHeld mib m s held)

abbrev pub HoldsPast : ℕ → Option Files → ℕ → List ℕ → Bool → Type 0
HoldsPast mib files x name past = IfSome files (λ m. TellsPast (held_end mib m) mib x name past)

abbrev pub MarksPast : ℕ → Option Files → ℕ → List ℕ → Bool → Type 0
MarksPast mib files x name past = IfSome files (λ m. TellsPast (marked_end mib m) mib x name past)

abbrev pub AreNames : Option Files → List (List ℕ) → Type 0
AreNames files names = IfSome files (λ m. names ≡ keys m)

abbrev pub IsHeldPast : ℕ → Option Files → ℕ → Bool → Type 0
IsHeldPast mib files x past = IfSome files (λ m. past ≡ nat_lt x (top_of mib m))

abbrev pub IsMarkedPast : ℕ → Option Files → ℕ → Bool → Type 0
IsMarkedPast mib files x past = IfSome files (λ m. past ≡ nat_lt x (mark_of mib m))
