-- What is known of the sums of listed files, of which four at a time are hashed side by side.
use Rattle.std.specs.Prelude.{◌≡◌, ℕ, ◌+◌, ◌<◌, ◌≤◌, Bool, List, [], ◌∷◌, ◌++◌, length, take, Option, Some, None, slice_get, slice_index_or}
use Rattle.lsn_core.specs.Files.{Files}
use Rattle.vault.specs.Area.{bytes_of}
use Rattle.sha_lanes.specs.Lanes.{HasSeen}
use Rattle.sha_lanes.specs.declared.lanes.Lanes.{Lanes}
use Rattle.manifest.specs.declared.listing.FileRow.{FileRow}
use Rattle.file_sums.specs.Sums.{has_sum}
use Rattle.file_sums.specs.declared.lanes.Place.{Place}
use Rattle.file_sums.specs.declared.lanes.Hashing.{Hashing}

-- ---- sums

-- whether the file of a row, as far as its size is listed, has the row's sum
abbrev pub holds : Files → FileRow → Bool
holds files row = has_sum row (take row.size (bytes_of files row.path))

-- what is known of that, if anything
abbrev pub Knows : Files → FileRow → Option Bool → Type 0
Knows files row None = Unit {0}
Knows files row (Some same) = same ≡ holds files row

abbrev pub AreKnown : Files → List FileRow → List (Option Bool) → Type 0
AreKnown files [] known = Unit {0}
AreKnown files (row ∷ rows) [] = Unit {0}
AreKnown files (row ∷ rows) (same ∷ known) = Knows files row same × AreKnown files rows known

-- the same of a row that may be there
abbrev pub KnowsRow : Files → Option FileRow → Option Bool → Type 0
KnowsRow files None same = Unit {0}
KnowsRow files (Some row) same = Knows files row same

-- ---- lanes

-- a lane has seen the file of a row up to a place
pub record IsSeen (files : Files) (row : FileRow) (at : ℕ) (lanes : Lanes) (j : ℕ) : Type 0 where
  pub within : at ≤ length (bytes_of files row.path)
  pub seen : HasSeen lanes j (take at (bytes_of files row.path))

abbrev pub RowIsSeen : Files → Option FileRow → ℕ → Lanes → ℕ → Type 0
RowIsSeen files None at lanes j = Unit {0}
RowIsSeen files (Some row) at lanes j = IsSeen files row at lanes j

-- a lane has seen what its place says
abbrev pub IsAt : Files → List FileRow → Lanes → ℕ → Option Place → Type 0
IsAt files rows lanes j None = Unit {0}
IsAt files rows lanes j (Some place) =
    RowIsSeen files (slice_get rows place.row) place.at lanes j

-- behind a piece that a lane sees its place is the next one
abbrev pub Moves : Files → List FileRow → Option Place → Option Place → List ℕ → Type 0
Moves files rows place next piece =
    (old new : Lanes) (j : ℕ)
    → ((m : List ℕ) → HasSeen old j m → HasSeen new j (m ++ piece))
    → IsAt files rows old j place → IsAt files rows new j next

-- each lane has seen what its place says, and what is known of the rows' sums is so
pub record IsHashing (files : Files) (rows : List FileRow) (h : Hashing) : Type 0 where
  pub lanes : (j : ℕ) → j < 4 → IsAt files rows h.lanes j (slice_index_or h.places j None)
  pub known : AreKnown files rows h.known.items
