-- The names of the files of a WAL (WAL Internals): whether there is a WAL, and of which timeline.
use Rattle.std.specs.Prelude.{◌≡◌, ◌≢◌, ℕ, ◌<◌, Bool, List, [], length, get_or, ◌==◌, ◌&&◌}
use Rattle.lsn_core.specs.text_numbers.Numbers.{all_upper_digits}
use Rattle.lsn_core.specs.Names.{HasSegmentName, segment_file_bytes}

-- 24 upper-case hexadecimal digits
abbrev pub is_wal_name : List ℕ → Bool
is_wal_name name = (length name == 24) && all_upper_digits name

-- the name of a segment file of a timeline other than 1; its number may stand outside the archive
pub record IsOtherTimeline (mib : ℕ) (name : List ℕ) : Type 0 where
  pub timeline : ℕ
  pub number : ℕ
  pub differs : timeline ≢ 1
  pub has : HasSegmentName timeline number mib
  pub named : name ≡ segment_file_bytes timeline number mib

-- the first of some names that is of another timeline
pub record IsFirstOther (mib : ℕ) (names : List (List ℕ)) (name : List ℕ) : Type 0 where
  pub at : ℕ
  pub within : at < length names
  pub there : name ≡ get_or names at []
  pub other : IsOtherTimeline mib name
  pub first : (i : ℕ) → i < at → IsOtherTimeline mib (get_or names i []) → ⊥

-- none of some names is of another timeline
abbrev pub HasNoOther : ℕ → List (List ℕ) → Type 0
HasNoOther mib names =
    (i : ℕ) → i < length names → IsOtherTimeline mib (get_or names i []) → ⊥
