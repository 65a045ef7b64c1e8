-- What a JSON value must be to be a manifest (Backup Manifest Format, Backup Manifest Top-level
-- Object, File Object, WAL Range Object). A whole number is one below 2^64 without sign, point or
-- exponent.
use Rattle.std.specs.Prelude.{◌≡◌, ◌≢◌, ◌⊎◌, ℕ, ◌<◌, Bool, false, List, [], ◌∷◌, length, map, codes, Option, Some, None, is_some, option_and_then, option_map, ◌==◌, ◌&&◌, not, if◌then◌else◌}
use Rattle.std.specs.List.{list_all, slice_split}
use Rattle.std.specs.List.Sorted.{IsPermutation, IsStrictlySortedBy}
use Rattle.std.specs.Ordering.{nat_cmp}
use Rattle.std.specs.Cmp.Lexicographic.{slice_cmp}
use Rattle.std.specs.Str.{bytes_eq}
use Rattle.lsn_core.specs.byte_words.Numbers.{◌>>=◌}
use Rattle.lsn_core.specs.Names.{IsLsnText}
use Rattle.serde_json.specs.Data.{Data, Items, no_items, item}
use Rattle.serde_json.specs.Find.{get, as_str, as_number, as_u64, as_array, as_object}
use Rattle.serde_json.specs.Events.{members_len}
use Rattle.manifest.specs.declared.shape.RawRow.{RawRow}
use Rattle.manifest.specs.declared.shape.RawRange.{RawRange}

-- what an object has under a key: a text, a whole number, a list
abbrev pub text_at : List ℕ → Data → Option (List ℕ)
text_at key d = option_and_then as_str (get key d)

abbrev pub number_at : List ℕ → Data → Option ℕ
number_at key d = option_and_then as_u64 (option_and_then as_number (get key d))

abbrev pub list_at : List ℕ → Data → Option Items
list_at key d = option_and_then as_array (get key d)

abbrev count_is : ℕ → Option ℕ → Bool
count_is count None = false
count_is count (Some n) = n == count

-- an object of so many keys
abbrev pub has_keys : ℕ → Data → Bool
has_keys count d = count_is count (option_map members_len (as_object d))

-- a component of a path isn't empty and isn't `..`; so a path has something in it, and no slash at
-- its front
abbrev pub is_component : List ℕ → Bool
is_component part = not (length part == 0) && not (bytes_eq part (codes ".."))

abbrev pub is_path : List ℕ → Bool
is_path path = list_all is_component (slice_split (λ b. b == 47) path)

-- the row of a file: exactly these keys
unfoldable pub row_in : Data → Option RawRow
row_in d = do
  path ← text_at (codes "Path") d
  size ← number_at (codes "Size") d
  modified ← text_at (codes "Last-Modified") d
  kind ← text_at (codes "Checksum-Algorithm") d
  sum ← text_at (codes "Checksum") d
  if has_keys 5 d && is_path path
      then Some (record { path = path; size = size; modified = modified; kind = kind; sum = sum })
      else None

-- the rows of a list, each of that shape
abbrev pub rows_in : Items → Option (List RawRow)
rows_in no_items = Some []
rows_in (item d ds) = do
  row ← row_in d
  rows ← rows_in ds
  Some (row ∷ rows)

-- the rows of a manifest's object
abbrev pub files_in : Data → Option (List RawRow)
files_in d = do
  files ← list_at (codes "Files") d
  rows_in files

-- a range of the WAL: exactly these keys
unfoldable pub range_in : Data → Option RawRange
range_in d = do
  timeline ← number_at (codes "Timeline") d
  start ← text_at (codes "Start-LSN") d
  end ← text_at (codes "End-LSN") d
  if has_keys 3 d then Some (record { timeline = timeline; start = start; end = end }) else None

-- of a list of one range
abbrev pub only_range : Items → Option RawRange
only_range no_items = None
only_range (item d no_items) = range_in d
only_range (item d (item e ds)) = None

-- the one range of a manifest's object
abbrev pub range_at : Data → Option RawRange
range_at d = do
  ranges ← list_at (codes "WAL-Ranges") d
  only_range ranges

-- what a manifest's object says, its rows as they stand
pub record Top : Type 0 where
  pub system : Option ℕ
  pub rows : List RawRow
  pub range : RawRange

-- the system identifier of a manifest's object: one of version 1 has none
abbrev pub system_in : ℕ → Data → Option (Option ℕ)
system_in version d =
    if version == 1 then Some None else option_map Some (number_at (codes "System-Identifier") d)

-- how many keys a manifest's object has: in version 1 that of the system identifier isn't there
abbrev pub top_keys : ℕ → ℕ
top_keys version = if version == 1 then 4 else 5

-- a manifest's object of a version: exactly these keys, with that of the version
unfoldable pub top_in : ℕ → Data → Option Top
top_in version d = do
  system ← system_in version d
  rows ← files_in d
  range ← range_at d
  if is_some (text_at (codes "Manifest-Checksum") d) && has_keys (top_keys version) d
      then Some (record { system = system; rows = rows; range = range })
      else None

-- what an object says its version is
abbrev pub version_in : Data → Option ℕ
version_in d = number_at (codes "PostgreSQL-Backup-Manifest-Version") d

-- the versions that are read, and those that aren't
abbrev pub IsKnown : ℕ → Type 0
IsKnown v = (v ≡ 1) ⊎ (v ≡ 2)

abbrev pub IsUnknown : ℕ → Type 0
IsUnknown v = (v ≢ 1) × (v ≢ 2)

abbrev pub path_of : RawRow → List ℕ
path_of row = row.path

-- rows in byte order of their paths, no path twice
abbrev pub IsArranged : List RawRow → List RawRow → Type 0
IsArranged rows arranged = IsPermutation rows arranged
    × IsStrictlySortedBy (slice_cmp nat_cmp) (map path_of arranged)

-- the LSNs of a range: the start is below the end
pub record IsRange (range : RawRange) (start end : ℕ) : Type 0 where
  pub start_text : IsLsnText range.start start
  pub end_text : IsLsnText range.end end
  pub rises : start < end

-- what a manifest's object says, with rows in order and LSNs as places
pub record Parts : Type 0 where
  pub version : ℕ
  pub system : Option ℕ
  pub rows : List RawRow
  pub timeline : ℕ
  pub start : ℕ
  pub end : ℕ

-- the parts of a manifest's object, by its version
pub record IsParts (d : Data) (parts : Parts) : Type 0 where
  pub top : Top
  pub read : top_in parts.version d ≡ Some top
  pub system : parts.system ≡ top.system
  pub rows : IsArranged top.rows parts.rows
  pub timeline : parts.timeline ≡ top.range.timeline
  pub range : IsRange top.range parts.start parts.end
