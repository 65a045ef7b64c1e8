-- What holds of names, and of a store's files by their names.
use Rattle.std.specs.Prelude.{◌≡◌, ℕ, ◌^◌, ◌<◌, ◌≤◌, Bool, false, List, map, length, Some}
use Rattle.std.specs.Ordering.{nat_cmp, eq_by_cmp}
use Rattle.std.specs.Cmp.Lexicographic.{slice_cmp}
use Rattle.std.specs.declared.cmp.Ordering.TheVariants.{Less}
use Rattle.std.specs.FinMap.{get}
use Rattle.std.specs.List.{IsDistinct}
use Rattle.lsn_core.specs.declared.ids.ForkId.{ForkId}
use Rattle.lsn_core.specs.Names.{lsn_bytes, IsLsnText, segment_name_bytes, segment_file_bytes, HasSegmentName, fork_path_bytes, IsNamed}
use Rattle.lsn_core.specs.Store.{Store, ForkPages, store_files, files_of, segment_in}

-- a printed LSN is read as itself
abbrev pub PrintedLsnsAreRead : Type 0
PrintedLsnsAreRead = (at : ℕ) → at < 2 ^ 64 → IsLsnText (lsn_bytes at) at

-- and a text is read as one LSN
abbrev pub TextsHaveOneLsn : Type 0
TextsHaveOneLsn = (text : List ℕ) (a b : ℕ) → IsLsnText text a → IsLsnText text b → a ≡ b

-- the name that is written is that of timeline 1
abbrev pub WrittenNamesAreRead : Type 0
WrittenNamesAreRead = (number mib : ℕ)
    → segment_name_bytes number mib ≡ segment_file_bytes 1 number mib

-- a name is that of one segment
abbrev pub NamesHaveOneSegment : Type 0
NamesHaveOneSegment = (s t m n mib : ℕ) → HasSegmentName s m mib → HasSegmentName t n mib
    → segment_file_bytes s m mib ≡ segment_file_bytes t n mib → (s ≡ t) × (m ≡ n)

-- and the names of segments stand in the order of their numbers
abbrev pub NamesRise : Type 0
NamesRise =
    (mib s t : ℕ) → 1 ≤ mib → mib ≤ 1024 → s < t → t < 2 ^ 32
    → slice_cmp nat_cmp (segment_name_bytes s mib) (segment_name_bytes t mib) ≡ Less

-- a path is that of one segment of one fork, in one form
abbrev pub PathsHaveOneFork : Type 0
PathsHaveOneFork = (a b : ForkId) (s t : ℕ) (i j : Bool) → IsNamed a s → IsNamed b t
    → fork_path_bytes a s i ≡ fork_path_bytes b t j → (a ≡ b) × ((s ≡ t) × (i ≡ j))

-- a store whose forks' numbers and lengths fit
abbrev pub HasNamedForks : Store → Type 0
HasNamedForks store = (fork : ForkId) (pages : ForkPages) → get store fork ≡ Some pages
    → IsNamed fork (length pages)

-- its files have distinct names
abbrev pub FilesAreDistinct : Type 0
FilesAreDistinct = (relseg : ℕ) (store : Store) → 0 < relseg → HasNamedForks store
    → IsDistinct (eq_by_cmp (slice_cmp nat_cmp)) (map (λ file. file.0) (store_files relseg store))

-- and each path leads to what its segment holds, if anything
abbrev pub FilesHoldSegments : Type 0
FilesHoldSegments = (relseg : ℕ) (store : Store) (fork : ForkId) (seg : ℕ)
    → 0 < relseg → HasNamedForks store → IsNamed fork seg
    → get (files_of relseg store) (fork_path_bytes fork seg false)
    ≡ segment_in relseg seg (get store fork)
