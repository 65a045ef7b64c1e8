-- What an area of files in memory is, and what a call on it leaves.
use Rattle.std.specs.Prelude.{◌≡◌, ℕ, ◌+◌, ◌-◌, ◌^◌, min, ◌⊎◌, Bool, true, List, [], ◌∷◌, map, refl, Option, Some, None, IsSome, option_map, unwrap_or, Result, Ok, Err, Contains}
use Rattle.std.specs.Global.{Vec}
use Rattle.std.specs.BTreeMap.{BTreeMap}
use Rattle.std.specs.FinMap.{FinMap, from_entries, empty, get, insert, code}
use Rattle.std.specs.Coded.{Coded, code_by, coded×, coded_list, coded_option, coded_bool, coded_ℕ}
use Rattle.std.specs.Ordering.{nat_cmp}
use Rattle.std.specs.Cmp.Lexicographic.{slice_cmp}
use Rattle.lsn_core.specs.Files.{Files}
use Rattle.lsn_core.specs.declared.fault.AreaFault.{AreaFault}
use Rattle.lsn_core.specs.declared.fault.AreaFault.TheVariants as cause
use Rattle.lsn_core.specs.declared.fault.NoMemory.{NoMemory}
use Rattle.vault.specs.Area.{after_write}
use Rattle.memory_vault.specs.Fails.{one_more}
use Rattle.vault.specs.Record.{Change, change_code, changed, changes_of}
use Rattle.vault.specs.declared.change.Change.{Change as Kept}
use Rattle.memory_vault.specs.declared.fails.FailList.{FailList}
use Rattle.memory_vault.specs.declared.fuse.Fuse.{Fuse}

-- how many bytes reads gave of each file
abbrev pub Reads : Type 0
Reads = FinMap (slice_cmp nat_cmp) ℕ

abbrev pub read_count : Reads → List ℕ → ℕ
read_count reads name = unwrap_or (get reads name) 0

-- the counts after a read, at most the end of a count's type
abbrev pub more_read : List ℕ → ℕ → Reads → Reads
more_read name count reads = insert reads name (min (read_count reads name + count) (2 ^ 64 - 1))

-- an area in memory
pub record MemoryArea : Type 0 where
  pub files : Files
  -- the changes and syncs, the newest first
  pub changes : List Change
  pub reads : Reads
  -- the numbers of the calls that are to fail, counted from 1
  pub fails : List ℕ
  -- how many calls there were, and how many of them failed
  pub calls : ℕ
  pub faults : ℕ
  -- whether its fuse has burned, where it has one
  pub fuse : Option Bool

abbrev pub Contents : Type 0
Contents = Files × (List Change × Reads)

abbrev pub Calls : Type 0
Calls = List ℕ × (ℕ × (ℕ × Option Bool))

abbrev pub parts_of : MemoryArea → Contents × Calls
parts_of a = ((a.files, (a.changes, a.reads)), (a.fails, (a.calls, (a.faults, a.fuse))))

abbrev pub area_of : Contents × Calls → MemoryArea
area_of p = record {
  files = p.0.0;
  changes = p.0.1.0;
  reads = p.0.1.1;
  fails = p.1.0;
  calls = p.1.1.0;
  faults = p.1.1.1.0;
  fuse = p.1.1.1.1;
}

abbrev pub contents_code : Coded Contents
contents_code =
    coded× (code (coded_list coded_ℕ) (coded_list coded_ℕ))
    (coded× (coded_list change_code) (code (coded_list coded_ℕ) coded_ℕ))

abbrev pub calls_code : Coded Calls
calls_code = coded× (coded_list coded_ℕ) (coded× coded_ℕ (coded× coded_ℕ (coded_option coded_bool)))

abbrev pub memory_area_code : Coded MemoryArea
memory_area_code =
    code_by (Contents × Calls) (coded× contents_code calls_code) parts_of area_of (λ _. refl)

-- an area without files on which no call was made
abbrev pub new_area : List ℕ → MemoryArea
new_area fails = record {
  files = empty;
  changes = [];
  reads = empty;
  fails = fails;
  calls = 0;
  faults = 0;
  fuse = None;
}

-- the next call is to fail
abbrev pub IsToFail : List ℕ → ℕ → Type 0
IsToFail fails calls = Contains fails (one_more calls)

-- the next call passes: it is not to fail, and no fuse has burned
pub record Passes (area : MemoryArea) : Type 0 where
  pub listed : IsToFail area.fails area.calls → ⊥
  pub fuse : area.fuse ≡ Some true → ⊥

-- the area after one call more
abbrev pub counted : MemoryArea → MemoryArea
counted area = record area { calls = one_more area.calls }

-- the area after a call that failed
abbrev pub after_failure : MemoryArea → MemoryArea
after_failure area = record area { calls = one_more area.calls; faults = one_more area.faults }

-- the area after its fuse has burned
abbrev pub burned : MemoryArea → MemoryArea
burned area = record area { fuse = Some true }

-- a call failed since it was to fail, or since the fuse of the area has burned: from then on each
-- call fails
abbrev pub HasFailed : MemoryArea → MemoryArea → Type 0
HasFailed old new =
    (IsToFail old.fails old.calls × (new ≡ after_failure old))
    ⊎ (IsSome old.fuse × (new ≡ burned (after_failure old)))

-- the area after a change
abbrev pub after_change : Change → MemoryArea → MemoryArea
after_change change area =
    record area { files = changed change area.files; changes = change ∷ area.changes }

-- a change is made, or nothing
abbrev pub IsMade : Change → MemoryArea → MemoryArea → Result (Unit {0}) NoMemory → Type 0
IsMade change old new (Ok done) = new ≡ after_change change old
IsMade change old new (Err fault) = new ≡ old

-- nothing but the files and the record of changes may differ
abbrev pub IsOnlyChanged : MemoryArea → MemoryArea → Type 0
IsOnlyChanged old new = new ≡ record old { files = new.files; changes = new.changes }

-- the area after a read of a file that gave so many bytes
abbrev pub after_reading : List ℕ → ℕ → MemoryArea → MemoryArea
after_reading name count area = record area { reads = more_read name count area.reads }

-- a call makes its step where it succeeds, and fails only where it is to fail or a fuse has burned;
-- after want of memory the area is as it was
abbrev pub IsCall : {T : Type 0} → (T → MemoryArea → MemoryArea)
    → MemoryArea → MemoryArea → Result T AreaFault → Type 0
IsCall step old new (Ok value) = Passes old × (new ≡ step value (counted old))
IsCall step old new (Err cause.Failed) = HasFailed old new
IsCall step old new (Err cause.NoMemory) = Passes old × (new ≡ counted old)

-- a call that reads
abbrev pub IsQuietCall : {T : Type 0} → MemoryArea → MemoryArea → Result T AreaFault → Type 0
IsQuietCall = IsCall (λ _ area. area)

-- a call that makes a change
abbrev pub IsChange : {T : Type 0} → Change → MemoryArea → MemoryArea → Result T AreaFault → Type 0
IsChange change = IsCall (λ _. after_change change)

-- the files of a map from name to bytes
abbrev pub files_in : BTreeMap (Vec ℕ) (Vec ℕ) → Files
files_in map_of = from_entries (map (λ e. (e.0.items, e.1.items)) map_of.entries)

-- the counts of a map from name to count
abbrev pub reads_in : BTreeMap (Vec ℕ) ℕ → Reads
reads_in map_of = from_entries (map (λ e. (e.0.items, e.1)) map_of.entries)

-- a file is written, or nothing
abbrev pub IsWritten : List ℕ → ℕ → List ℕ
    → BTreeMap (Vec ℕ) (Vec ℕ) → BTreeMap (Vec ℕ) (Vec ℕ) → Result (Unit {0}) NoMemory → Type 0
IsWritten name at piece old new (Ok done) = files_in new ≡ after_write name at piece (files_in old)
IsWritten name at piece old new (Err fault) = files_in new ≡ files_in old

-- the bytes that a read gave are counted, or nothing
abbrev pub IsReadCounted : List ℕ → ℕ
    → BTreeMap (Vec ℕ) ℕ → BTreeMap (Vec ℕ) ℕ → Result (Unit {0}) NoMemory → Type 0
IsReadCounted name count old new (Ok done) = reads_in new ≡ more_read name count (reads_in old)
IsReadCounted name count old new (Err fault) = reads_in new ≡ reads_in old

-- the area of these fields
abbrev pub area_seen : BTreeMap (Vec ℕ) (Vec ℕ) → List Kept → BTreeMap (Vec ℕ) ℕ
    → FailList → Option Fuse → MemoryArea
area_seen files changes reads fails fuse = record {
  files = files_in files;
  changes = changes_of changes;
  reads = reads_in reads;
  fails = fails.calls.items;
  calls = fails.made;
  faults = fails.faults;
  fuse = option_map (λ f. f.burned) fuse;
}
