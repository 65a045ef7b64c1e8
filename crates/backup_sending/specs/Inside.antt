-- What the steps of a backup answer and leave.
use Rattle.std.specs.Prelude.{◌≡◌, ℕ, ◌+◌, ◌*◌, ◌-◌, ◌^◌, ◌<◌, ◌≤◌, min, true, false, List, [], ◌∷◌, ◌++◌, map, length, codes, Option, Some, None, IfSome, unwrap_or}
use Rattle.std.specs.List.{AllByRecursion, IsDistinct, flat_map, range_with_len}
use Rattle.std.specs.List.Sorted.{IsStrictlySortedBy}
use Rattle.std.specs.Option.{option_map}
use Rattle.std.specs.Ordering.{nat_cmp, eq_by_cmp}
use Rattle.std.specs.Cmp.Lexicographic.{slice_cmp}
use Rattle.std.specs.FinMap.{empty, entries}
use Rattle.std.specs.Str.{IsUtf8}
use Rattle.std.specs.BTreeMap.{BTreeMap}
use Rattle.std.specs.BTreeMap as tree
use mathlib.Core.List.{IsPrefix}
use Rattle.sha2.specs.Sha256.{sha256}
use Rattle.sha2.specs.Hashers.{Holds256}
use Rattle.sha2.specs.declared.Sha256.{Sha256}
use Rattle.lsn_core.specs.Blocks.{block_of, block_count}
use Rattle.lsn_core.specs.Causes.{Rose}
use Rattle.lsn_core.specs.Files.{Files}
use Rattle.lsn_core.specs.Names.{fork_path_bytes, segment_number, IsNamed}
use Rattle.lsn_core.specs.Segment.{StoreSettings}
use Rattle.lsn_core.specs.Sizes.{most_segments}
use Rattle.lsn_core.specs.Store.{Store, ForkPages, fork_cmp, fork_files, files_of, segment_content, store_files, with_files}
use Rattle.lsn_core.specs.declared.ids.ForkId.{ForkId}
use Rattle.lsn_core.specs.declared.ids.ForkLen.{ForkLen}
use Rattle.lsn_core.specs.declared.lsn.Lsn.{Lsn}
use Rattle.lsn_core.specs.declared.fault.AreaFault.{AreaFault}
use Rattle.lsn_core.specs.declared.fault.AreaFault.TheVariants as area
use Rattle.lsn_core.specs.declared.fault.StoreFault.{StoreFault}
use Rattle.lsn_core.specs.declared.fault.StoreFault.TheVariants as store
use Rattle.lsn_core.specs.declared.fault.MarkFault.{MarkFault}
use Rattle.lsn_core.specs.declared.fault.MarkFault.TheVariants as mark
use Rattle.vault.specs.declared.area.Vault.{Ghosts}
use Rattle.vault.specs.Area.{after_write}
use Rattle.pg_page.specs.Header.{zero_page}
use Rattle.history.specs.Entry.{Entry}
use Rattle.history.specs.fuzzy_copies.Taken.{IsBlockCopied, IsListed, IsTaken}
use Rattle.backup_label.specs.declared.label.Label.{Label}
use Rattle.backup_label.specs.Label.{HasNoLineEnd, IsLabel, label_text}
use Rattle.backup_label.specs.Time.{IsTimeText}
use Rattle.manifest.specs.Shape.{is_path}
use Rattle.manifest.specs.declared.listing.FileRow.{FileRow}
use Rattle.store_locks.specs.declared.receipt.Redo.{Redo}
use Rattle.store_locks.specs.Seen.{Seen, ShareRose}
use Rattle.store_locks.specs.Copied.{HasRedoPoint, listed_length}
use Rattle.store_faults.specs.declared.backup_fault.BackupFault.{BackupFault}
use Rattle.store_faults.specs.declared.backup_fault.BackupFault.TheVariants as fault
use Rattle.backup_files.specs.Area.{HoldsSomething}
use Rattle.backup_files.specs.Directory.{label_name, manifest_name, row_of}
use Rattle.backup_sending.specs.Directory.{IsDirectory}
use Rattle.backup_sending.specs.Backup.{LooksOn, Site}
use Rattle.backup_sending.specs.Entries.{HasBackupAt}
use Rattle.backup_files.specs.Area.{Lacks, with_file}
use Rattle.backup_files.specs.Area.{SparesManifest}

-- ---- faults

-- a call of the store failed: of the area that did the pass's share of faults rose
abbrev pub CallCause : Seen → Seen → StoreFault → Type 0
CallCause old new (store.Failed which) = ShareRose which old new
CallCause old new store.NoMemory = Unit {0}

-- copying failed: a device of the store did, of whose faults the pass's share rose, or the area's,
-- whose count rose, or memory ran out
abbrev pub CopyCause : {V : Type 0} → Ghosts V → Site V → Site V → BackupFault → Type 0
CopyCause g old new fault.NotEmpty = ⊥
CopyCause g old new (fault.WalFull n) = ⊥
CopyCause g old new (fault.StoreFailed which) = ShareRose which old.seen new.seen
CopyCause g old new fault.OutFailed = Rose (g.faults old.out) (g.faults new.out)
CopyCause g old new fault.NoMemory = Unit {0}

-- a step of copying
pub record CopiesOn {V : Type 0} (g : Ghosts V) (old new : Site V) : Type 0 where
  pub looks : LooksOn 0 old.seen new.seen
  pub spares : SparesManifest g old.out new.out

-- ---- pages

-- the bytes of pages
abbrev pub page_bytes : ForkPages → List ℕ
page_bytes pages = flat_map (λ page. page) pages

-- a page that was copied at a moment at the latest when these entries were seen
pub record IsPageCopied (seen : List Entry) (from : ℕ) (fork : ForkId) (block : ℕ)
    (page : List ℕ) : Type 0 where
  pub moment : List Entry
  pub before : IsPrefix moment seen
  pub redo : HasRedoPoint moment from
  pub answer : Option (List ℕ)
  pub copied : IsBlockCopied moment from fork block answer
  pub written : page ≡ unwrap_or answer zero_page

-- pages of a fork from a block on
abbrev pub ArePagesCopied : List Entry → ℕ → ForkId → ℕ → ForkPages → Type 0
ArePagesCopied seen from fork block [] = Unit {0}
ArePagesCopied seen from fork block (page ∷ pages) =
    IsPageCopied seen from fork block page × ArePagesCopied seen from fork (block + 1) pages

-- each page has 8192 bytes
abbrev pub ArePagesWhole : ForkPages → Type 0
ArePagesWhole pages = AllByRecursion (λ page. length page ≡ 8192) pages

-- so many pages, which are whole
pub record AreCopies (tells : Type 0) (seen : List Entry) (from : ℕ) (fork : ForkId)
    (block count : ℕ) (pages : ForkPages) : Type 0 where
  pub many : length pages ≡ count
  pub sized : ArePagesWhole pages
  pub copied : tells → ArePagesCopied seen from fork block pages

-- their bytes were added to others
pub record AddsCopies (tells : Type 0) (seen : List Entry) (from : ℕ) (fork : ForkId)
    (block count : ℕ) (old new : List ℕ) : Type 0 where
  pub pages : ForkPages
  pub copies : AreCopies tells seen from fork block count pages
  pub grown : new ≡ old ++ page_bytes pages

-- their bytes were written behind so many earlier pages of a file, and hashed behind what the
-- hasher held
pub record AddsPiece (tells : Type 0) (seen : List Entry) (from : ℕ) (fork : ForkId)
    (block done count : ℕ) (path : List ℕ) (old new : Option Files) (before now : Sha256)
    : Type 0 where
  pub pages : ForkPages
  pub copies : AreCopies tells seen from fork block count pages
  pub written : new ≡ option_map (after_write path (done * 8192) (page_bytes pages)) old
  pub hashed : (m : List ℕ) → Holds256 before m → Holds256 now (m ++ page_bytes pages)

-- a file that wasn't there holds them, and their SHA-256 is told
pub record WritesCopies (tells : Type 0) (seen : List Entry) (from : ℕ) (fork : ForkId)
    (block count : ℕ) (path : List ℕ) (old new : Option Files) (sum : List ℕ) : Type 0 where
  pub pages : ForkPages
  pub copies : AreCopies tells seen from fork block count pages
  pub stands : new ≡ with_file path (page_bytes pages) old
  pub sum_is : sum ≡ sha256 (page_bytes pages)

-- ---- files of forks

-- no segment file of a fork
abbrev pub LacksFork : Option Files → ForkId → Type 0
LacksFork files fork = (seg : ℕ) → IsNamed fork seg → Lacks files (fork_path_bytes fork seg false)

-- a fork's numbers fit, and its length
abbrev pub IsNamedFork : ForkId × ForkPages → Type 0
IsNamedFork e = IsNamed e.0 (length e.1)

-- a fork's pages are whole
abbrev pub IsWholeFork : ForkId × ForkPages → Type 0
IsWholeFork e = ArePagesWhole e.1

-- the first files of a fork, so many
abbrev pub first_files : ℕ → ForkId → ForkPages → ℕ → List (List ℕ × List ℕ)
first_files relseg fork pages count =
    map (λ seg. (fork_path_bytes fork seg false, segment_content relseg pages seg))
    (range_with_len 0 count)

-- files were put into an area, and listed in rows
pub record PutsFiles (modified : List ℕ) (files : List (List ℕ × List ℕ))
    (old new : Option Files) (before rows : List FileRow) : Type 0 where
  pub stand : new ≡ option_map (λ m. with_files m files) old
  pub listed : rows ≡ before ++ map (row_of modified) files

-- the file of a segment of so many of a fork's blocks
pub record PutsSegment (tells : Type 0) (seen : List Entry) (from relseg : ℕ) (fork : ForkLen)
    (seg : ℕ) (modified : List ℕ) (old new : Option Files) (before rows : List FileRow)
    : Type 0 where
  pub pages : ForkPages
  pub copies : AreCopies tells seen from fork.fork (seg * relseg)
      (min relseg (fork.blocks - seg * relseg)) pages
  pub puts : PutsFiles modified
      ((fork_path_bytes fork.fork seg false, page_bytes pages) ∷ []) old new before rows

-- the files of a fork
pub record PutsFork (tells : Type 0) (seen : List Entry) (from relseg : ℕ) (fork : ForkLen)
    (modified : List ℕ) (old new : Option Files) (before rows : List FileRow) : Type 0 where
  pub pages : ForkPages
  pub named : IsNamed fork.fork (length pages)
  pub copies : AreCopies tells seen from fork.fork 0 fork.blocks pages
  pub puts : PutsFiles modified (fork_files relseg (fork.fork, pages)) old new before rows

-- the files of all forks, in order
pub record PutsStore (tells : Type 0) (seen : List Entry) (from relseg : ℕ) (list : List ForkLen)
    (modified : List ℕ) (old new : Option Files) (rows : List FileRow) : Type 0 where
  pub copy : Store
  pub named : AllByRecursion IsNamedFork (entries copy)
  pub whole : AllByRecursion IsWholeFork (entries copy)
  pub lengths : map (λ e. record { fork = e.0; blocks = length e.1 }) (entries copy) ≡ list
  pub pages : tells → AllByRecursion (λ e. ArePagesCopied seen from e.0 0 e.1) (entries copy)
  pub puts : PutsFiles modified (store_files relseg copy) old new [] rows

-- ---- the listing

-- a fork's length, or its want, as it was listed at a moment at the latest when these entries were
-- seen
pub record IsForkListed (seen : List Entry) (from : ℕ) (fork : ForkId) (found : Option ℕ)
    : Type 0 where
  pub moment : List Entry
  pub before : IsPrefix moment seen
  pub redo : HasRedoPoint moment from
  pub listed : IsListed moment from fork found

-- the length of a fork, where it is known
abbrev pub known_length : BTreeMap ForkId ℕ → ForkId → Option ℕ
known_length known fork = tree.get fork_cmp known fork

-- the forks whose lengths are known, in order
abbrev pub lengths_in : BTreeMap ForkId ℕ → List ForkLen
lengths_in known = map (λ e. record { fork = e.0; blocks = e.1 }) known.entries

-- the first of two that is told
abbrev pub or_else : Option ℕ → Option ℕ → Option ℕ
or_else None later = later
or_else (Some n) later = Some n

-- the lengths of a list are known too; of a fork that was known before the earlier one
abbrev pub NotesAll : List ForkLen → BTreeMap ForkId ℕ → BTreeMap ForkId ℕ → Type 0
NotesAll list old new =
    (fork : ForkId)
    → known_length new fork ≡ or_else (known_length old fork) (listed_length list fork)

-- a list in order, each fork once, with what was listed of each fork
pub record ListsForks (tells : Type 0) (seen : List Entry) (from : ℕ) (list : List ForkLen)
    : Type 0 where
  pub order : IsStrictlySortedBy fork_cmp (map (λ l. l.fork) list)
  pub listed : tells → (fork : ForkId) → IsForkListed seen from fork (listed_length list fork)

-- ---- a store that was copied

-- each fork was listed at a moment of its own, each page copied at another
pub record IsCopiedSoFar (seen : List Entry) (from : ℕ) (copy : Store) : Type 0 where
  pub forks : (fork : ForkId) → IsForkListed seen from fork (block_count copy fork)
  pub pages : (fork : ForkId) (block : ℕ) (page : List ℕ)
      → block_of copy fork block ≡ Some page → IsPageCopied seen from fork block page

-- an area holds just a copy's files, and rows list them
pub record HoldsCopy (relseg : ℕ) (copy : Store) (modified : List ℕ) (files : Option Files)
    (rows : List FileRow) : Type 0 where
  pub named : AllByRecursion IsNamedFork (entries copy)
  pub whole : AllByRecursion IsWholeFork (entries copy)
  pub stand : IfSome files (λ m. m ≡ files_of relseg copy)
  pub listed : rows ≡ map (row_of modified) (store_files relseg copy)

pub record CopiesStore (tells : Type 0) (seen : List Entry) (from relseg : ℕ)
    (modified : List ℕ) (files : Option Files) (rows : List FileRow) : Type 0 where
  pub copy : Store
  pub held : HoldsCopy relseg copy modified files rows
  pub copied : tells → IsCopiedSoFar seen from copy

-- a backup's entries stand, and its files but the label and the manifest
pub record IsRun (tells : Type 0) (settings : StoreSettings) (old new : Seen)
    (modified : List ℕ) (files : Option Files) (redo : Redo) (end : Lsn) (rows : List FileRow)
    : Type 0 where
  pub entries : HasBackupAt old.worker (length old.list) new.list redo.redo.0 redo.at.0 end.0
  pub copy : Store
  pub held : HoldsCopy settings.relseg copy modified files rows
  pub taken : tells → IsTaken copy new.list redo.redo.0 end.0
  pub rises : redo.redo.0 < end.0
  pub segment : segment_number redo.redo.0 settings.segment ≤ most_segments

-- the label of a backup, full or over a prior one that starts at a place
abbrev pub backup_label : Redo → Option Lsn → List ℕ → List ℕ → Label
backup_label redo prior name begun = record {
  start = redo.redo;
  checkpoint = redo.at;
  time = begun;
  label = name;
  timeline = 1;
  prior = option_map (λ at. (at, 1)) prior;
}

-- ---- looking at the area, and ending a backup

-- looking failed: the area holds a file, or its device failed, or memory ran out
abbrev pub LookCause : {V : Type 0} → Ghosts V → V → V → BackupFault → Type 0
LookCause g old new fault.NotEmpty = HoldsSomething (g.files old)
LookCause g old new (fault.WalFull n) = ⊥
LookCause g old new (fault.StoreFailed which) = ⊥
LookCause g old new fault.OutFailed = Rose (g.faults old) (g.faults new)
LookCause g old new fault.NoMemory = Unit {0}

-- ending it failed: the area's device failed, or memory ran out
abbrev pub EndCause : {V : Type 0} → Ghosts V → V → V → BackupFault → Type 0
EndCause g old new fault.NotEmpty = ⊥
EndCause g old new (fault.WalFull n) = ⊥
EndCause g old new (fault.StoreFailed which) = ⊥
EndCause g old new fault.OutFailed = Rose (g.faults old) (g.faults new)
EndCause g old new fault.NoMemory = Unit {0}

-- a path that a manifest can list, of another file than the label and the manifest
pub record IsGoodPath (path : List ℕ) : Type 0 where
  pub plain : IsUtf8 path
  pub good : is_path path ≡ true
  pub no_label : eq_by_cmp (slice_cmp nat_cmp) label_name path ≡ false
  pub no_manifest : eq_by_cmp (slice_cmp nat_cmp) manifest_name path ≡ false

-- files that a manifest can list: with good and distinct paths, and sizes below 2^64
pub record CanBeListed (put : List (List ℕ × List ℕ)) : Type 0 where
  pub paths : AllByRecursion (λ f. IsGoodPath f.0) put
  pub distinct : IsDistinct (eq_by_cmp (slice_cmp nat_cmp)) (map (λ f. f.0) put)
  pub sizes : AllByRecursion (λ f. length f.1 < 2 ^ 64) put

-- an area holds just these files, and rows list them
pub record HoldsFiles (put : List (List ℕ × List ℕ)) (modified : List ℕ) (files : Option Files)
    (rows : List FileRow) : Type 0 where
  pub listable : CanBeListed put
  pub stand : IfSome files (λ m. m ≡ with_files empty put)
  pub listed : rows ≡ map (row_of modified) put

-- a backup's files stand, and can be listed
pub record CanFinish (settings : StoreSettings) (modified : List ℕ) (files : Option Files)
    (redo : Redo) (end : Lsn) (rows : List FileRow) : Type 0 where
  pub put : List (List ℕ × List ℕ)
  pub held : HoldsFiles put modified files rows
  pub rises : redo.redo.0 < end.0
  pub segment : segment_number redo.redo.0 settings.segment ≤ most_segments

-- where files stood, the directory is whole, and lists so many files
abbrev pub Finishes : StoreSettings → List ℕ → ℕ → List ℕ → Option Files → Option Files → Redo
    → Option Lsn → Lsn → List FileRow → ℕ → Type 0
Finishes settings name when modified old new redo prior end rows count =
    (put : List (List ℕ × List ℕ)) → HoldsFiles put modified old rows
    → IsDirectory settings (backup_label redo prior name) when put redo.redo end count new

-- ---- the label

-- the text of a label, which is read as that label where the name is one line
pub record IsLabelOf (settings : StoreSettings) (redo : Redo) (prior : Option Lsn) (name : List ℕ)
    (when : ℕ) (text : List ℕ) : Type 0 where
  pub begun : List ℕ
  pub begun_at : IsTimeText when (codes "UTC") begun
  pub text_is : text ≡ label_text (backup_label redo prior name begun) settings.segment
  pub read : HasNoLineEnd name → IsLabel text (backup_label redo prior name begun)

-- a label was written and listed; its bytes can be counted
pub record AddsLabel (settings : StoreSettings) (redo : Redo) (prior : Option Lsn)
    (name : List ℕ) (when : ℕ) (modified : List ℕ) (old new : Option Files)
    (before rows : List FileRow) : Type 0 where
  pub text : List ℕ
  pub label : IsLabelOf settings redo prior name when text
  pub fits : length text < 2 ^ 64
  pub stands : new ≡ with_file label_name text old
  pub listed : rows ≡ before ++ (row_of modified (label_name, text) ∷ [])
