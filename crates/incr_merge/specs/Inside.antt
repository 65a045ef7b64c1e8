-- What the crate's private functions answer: no public contract cites these.
use Rattle.std.specs.Prelude.{◌≡◌, ◌≢◌, ℕ, Bool, true, false, min, map, take, drop, length, List, [], ◌∷◌, ◌++◌, Option, Some, None, IfSome}
use Rattle.std.specs.List.{AllByRecursion, flat_map}
use Rattle.std.specs.FinMap.{get}
use Rattle.lsn_core.specs.Causes.{Rose}
use Rattle.lsn_core.specs.Files.{Files}
use Rattle.lsn_core.specs.Store.{ForkPages}
use Rattle.vault.specs.declared.area.Vault.{Ghosts}
use Rattle.vault.specs.declared.lending.Held.{Held}
use Rattle.incr_file.specs.declared.head.IncrHead.{IncrHead}
use Rattle.incr_file.specs.Form.{pages_bytes}
use Rattle.incr_file.specs.Head.{head_bytes}
use Rattle.manifest.specs.Listing.{Listing}
use Rattle.manifest.specs.declared.listing.FileRow.{FileRow}
use Rattle.backup_files.specs.Directory.{manifest_name}
use Rattle.backup_files.specs.Area.{HoldsNothing}
use Rattle.chain_files.specs.Segments.{chain_pages, forms_at}
use Rattle.chain_files.specs.Sources.{OfChain, IsSourceAt}
use Rattle.chain_files.specs.Told.{chain_told, faults_at}
use Rattle.chain_files.specs.declared.source.SegmentSource.{SegmentSource}
use Rattle.chain_files.specs.Paths.{IsIncrementalPath}
use Rattle.directory_files.specs.Relisted.{other_rows}
use Rattle.directory_files.specs.Written.{CanList, to_of}
use Rattle.directory_files.specs.declared.fault.WriteFault.{WriteFault}
use Rattle.directory_files.specs.declared.fault.WriteFault.TheVariants.{MemberFailed, OutFailed, NoMemory}
use Rattle.directory_files.specs.declared.targets.Target.{Target}
use Rattle.merged_forms.specs.Merged.{rests_on_plain}
use Rattle.series_files.specs.Heads.{merged_head_of}
use Rattle.merge_laws.specs.Merged.{BeginsWith, EndsWith, IsMerged, kept_bytes}
use Rattle.incr_merge.specs.Calls.{IsMergedPath}

-- ---- incremental files

-- the bytes of those of some pages that have these numbers
abbrev pub listed_bytes : ForkPages → List ℕ → List ℕ
listed_bytes pages blocks = flat_map (λ b. pages_bytes (take 1 (drop b pages))) blocks

-- bytes are those of an incremental file with a head, whose blocks are a source's pages
abbrev pub IsPartOf : Option (List Files) → SegmentSource → IncrHead → List ℕ → Type 0
IsPartOf told source head bytes =
    OfChain told (λ series. (folder name : List ℕ) → IsSourceAt series folder name (Some source)
    → IfSome (chain_pages series folder name) (λ pages.
    bytes ≡ head_bytes head ++ listed_bytes pages head.blocks))

-- bytes are those of a file of a folder that a series is merged to, whole or incremental, where
-- it is combined to such a file: of as many pages as a segment file has at most
abbrev pub IsJoined : List Files → List ℕ → List ℕ → Bool → List ℕ → Type 0
IsJoined series folder name true bytes =
    IfSome (chain_pages series folder name) (λ pages. bytes ≡ pages_bytes (take 131072 pages))
IsJoined series folder name false bytes =
    IfSome (chain_pages series folder name) (λ pages.
    bytes ≡ head_bytes (merged_head_of (forms_at series folder name) (min (length pages) 131072))
    ++ listed_bytes pages
    (merged_head_of (forms_at series folder name) (min (length pages) 131072)).blocks)

-- ---- files that stand for others

-- only members were read: the device of one failed, whose count rose, or memory ran out
abbrev pub ReadCause : {V : Type 0} → Ghosts V → List (Held V) → List (Held V) → WriteFault → Type 0
ReadCause g areas areas_now (MemberFailed place) =
    Rose (faults_at g areas place) (faults_at g areas_now place)
ReadCause g areas areas_now OutFailed = ⊥
ReadCause g areas areas_now NoMemory = Unit {0}

-- a file of this path, and the path of the one that stands for it, which isn't the manifest's
pub record IsTarget (told : Option (List Files)) (path : List ℕ) (target : Target) : Type 0 where
  pub from : target.from ≡ path
  pub to : OfChain told (λ series. IsMergedPath series path target.to)
  pub kept : (IsIncrementalPath path → ⊥) → target.to ≡ path
  pub other : target.to ≢ manifest_name

-- the files of rows, in their order
abbrev pub AreTargets : Option (List Files) → List FileRow → List Target → Type 0
AreTargets told [] targets = targets ≡ []
AreTargets told (row ∷ rows) targets =
    (target : Target) × (more : List Target) × (targets ≡ target ∷ more)
    × IsTarget told row.path target × AreTargets told rows more

-- bytes are what stands for a file, where the series tells: a file of a folder that the series
-- is merged to, or what a file keeps that isn't incremental
pub record IsContentOf (series : List Files) (target : Target) (bytes : List ℕ) : Type 0 where
  pub joined : (f : IsIncrementalPath target.from)
      → IsJoined series f.folder f.name (rests_on_plain (forms_at series f.folder f.name)) bytes
  pub kept : (IsIncrementalPath target.from → ⊥) → (first newest : Files)
      → BeginsWith series first → EndsWith series newest
      → bytes ≡ kept_bytes first newest target.from

abbrev pub IsContent : Option (List Files) → Target → List ℕ → Type 0
IsContent told target bytes = OfChain told (λ series. IsContentOf series target bytes)

-- what a file of a path holds that is kept
abbrev pub IsKept : Option (List Files) → List ℕ → List ℕ → Type 0
IsKept told path bytes =
    IfSome told (λ series. (first newest : Files) → BeginsWith series first
    → EndsWith series newest → bytes ≡ kept_bytes first newest path)

-- ---- the whole

-- a directory has the files of rows
abbrev pub HasFiles : Files → List FileRow → Type 0
HasFiles files rows = AllByRecursion (λ row. get files row.path ≢ None) rows

-- an output is empty, and a manifest can list the files that stand for those of another manifest
pub record CanPut (told : Option (List Files)) (m : Listing) (out : Option Files)
    (targets : List Target) : Type 0 where
  pub rows : AreTargets told (other_rows m.files) targets
  pub listable : CanList m (map to_of targets)
  pub empty : HoldsNothing out

-- the output is what the series is merged to, where all areas tell and the newest member has the
-- files that are listed
abbrev pub PutsAll : {V : Type 0} → Ghosts V → List ℕ → Listing → ℕ → List (Held V) → V → ℕ → Type 0
PutsAll g places m when areas out count =
    OfChain (chain_told g areas places) (λ series. (first newest : Files)
    → BeginsWith series first → EndsWith series newest → HasFiles newest (other_rows m.files)
    → IfSome (g.files out) (IsMerged series first newest m when count))
