-- What the crate's private functions answer: no public contract cites these.
use Rattle.std.specs.Prelude.{◌≡◌, ◌≢◌, ℕ, true, List, [], ◌∷◌, ◌++◌, map, take, Option, None, IfSome}
use Rattle.std.specs.List.{AllByRecursion}
use Rattle.std.specs.FinMap.{get}
use Rattle.lsn_core.specs.Causes.{Rose}
use Rattle.lsn_core.specs.Files.{Files}
use Rattle.lsn_core.specs.declared.fault.AreaFault.{AreaFault}
use Rattle.lsn_core.specs.declared.fault.AreaFault.TheVariants as area
use Rattle.vault.specs.declared.area.Vault.{Ghosts}
use Rattle.vault.specs.declared.lending.Held.{Held}
use Rattle.incr_file.specs.Form.{pages_bytes}
use Rattle.manifest.specs.Listing.{Listing}
use Rattle.manifest.specs.declared.listing.FileRow.{FileRow}
use Rattle.backup_files.specs.Directory.{manifest_name}
use Rattle.backup_files.specs.Area.{HoldsNothing, HoldsSomething}
use Rattle.chain_files.specs.Segments.{chain_pages}
use Rattle.chain_files.specs.Sources.{OfChain}
use Rattle.chain_files.specs.Told.{chain_told, faults_at}
use Rattle.chain_files.specs.declared.fault.MemberFault.{MemberFault}
use Rattle.chain_files.specs.Paths.{IsIncrementalPath}
use Rattle.directory_files.specs.Written.{CanList, to_of}
use Rattle.directory_files.specs.declared.fault.WriteFault.{WriteFault}
use Rattle.directory_files.specs.declared.fault.WriteFault.TheVariants as write
use Rattle.directory_files.specs.declared.targets.Target.{Target}
use Rattle.combine.specs.Combined.{EndsWith, IsCombined, kept_bytes, other_rows}
use Rattle.combine.specs.Calls.{CannotList, IsPathFor}
use Rattle.combine.specs.declared.fault.CombineFault.{CombineFault}
use Rattle.combine.specs.declared.fault.CombineFault.TheVariants as fault

-- ---- faults

abbrev pub area_fault : AreaFault → CombineFault
area_fault area.Failed = fault.OutFailed
area_fault area.NoMemory = fault.NoMemory

abbrev pub why_fault : ℕ → AreaFault → CombineFault
why_fault place area.Failed = fault.MemberFailed place
why_fault place area.NoMemory = fault.NoMemory

abbrev pub member_fault : MemberFault → CombineFault
member_fault failed = why_fault failed.area failed.why

abbrev pub write_fault : WriteFault → CombineFault
write_fault (write.MemberFailed place) = fault.MemberFailed place
write_fault write.OutFailed = fault.OutFailed
write_fault write.NoMemory = fault.NoMemory

-- reading or writing failed: the device of a member or of the output did whose count rose, or
-- memory ran out
abbrev pub WorkCause : {V : Type 0} → Ghosts V → List (Held V) → V → List (Held V) → V
    → CombineFault → Type 0
WorkCause g areas out areas_now out_now fault.NotEmpty = ⊥
WorkCause g areas out areas_now out_now fault.Unlisted = ⊥
WorkCause g areas out areas_now out_now (fault.MemberFailed place) =
    Rose (faults_at g areas place) (faults_at g areas_now place)
WorkCause g areas out areas_now out_now fault.OutFailed = Rose (g.faults out) (g.faults out_now)
WorkCause g areas out areas_now out_now fault.NoMemory = Unit {0}

-- nothing was written: the output holds a file or failed, no manifest can list the files, or memory
-- ran out
abbrev pub LookCause : {V : Type 0} → Ghosts V → Listing → V → V → CombineFault → Type 0
LookCause g m out out_now fault.NotEmpty = HoldsSomething (g.files out)
LookCause g m out out_now fault.Unlisted = CannotList m × HoldsNothing (g.files out)
LookCause g m out out_now (fault.MemberFailed place) = ⊥
LookCause g m out out_now fault.OutFailed = Rose (g.faults out) (g.faults out_now)
LookCause g m out out_now fault.NoMemory = Unit {0}

-- ---- files that stand for others

-- a file of this path, and the only path of the one that stands for it, which isn't the manifest's
pub record IsTarget (path : List ℕ) (target : Target) : Type 0 where
  pub from : target.from ≡ path
  pub to : IsPathFor path target.to
  pub only : (to : List ℕ) → IsPathFor path to → to ≡ target.to
  pub other : target.to ≢ manifest_name

-- the files of rows, in their order
abbrev pub AreTargets : List FileRow → List Target → Type 0
AreTargets [] targets = targets ≡ []
AreTargets (row ∷ rows) targets =
    (target : Target) × (more : List Target) × (targets ≡ target ∷ more)
    × IsTarget row.path target × AreTargets rows more

-- an output is empty, and a manifest can list the files that stand for those of another manifest
pub record CanPut (m : Listing) (out : Option Files) (targets : List Target) : Type 0 where
  pub rows : AreTargets (other_rows m.files) targets
  pub listable : CanList m (map to_of targets)
  pub empty : HoldsNothing out

-- ---- the files of a chain

-- the last of places
abbrev pub IsLast : List ℕ → ℕ → Type 0
IsLast places place = (before : List ℕ) × (places ≡ before ++ (place ∷ []))

-- bytes are what stands for a file, where the chain tells: the pages that it is combined to, at
-- most as many as a segment file has, or what the newest member's file keeps
pub record IsContentOf (chain : List Files) (target : Target) (bytes : List ℕ) : Type 0 where
  pub rebuilt : (f : IsIncrementalPath target.from)
      → IfSome (chain_pages chain f.folder f.name)
      (λ pages. bytes ≡ pages_bytes (take 131072 pages))
  pub kept : (IsIncrementalPath target.from → ⊥) → (newest : Files) → EndsWith chain newest
      → bytes ≡ kept_bytes newest target.from

abbrev pub IsContent : Option (List Files) → Target → List ℕ → Type 0
IsContent told target bytes = OfChain told (λ chain. IsContentOf chain target bytes)

-- ---- the directory

-- a directory has the files of rows
abbrev pub HasFiles : Files → List FileRow → Type 0
HasFiles files rows = AllByRecursion (λ row. get files row.path ≢ None) rows

-- the output is what the chain is combined to, where all areas tell and the newest member has the
-- files that are listed
abbrev pub PutsAll : {V : Type 0} → Ghosts V → List ℕ → Listing → ℕ → List (Held V) → V → ℕ → Type 0
PutsAll g places m when areas out count =
    OfChain (chain_told g areas places) (λ chain. (newest : Files) → EndsWith chain newest
    → HasFiles newest (other_rows m.files)
    → IfSome (g.files out) (IsCombined chain newest m when count))
