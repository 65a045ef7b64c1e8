-- What merging a series of incremental backups answers.
use Rattle.std.specs.Prelude.{◌≡◌, ℕ, true, not, List, [], ◌∷◌, IfSome}
use Rattle.lsn_core.specs.Causes.{Rose}
use Rattle.lsn_core.specs.Files.{Files}
use Rattle.vault.specs.declared.area.Vault.{Ghosts}
use Rattle.vault.specs.declared.lending.Held.{Held}
use Rattle.manifest.specs.Listing.{Listing}
use Rattle.manifest.specs.declared.listing.FileRow.{FileRow}
use Rattle.backup_files.specs.Area.{HoldsNothing, HoldsSomething}
use Rattle.chain_check.specs.Directory.{IsAsListed}
use Rattle.chain_check.specs.declared.member.Member.{Member}
use Rattle.chain_files.specs.Segments.{forms_at}
use Rattle.chain_files.specs.Sources.{OfChain}
use Rattle.chain_files.specs.Told.{chain_told, faults_at}
use Rattle.chain_files.specs.Paths.{file_path, IsIncrementalPath}
use Rattle.directory_files.specs.Relisted.{other_rows}
use Rattle.directory_files.specs.Written.{CanList}
use Rattle.combine.specs.declared.fault.CombineFault.{CombineFault}
use Rattle.combine.specs.declared.fault.CombineFault.TheVariants.{NotEmpty, Unlisted, MemberFailed, OutFailed, NoMemory}
use Rattle.merged_forms.specs.Merged.{rests_on_plain}
use Rattle.merge_laws.specs.Merged.{BeginsWith, EndsWith, IsMerged}

-- the area holds what the series is merged to, where all areas tell, the series' incremental files
-- are of their grammar, and the newest directory is as the member lists it
abbrev pub Merges : {V : Type 0} → Ghosts V → List ℕ → Member → ℕ → List (Held V) → V → ℕ → Type 0
Merges g places member when areas out count =
    OfChain (chain_told g areas places) (λ series. (first newest : Files)
    → BeginsWith series first → EndsWith series newest → IsAsListed newest member
    → IfSome (g.files out) (IsMerged series first newest member.manifest when count))

-- ---- refusals

-- the path of the file that stands for the newest member's file of a path: an incremental one is
-- plain where it rests on a plain one, and else keeps its path, as any other does
pub record IsMergedPath (series : List Files) (path out : List ℕ) : Type 0 where
  pub merged : (f : IsIncrementalPath path)
      → out ≡ file_path f.folder f.name (not (rests_on_plain (forms_at series f.folder f.name)))
  pub kept : (IsIncrementalPath path → ⊥) → out ≡ path

-- those for the files of rows
abbrev pub AreMergedPaths : List Files → List FileRow → List (List ℕ) → Type 0
AreMergedPaths series [] paths = paths ≡ []
AreMergedPaths series (row ∷ rows) paths =
    (path : List ℕ) × (more : List (List ℕ)) × (paths ≡ path ∷ more)
    × IsMergedPath series row.path path × AreMergedPaths series rows more

-- no manifest can list what the series is merged to, whose newest member's manifest is this
abbrev pub CannotMerge : {V : Type 0} → Ghosts V → List ℕ → Listing → List (Held V) → Type 0
CannotMerge g places m areas =
    OfChain (chain_told g areas places) (λ series. (paths : List (List ℕ))
    × AreMergedPaths series (other_rows m.files) paths × (CanList m paths → ⊥))

-- a manifest can list what the series is merged to, where all areas tell, and the series'
-- incremental files are of their grammar
abbrev pub CanMerge : {V : Type 0} → Ghosts V → List ℕ → Listing → List (Held V) → Type 0
CanMerge g places m areas =
    OfChain (chain_told g areas places) (λ series. (paths : List (List ℕ))
    → AreMergedPaths series (other_rows m.files) paths → CanList m paths)

-- why it is refused: the output holds a file; it is empty, but no manifest can list the files; or
-- the device of a member's area or of the output failed, whose count rose. Want of memory may come
-- at any time
abbrev pub MergeCause : {V : Type 0} → Ghosts V → List ℕ → Listing → List (Held V) → V
    → List (Held V) → V → CombineFault → Type 0
MergeCause g places m areas out areas_now out_now NotEmpty = HoldsSomething (g.files out)
MergeCause g places m areas out areas_now out_now Unlisted =
    CannotMerge g places m areas × HoldsNothing (g.files out)
MergeCause g places m areas out areas_now out_now (MemberFailed place) =
    Rose (faults_at g areas place) (faults_at g areas_now place)
MergeCause g places m areas out areas_now out_now OutFailed =
    Rose (g.faults out) (g.faults out_now)
MergeCause g places m areas out areas_now out_now NoMemory = Unit {0}
