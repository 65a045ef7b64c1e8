-- What combining a chain of backups answers and leaves.
use Rattle.std.specs.Prelude.{◌≡◌, ◌≢◌, ◌⊎◌, ℕ, true, false, List, [], ◌∷◌, IfSome}
use Rattle.std.specs.FinMap.{empty}
use Rattle.lsn_core.specs.Causes.{Rose}
use Rattle.lsn_core.specs.Files.{Files}
use Rattle.vault.specs.declared.area.Vault.{Ghosts}
use Rattle.vault.specs.declared.lending.Held.{Held}
use Rattle.manifest.specs.Listing.{Listing}
use Rattle.manifest.specs.declared.listing.FileRow.{FileRow}
use Rattle.backup_files.specs.Area.{HoldsNothing, HoldsSomething, KeepsManifest, RoseTwice}
use Rattle.chain_check.specs.Directory.{IsAsListed}
use Rattle.chain_check.specs.declared.member.Member.{Member}
use Rattle.chain_files.specs.Sources.{OfChain}
use Rattle.chain_files.specs.Told.{chain_told, faults_at}
use Rattle.chain_files.specs.Paths.{file_path, IsIncrementalPath}
use Rattle.directory_files.specs.Written.{CanList}
use Rattle.combine.specs.Combined.{EndsWith, IsCombined, other_rows}
use Rattle.combine.specs.declared.fault.CombineFault.{CombineFault}
use Rattle.combine.specs.declared.fault.CombineFault.TheVariants.{NotEmpty, Unlisted, MemberFailed, OutFailed, NoMemory}

-- the area holds what the chain is combined to, where all areas tell, the chain's incremental files
-- are of their grammar, and the newest directory is as the member lists it
abbrev pub Combines : {V : Type 0} → Ghosts V → List ℕ → Member → ℕ → List (Held V) → V → ℕ → Type 0
Combines g places member when areas out count =
    OfChain (chain_told g areas places) (λ chain. (newest : Files) → EndsWith chain newest
    → IsAsListed newest member
    → IfSome (g.files out) (IsCombined chain newest member.manifest when count))

-- ---- refusals

-- the path of the file that stands for that of a path
pub record IsPathFor (path out : List ℕ) : Type 0 where
  pub plain : (f : IsIncrementalPath path) → out ≡ file_path f.folder f.name false
  pub kept : (IsIncrementalPath path → ⊥) → out ≡ path

-- those for the files of rows
abbrev pub ArePathsFor : List FileRow → List (List ℕ) → Type 0
ArePathsFor [] paths = paths ≡ []
ArePathsFor (row ∷ rows) paths =
    (path : List ℕ) × (more : List (List ℕ)) × (paths ≡ path ∷ more)
    × IsPathFor row.path path × ArePathsFor rows more

-- no manifest can list what a member is combined to
abbrev pub CannotList : Listing → Type 0
CannotList m =
    (paths : List (List ℕ)) × ArePathsFor (other_rows m.files) paths × (CanList m paths → ⊥)

-- why it is refused: the output holds a file; it is empty, but no manifest can list the files; or
-- the device of a member's area or of the output failed, whose count rose. Want of memory may come
-- at any time
abbrev pub CombineCause : {V : Type 0} → Ghosts V → Listing → List (Held V) → V → List (Held V) → V
    → CombineFault → Type 0
CombineCause g m areas out areas_now out_now NotEmpty = HoldsSomething (g.files out)
CombineCause g m areas out areas_now out_now Unlisted = CannotList m × HoldsNothing (g.files out)
CombineCause g m areas out areas_now out_now (MemberFailed place) =
    Rose (faults_at g areas place) (faults_at g areas_now place)
CombineCause g m areas out areas_now out_now OutFailed = Rose (g.faults out) (g.faults out_now)
CombineCause g m areas out areas_now out_now NoMemory = Unit {0}

-- an output that held a file keeps what it held, whatever the refusal is
abbrev pub KeepsFull : {V : Type 0} → Ghosts V → V → V → Type 0
KeepsFull g out now = IfSome (g.files out) (λ m. m ≢ empty → g.files now ≡ g.files out)

-- nothing was done to the output that held a file, or whose files no manifest can list
abbrev pub KeepsOut : {V : Type 0} → Ghosts V → V → V → CombineFault → Type 0
KeepsOut g out now NotEmpty = (g.files now ≡ g.files out) × (g.past now ≡ g.past out)
KeepsOut g out now Unlisted = (g.files now ≡ g.files out) × (g.past now ≡ g.past out)
KeepsOut g out now (MemberFailed place) = Unit {0}
KeepsOut g out now OutFailed = Unit {0}
KeepsOut g out now NoMemory = Unit {0}

-- what a refusal leaves of the output's manifest: nothing. Its removal alone, which follows a fault
-- in writing or syncing it, may fail too: then the count rose twice, or once and there was no
-- memory; or memory was missing twice, and the whole directory stands
abbrev pub LeavesManifest : {V : Type 0} → Ghosts V → Type 0 → V → V → CombineFault → Type 0
LeavesManifest g whole out now NotEmpty = KeepsManifest (g.files out) (g.files now)
LeavesManifest g whole out now Unlisted = KeepsManifest (g.files out) (g.files now)
LeavesManifest g whole out now (MemberFailed place) = KeepsManifest (g.files out) (g.files now)
LeavesManifest g whole out now OutFailed =
    KeepsManifest (g.files out) (g.files now) ⊎ RoseTwice (g.faults out) (g.faults now)
LeavesManifest g whole out now NoMemory =
    KeepsManifest (g.files out) (g.files now) ⊎ (Rose (g.faults out) (g.faults now) ⊎ whole)
