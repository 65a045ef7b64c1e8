-- What the crate's functions answer to one another.
use Rattle.std.specs.Prelude.{◌≡◌, ◌≤◌, ◌⊎◌, ℕ, ◌-◌, min, Bool, false, List, [], ◌∷◌, ◌++◌, take, length, reverse, Option, Result, Ok, Err}
use Rattle.std.specs.FinMap.{empty, insert, contains_key, keys}
use Rattle.lsn_core.specs.Blocks.{with_fork}
use Rattle.lsn_core.specs.Causes.{Rose}
use Rattle.lsn_core.specs.Files.{Files}
use Rattle.lsn_core.specs.Names.{fork_path_bytes, IsNamed}
use Rattle.lsn_core.specs.Segment.{StoreSettings}
use Rattle.lsn_core.specs.Store.{Store, ForkPages}
use Rattle.lsn_core.specs.declared.fault.AreaFault.TheVariants.{Failed, NoMemory}
use Rattle.lsn_core.specs.declared.ids.ForkId.{ForkId}
use Rattle.lsn_core.specs.declared.lsn.Lsn.{Lsn}
use Rattle.lsn_core.specs.declared.pages.Pages.{Ghosts as PagesGhosts}
use Rattle.vault.specs.Site.{state_in}
use Rattle.vault.specs.declared.area.Vault.{Ghosts}
use Rattle.vault.specs.declared.lending.Held.{Held}
use Rattle.rel_files.specs.Forks.{HasWholePages}
use Rattle.rel_files.specs.Shown.{AreFilesOf}
use Rattle.recovery.specs.declared.fault.ReplayFault.{ReplayFault}
use Rattle.recovery.specs.declared.fault.ReplayFault.TheVariants as replay
use Rattle.recovery.specs.declared.reading.Beginning.TheVariants.{AtPlace}
use Rattle.recovery.specs.declared.replaying.Replayed.{Replayed}
use Rattle.recovery.specs.declared.tally.Tally.{Tally}
use Rattle.recovery.specs.Tally.{IsTallyOf}
use Rattle.recovery.specs.Causes.{CauseOf}
use Rattle.recovery.specs.Recovered.{IsRecovered, redo_causes}
use Rattle.chain_files.specs.declared.fault.MemberFault.{MemberFault}
use Rattle.chain_files.specs.Held.{most_pages, pages_taken, IsForkOf, IsStoreOfChain}
use Rattle.chain_files.specs.Segments.{chain_segments}
use Rattle.chain_files.specs.Sources.{OfChain}
use Rattle.chain_files.specs.Told.{chain_told, faults_at, FailsAt}
use Rattle.backup_restore.specs.declared.fault.RestoreFault.{RestoreFault}
use Rattle.backup_restore.specs.declared.fault.RestoreFault.TheVariants.{Backup, Wal, Out}
use Rattle.backup_restore.specs.Restored.{RestoreAreas, RestoreAnswer}

-- ---- faults

abbrev pub restore_fault_of : ReplayFault → RestoreFault
restore_fault_of (replay.Wal why) = Wal why
restore_fault_of (replay.Out why) = Out why

-- memory ran out, on no area's account
abbrev pub no_memory : MemberFault
no_memory = record { area = 0; why = NoMemory }

-- a copy fails where the area of a member or the pages do
abbrev pub CopyCause : {V : Type 0} → Ghosts V → List (Held V) → List (Held V) → ℕ → ℕ
    → RestoreFault → Type 0
CopyCause g before now out_before out_now (Backup fault) = FailsAt g before now fault
CopyCause g before now out_before out_now (Wal why) = ⊥
CopyCause g before now out_before out_now (Out why) = why ≡ Failed → Rose out_before out_now

-- ---- pages

-- told files hold a store whose pages are whole
pub record IsShownIn (relseg : ℕ) (told : Option Files) (store : Store) : Type 0 where
  pub files : AreFilesOf relseg told store
  pub whole : HasWholePages store

-- an area's files do
abbrev pub area_shows : {V : Type 0} → Ghosts V → ℕ → V → Store → Type 0
area_shows g relseg area store = IsShownIn relseg (g.files area) store

-- an empty fork was made over each store without it
abbrev pub MakesFork : {P : Type 0} → (P → Store → Type 0) → P → P → ForkId → Type 0
MakesFork shows before behind fork =
    (s : Store) → contains_key s fork ≡ false → shows before s → shows behind (with_fork s fork)

-- ---- a fork

-- the pages that are taken of a segment file that a chain is combined to, at most so many
abbrev pub taken : ℕ → List Files → ForkId → ℕ → ForkPages
taken relseg chain fork seg = pages_taken relseg (chain_segments chain fork seg)

-- over each store, where pages showed it with these pages of a fork they show it now with those
abbrev pub Puts : {P : Type 0} → (P → Store → Type 0) → P → P → ForkId → ForkPages → ForkPages
    → Type 0
Puts shows before behind fork old new =
    (s : Store) → shows before (insert s fork old) → shows behind (insert s fork new)

-- so many first pages of a segment file were put behind as many as were there
abbrev pub PutsPages : {P : Type 0} → (P → Store → Type 0)
    → ℕ → List Files → ForkId → ℕ → ℕ → P → P → ℕ → Type 0
PutsPages shows relseg chain fork seg first before behind count =
    (pages : ForkPages) → length pages ≡ first → Puts shows before behind fork pages
    (pages ++ take count (taken relseg chain fork seg))

-- and these are all that are read of it
pub record PutsSegment {P : Type 0} (shows : P → Store → Type 0)
    (relseg : ℕ) (told : Option (List Files)) (fork : ForkId) (seg first : ℕ) (before behind : P)
    (count : ℕ) : Type 0 where
  pub put : OfChain told (λ chain. PutsPages shows relseg chain fork seg first before behind count)
  pub all : OfChain told (λ chain.
      count ≡ min (length (taken relseg chain fork seg)) (most_pages - first))
  pub few : count ≤ relseg
  pub within : count ≤ most_pages - first

-- all pages of a fork that wasn't there were put
pub record IsForkPut {P : Type 0} (shows : P → Store → Type 0)
    (relseg : ℕ) (chain : List Files) (fork : ForkId) (before behind : P) (count : ℕ)
    : Type 0 where
  pub pages : ForkPages
  pub are : IsForkOf relseg (chain_segments chain fork) pages
  pub counted : count ≡ length pages
  pub put : (s : Store) → contains_key s fork ≡ false → shows before s
      → shows behind (insert s fork pages)

abbrev pub PutsFork : {P : Type 0} → (P → Store → Type 0)
    → ℕ → Option (List Files) → ForkId → P → P → ℕ → Type 0
PutsFork shows relseg told fork before behind count =
    OfChain told (λ chain. IsForkPut shows relseg chain fork before behind count)

-- ---- a store

-- the newest one of some directories, the newest first; an empty one, where there is none
abbrev pub newest_of : List Files → Files
newest_of [] = empty
newest_of (files ∷ older) = files

-- the names of the files of a chain's newest directory
abbrev pub newest_names : List Files → List (List ℕ)
newest_names chain = keys (newest_of (reverse chain))

-- over each store without the fork whose first file has a name, this was put, and counted
pub record IsNamedPut {P : Type 0} (shows : P → Store → Type 0)
    (relseg : ℕ) (chain : List Files) (fork : ForkId) (before behind : P) (old new : Tally)
    : Type 0 where
  pub pages : ForkPages
  pub are : IsForkOf relseg (chain_segments chain fork) pages
  pub put : (s : Store) → contains_key s fork ≡ false → shows before s
      → shows behind (insert s fork pages)
  pub counted : (s : Store) → contains_key s fork ≡ false → IsTallyOf old s
      → IsTallyOf new (insert s fork pages)

-- a fork whose first file has a name, plain or incremental
pub record IsFirstOf (name : List ℕ) (fork : ForkId) : Type 0 where
  pub incr : Bool
  pub named : IsNamed fork 0
  pub is : name ≡ fork_path_bytes fork 0 incr

-- the fork whose first file has a name was put; or no fork's first file has it, and nothing changed
abbrev pub AddsNamed : {P : Type 0} → (P → Store → Type 0)
    → ℕ → Option (List Files) → List ℕ → P → P → Tally → Tally → Type 0
AddsNamed shows relseg told name before behind old new =
    ((fork : ForkId) × IsFirstOf name fork
    × OfChain told (λ chain. IsNamedPut shows relseg chain fork before behind old new))
    ⊎ (((fork : ForkId) → IsFirstOf name fork → ⊥) × (behind ≡ before) × (new ≡ old))

-- over pages that showed no fork they show now the store that the chain holds, which has so many
-- forks and pages
pub record IsCopied (shown : Store → Type 0) (relseg : ℕ) (chain : List Files) (tally : Tally)
    : Type 0 where
  pub copy : Store
  pub held : IsStoreOfChain relseg chain copy
  pub there : shown copy
  pub counted : IsTallyOf tally copy

abbrev pub CopiesStore : {P : Type 0} → (P → Store → Type 0)
    → ℕ → Option (List Files) → P → P → Tally → Type 0
CopiesStore shows relseg told before behind tally =
    shows before empty → OfChain told (λ chain. IsCopied (shows behind) relseg chain tally)

-- ---- the whole

-- the WAL was redone over pages from a place on, or wasn't
abbrev pub RedoesOver : {V P : Type 0} → Ghosts V → PagesGhosts P
    → StoreSettings → Lsn → Option Lsn → Tally → V → V → P → P
    → Result Replayed RestoreFault → Type 0
RedoesOver g p s start upto counted wal wal_now before behind (Ok replayed) =
    IsRecovered p s (g.files wal) (AtPlace start) upto counted before behind replayed
RedoesOver g p s start upto counted wal wal_now before behind (Err (Wal why)) =
    CauseOf (redo_causes (p.shows before) s (AtPlace start) upto (g.files wal)) (g.faults wal)
    (g.faults wal_now) why
RedoesOver g p s start upto counted wal wal_now before behind (Err (Backup fault)) = ⊥
RedoesOver g p s start upto counted wal wal_now before behind (Err (Out why)) =
    why ≡ Failed → Rose (p.faults before) (p.faults behind)

-- over areas, of which the members of a chain have theirs at places
abbrev pub areas_in : {V : Type 0} → Ghosts V → List ℕ → V → List (Held V) → V → RestoreAreas
areas_in g places wal areas out = record {
  wal = state_in g wal;
  chain = chain_told g areas places;
  faults = faults_at g areas;
  out = state_in g out;
}

abbrev pub Restores : {V : Type 0} → Ghosts V
    → StoreSettings → Lsn → Option Lsn → List ℕ → V → List (Held V) → V → V → List (Held V) → V
    → Result Replayed RestoreFault → Type 0
Restores g s start upto places wal areas out wal_now areas_now out_now r =
    RestoreAnswer s start upto (areas_in g places wal areas out)
    (areas_in g places wal_now areas_now out_now) r
