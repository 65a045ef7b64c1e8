-- What the crate's private functions answer and leave: no public contract cites these.
use Rattle.std.specs.Prelude.{◌==◌, ◌&&◌, not, ◌≡◌, ◌≢◌, IsSome, ℕ, ◌+◌, ◌-◌, ◌*◌, ◌/◌, ◌<◌, ◌≤◌}
use Rattle.std.specs.Prelude.{◌⊎◌, Bool, true, false, List, map, length, Option, Some, None}
use Rattle.std.specs.FinMap.{get, contains_key}
use Rattle.std.specs.BTreeMap.{BTreeMap}
use Rattle.std.specs.BTreeMap as tree
use Rattle.lsn_core.specs.declared.ids.ForkId.{ForkId}
use Rattle.lsn_core.specs.declared.ids.BlockId.{BlockId}
use Rattle.lsn_core.specs.declared.ids.ForkLen.{ForkLen}
use Rattle.lsn_core.specs.Files.{Files}
use Rattle.lsn_core.specs.Names.{fork_path_bytes, IsNamed}
use Rattle.lsn_core.specs.Store.{Store, ForkPages, fork_cmp, segment_count, segment_content}
use Rattle.lsn_core.specs.Blocks.{pages_of, page_put, with_fork, with_cut, without_fork}
use Rattle.lsn_core.specs.Shown.{BlockAnswer}
use Rattle.vault.specs.declared.area.Vault.{Ghosts}
use Rattle.rel_files.specs.Forks.{whole_pages, mended, page_over, AgreeOnOthers, IsTornPut}
use Rattle.rel_files.specs.Forks.{IsTornCut, IsTornRemoval}
use Rattle.rel_files.specs.Shown.{AreFilesOf, whole_count, AreKnown, IsTornMake}

-- ---- the lengths that are known

-- a fork's length, where it is known
abbrev pub known_length : BTreeMap ForkId ℕ → ForkId → Option ℕ
known_length known fork = tree.get fork_cmp known fork

-- a fork's length isn't known any more
abbrev pub Forgets : ForkId → BTreeMap ForkId ℕ → BTreeMap ForkId ℕ → Type 0
Forgets fork old new =
    (s t : Store) → AgreeOnOthers fork s t → AreKnown old s → AreKnown new t

-- the forks whose lengths are known, in order
abbrev pub lengths_in : BTreeMap ForkId ℕ → List ForkLen
lengths_in known = map (λ e. record { fork = e.0; blocks = e.1 }) known.entries

-- a fork's length is known too
pub record IsNoted (fork : ForkId) (blocks : ℕ) (old new : BTreeMap ForkId ℕ) : Type 0 where
  pub here : known_length new fork ≡ Some blocks
  pub others : (q : ForkId) → q ≢ fork → known_length new q ≡ known_length old q

-- what was known is known still, and so is a fork's length that was told
pub record Learns (fork : ForkId) (told : Option ℕ) (old new : BTreeMap ForkId ℕ) : Type 0 where
  pub kept : (q : ForkId) → IsSome (known_length old q) → IsSome (known_length new q)
  pub here : IsSome told → IsSome (known_length new fork)

-- what was known is known still
abbrev pub KeepsKnown : BTreeMap ForkId ℕ → BTreeMap ForkId ℕ → Type 0
KeepsKnown old new = (q : ForkId) → IsSome (known_length old q) → IsSome (known_length new q)

-- a fork's first segment, in its plain form
abbrev pub is_first : ℕ → Bool → Bool
is_first seg incr = (seg == 0) && not incr

-- the fork is told whose first file has a name
abbrev pub FindsFirst : List ℕ → Option ForkId → Type 0
FindsFirst name found = (fork : ForkId) → IsNamed fork 0 → name ≡ fork_path_bytes fork 0 false
    → found ≡ Some fork

-- a fork's length is known that is there and whose first file has a name
abbrev pub LearnsNamed : (Store → Type 0) → List ℕ → BTreeMap ForkId ℕ → Type 0
LearnsNamed held name known = (s : Store) → held s → (fork : ForkId) → IsNamed fork 0
    → name ≡ fork_path_bytes fork 0 false → contains_key s fork ≡ true
    → IsSome (known_length known fork)

-- a fork's length may be known, where it is right
abbrev pub Notes : ForkId → ℕ → BTreeMap ForkId ℕ → BTreeMap ForkId ℕ → Type 0
Notes fork blocks old new =
    (s : Store) → whole_count s fork ≡ Some blocks → AreKnown old s → AreKnown new s

-- ---- the files of a fork

-- the last file of so many blocks, at so many a file
abbrev pub last_file : ℕ → ℕ → ℕ
last_file relseg blocks = (blocks - 1) / relseg

-- how many whole pages a fork has; a missing fork has none
abbrev pub whole_length : Store → ForkId → ℕ
whole_length store fork = length (whole_pages (pages_of store fork))

-- the last segment file of a fork that is there, with its size
pub record IsLast (relseg : ℕ) (pages : ForkPages) (seg size : ℕ) : Type 0 where
  pub count : segment_count relseg (length pages) ≡ seg + 1
  pub bytes : size ≡ length (segment_content relseg pages seg)

-- the same of each store that the files hold
abbrev pub FindsLast : Option Files → ForkId → ℕ × ℕ → Type 0
FindsLast told fork x = (relseg : ℕ) (s : Store) (pages : ForkPages)
    → 0 < relseg → AreFilesOf relseg told s → get s fork ≡ Some pages
    → IsLast relseg pages x.0 x.1

module _ {V : Type 0} (g : Ghosts V) (relseg : ℕ) where
  -- an area's files hold a store
  abbrev pub Held : V → Store → Type 0
  Held area store = AreFilesOf relseg (g.files area) store

  -- how many whole pages a fork has
  abbrev pub CountsPages : V → ForkId → Option ℕ → Type 0
  CountsPages area fork count = (s : Store) → Held area s → count ≡ whole_count s fork

  -- a whole page that is there was read
  abbrev pub ReadsPage : V → BlockId → List ℕ → List ℕ → Bool → Type 0
  ReadsPage area at old new there =
      (s : Store) → Held area s → at.block < whole_length s at.fork
      → BlockAnswer (mended s at.fork) at old new there

  -- a page was put at most right behind the whole ones
  abbrev pub PutsNext : BlockId → List ℕ → V → V → Type 0
  PutsNext at page old new =
      (s : Store) → Held old s → at.block ≤ whole_length s at.fork
      → Held new (page_put at page s)

  -- the same of a put that failed
  abbrev pub TearsNext : BlockId → V → V → Type 0
  TearsNext at old new =
      (s : Store) → Held old s → at.block ≤ whole_length s at.fork
      → (t : Store) × (Held new t × IsTornPut at s t)

  -- a page was put at a block of a fork of so many whole pages
  abbrev pub Puts : ℕ → BlockId → List ℕ → V → V → Type 0
  Puts count at page old new =
      (s : Store) → Held old s → count ≡ whole_length s at.fork
      → Held new (page_over at page s)

  -- the same of a put that failed
  abbrev pub TearsPut : ℕ → BlockId → V → V → Type 0
  TearsPut count at old new =
      (s : Store) → Held old s → count ≡ whole_length s at.fork
      → (t : Store) × (Held new t × IsTornPut at s t)

  -- a fork that wasn't there was made
  abbrev pub Makes : ForkId → V → V → Type 0
  Makes fork old new =
      (s : Store) → Held old s → get s fork ≡ None → Held new (with_fork s fork)

  -- the same of a call that failed
  abbrev pub TearsMake : ForkId → V → V → Type 0
  TearsMake fork old new =
      (s : Store) → Held old s → get s fork ≡ None
      → (t : Store) × (Held new t × IsTornMake fork s t)

  -- ---- cuts and removals

  -- a fork has at most so many files
  abbrev pub HasFiles : Store → ForkId → ℕ → Type 0
  HasFiles s fork count = length (pages_of s fork) ≤ count * relseg

  -- the files of a fork from one on were removed
  abbrev pub RemovesFrom : ForkId → ℕ → ℕ → V → V → Type 0
  RemovesFrom fork first end old new =
      (s : Store) → Held old s → HasFiles s fork end → Held new (with_cut s fork (first * relseg))

  -- the same of a removal that failed: the first files are there, at least those before that one
  abbrev pub TearsFrom : ForkId → ℕ → ℕ → V → V → Type 0
  TearsFrom fork first end old new =
      (s : Store) → Held old s → HasFiles s fork end
      → (left : ℕ) × (first * relseg ≤ left × Held new (with_cut s fork left))

  -- a fork of one file was removed with that
  abbrev pub RemovesFirst : ForkId → V → V → Type 0
  RemovesFirst fork old new =
      (s : Store) → Held old s → HasFiles s fork 1 → Held new (without_fork s fork)

  abbrev pub LeavesFirst : ForkId → V → V → Type 0
  LeavesFirst fork old new =
      (s : Store) → Held old s → HasFiles s fork 1 → Held new s ⊎ Held new (without_fork s fork)

  -- the last file of a fork that is there was cut, so that so many of its whole pages are left
  abbrev pub CutsLast : ForkId → ℕ → V → V → Type 0
  CutsLast fork left old new =
      (s : Store) → Held old s → contains_key s fork ≡ true
      → HasFiles s fork (last_file relseg left + 1)
      → left ≤ whole_length s fork → Held new (with_cut s fork left)

  abbrev pub LeavesLast : ForkId → ℕ → V → V → Type 0
  LeavesLast fork left old new =
      (s : Store) → Held old s → contains_key s fork ≡ true
      → HasFiles s fork (last_file relseg left + 1)
      → left ≤ whole_length s fork
      → Held new s ⊎ Held new (with_cut s fork left)

  -- a fork of so many whole pages was cut
  abbrev pub Cuts : ℕ → ForkId → ℕ → V → V → Type 0
  Cuts count fork to old new =
      (s : Store) → Held old s → whole_count s fork ≡ Some count
      → Held new (with_cut (mended s fork) fork to)

  abbrev pub TearsCut : ℕ → ForkId → ℕ → V → V → Type 0
  TearsCut count fork to old new =
      (s : Store) → Held old s → whole_count s fork ≡ Some count
      → (t : Store) × (Held new t × IsTornCut fork to s t)

  -- a fork of so many whole pages was removed
  abbrev pub Removes : ℕ → ForkId → V → V → Type 0
  Removes count fork old new =
      (s : Store) → Held old s → whole_count s fork ≡ Some count → Held new (without_fork s fork)

  abbrev pub TearsRemoval : ℕ → ForkId → V → V → Type 0
  TearsRemoval count fork old new =
      (s : Store) → Held old s → whole_count s fork ≡ Some count
      → (t : Store) × (Held new t × IsTornRemoval fork s t)
