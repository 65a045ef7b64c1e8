-- Which events keep what a stop leaves of segment files, at every moment.
use Rattle.std.specs.Prelude.{◌≡◌, ℕ, ◌+◌, ◌*◌, ◌/◌, ◌%◌, ◌<◌, ◌≤◌, ◌⊎◌, true, false}
use Rattle.std.specs.Prelude.{List, length}
use Rattle.std.proofs.Common.{inl, inr}
use Rattle.std.specs.FinMap.{contains_key}
use Rattle.lsn_core.specs.Names.{fork_path_bytes, IsNamed}
use Rattle.lsn_core.specs.declared.ids.ForkId.{ForkId}
use Rattle.lsn_core.specs.declared.ids.BlockId.{BlockId}
use Rattle.vault.specs.Stops.{Event}
use Rattle.rel_files.specs.Forks.{IsForkPath}
use Rattle.stop_areas.specs.Left.{Base, Stays, StaysMissing}

-- ---- what may be done to a fork

-- a fork may be there, so it may be made or written: it was there, or an entry settles that
abbrev pub MayBeThere : Base → ForkId → Type 0
MayBeThere base fork =
    base.ours fork ≡ true → base.settled fork ≡ false → contains_key base.store fork ≡ true

-- a fork may be gone: it wasn't there, or an entry settles that
abbrev pub MayBeGone : Base → ForkId → Type 0
MayBeGone base fork =
    base.ours fork ≡ true → base.settled fork ≡ false → contains_key base.store fork ≡ false

-- a page may be written at a block: none stays there, and all that stay missing lie behind it
pub record MayWrite (base : Base) (at : BlockId) : Type 0 where
  pub free : (page : List ℕ) → Stays base at.fork at.block page → ⊥
  pub below : (other : ℕ) → StaysMissing base at.fork other → at.block < other
  pub there : MayBeThere base at.fork

-- a fork may be cut behind so many blocks: no page behind them stays
abbrev pub MayBeCut : Base → ForkId → ℕ → Type 0
MayBeCut base fork count =
    (block : ℕ) (page : List ℕ) → Stays base fork block page → block < count

-- a fork may be removed: none of its pages stays, and it may be gone
pub record MayBeRemoved (base : Base) (fork : ForkId) : Type 0 where
  pub free : (block : ℕ) (page : List ℕ) → Stays base fork block page → ⊥
  pub gone : MayBeGone base fork

-- ---- events

-- at most a page is written at a block where it may be
pub record WritesChanged (relseg : ℕ) (base : Base) (name : List ℕ) (at count : ℕ) : Type 0 where
  pub fork : ForkId
  pub block : ℕ
  pub named : IsNamed fork (block / relseg)
  pub name_is : name ≡ fork_path_bytes fork (block / relseg) false
  pub at_is : at ≡ block % relseg * 8192
  pub small : count ≤ 8192
  pub may : MayWrite base (record { fork = fork; block = block })

-- the first file of a fork is made
pub record MakesFirstFile (base : Base) (name : List ℕ) (at count : ℕ) : Type 0 where
  pub fork : ForkId
  pub named : IsNamed fork 0
  pub name_is : name ≡ fork_path_bytes fork 0 false
  pub at_is : at ≡ 0
  pub none : count ≡ 0
  pub may : MayBeThere base fork

-- a segment file is cut behind all pages in it that stay, and at its full size or behind that where
-- a page of a later file stays
pub record CutsChanged (relseg : ℕ) (base : Base) (name : List ℕ) (size : ℕ) : Type 0 where
  pub fork : ForkId
  pub seg : ℕ
  pub named : IsNamed fork seg
  pub name_is : name ≡ fork_path_bytes fork seg false
  pub here : (block : ℕ) (page : List ℕ) → Stays base fork block page → block / relseg ≡ seg
      → block % relseg * 8192 + 8192 ≤ size
  pub later : (block : ℕ) (page : List ℕ) → Stays base fork block page → seg < block / relseg
      → relseg * 8192 ≤ size

-- a segment file behind all pages that stay is removed, the first one where the fork may be gone
pub record RemovesChanged (relseg : ℕ) (base : Base) (name : List ℕ) : Type 0 where
  pub fork : ForkId
  pub seg : ℕ
  pub named : IsNamed fork seg
  pub name_is : name ≡ fork_path_bytes fork seg false
  pub behind : (block : ℕ) (page : List ℕ) → Stays base fork block page
      → block + 1 ≤ seg * relseg
  pub first : seg ≡ 0 → MayBeGone base fork

-- an event keeps what a stop leaves: a page is written, a first file made, a file cut or removed,
-- each where it may be, or the area is synced; or it is of a file that is no fork's, such as a mark
abbrev pub Keeps : ℕ → Base → Event → Type 0
Keeps relseg base (inl w) =
    WritesChanged relseg base w.0 w.1.0 (length w.1.1)
    ⊎ (MakesFirstFile base w.0 w.1.0 (length w.1.1) ⊎ (IsForkPath w.0 → ⊥))
Keeps relseg base (inr (inl k)) = CutsChanged relseg base k.0 k.1 ⊎ (IsForkPath k.0 → ⊥)
Keeps relseg base (inr (inr (inl name))) = RemovesChanged relseg base name ⊎ (IsForkPath name → ⊥)
Keeps relseg base (inr (inr (inr files))) = Unit {0}
