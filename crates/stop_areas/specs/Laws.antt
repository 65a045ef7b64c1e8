-- What a stop leaves at each moment of calls on a store in segment files, and after a sync.
use Rattle.std.specs.Prelude.{ℕ, ◌<◌, min, List, length, Option, IfSome}
use Rattle.lsn_core.specs.Blocks.{pages_of}
use Rattle.lsn_core.specs.Files.{Files}
use Rattle.lsn_core.specs.Laws.{HasNamedForks}
use Rattle.lsn_core.specs.Store.{Store}
use Rattle.lsn_core.specs.declared.ids.BlockId.{BlockId}
use Rattle.lsn_core.specs.declared.ids.ForkId.{ForkId}
use Rattle.vault.specs.Frame.{Adds, IsDurable, LeavesNow, LeavesOnly}
use Rattle.vault.specs.Stops.{Event}
use Rattle.rel_files.specs.Events.{IsFileRemoval, IsForkCut, IsMake, IsPut}
use Rattle.rel_files.specs.Forks.{Holds, HasHeldPages, HasWholePages, whole_pages}
use Rattle.stop_areas.specs.Keeps.{Keeps, MayBeThere, MayBeCut, MayBeRemoved, MayWrite}
use Rattle.stop_areas.specs.Left.{Base, ChangesMore, HasPagesThatStay, HasWhatStays, IsLeftOf}

-- what stays is left by a stop at each moment between two, where it is left at the first
abbrev pub KeepsLeft : ℕ → Base → Option (List Event) → Option (List Event) → Type 0
KeepsLeft relseg base old new =
    LeavesNow (IsLeftOf relseg base) old → LeavesOnly (IsLeftOf relseg base) old new

-- ---- calls

-- so it is while each event keeps it
abbrev pub StopsKeepPages : Type 0
StopsKeepPages =
    (relseg : ℕ) (base : Base) (old new : Option (List Event)) → 0 < relseg
    → Adds (Keeps relseg base) old new → KeepsLeft relseg base old new

-- of a put of a page, where files hold the pages that stay: between their last whole page and the
-- block none does
abbrev pub PutsKeepPages : Type 0
PutsKeepPages =
    (relseg : ℕ) (base : Base) (at : BlockId) (held : Store) (old new : Option (List Event))
    → 0 < relseg → HasHeldPages held → HasPagesThatStay base held → MayWrite base at
    → Adds (IsPut relseg (length (whole_pages (pages_of held at.fork))) at) old new
    → KeepsLeft relseg base old new

-- of the making of a fork
abbrev pub MakesKeepPages : Type 0
MakesKeepPages =
    (relseg : ℕ) (base : Base) (fork : ForkId) (old new : Option (List Event)) → 0 < relseg
    → MayBeThere base fork → Adds (IsMake fork) old new → KeepsLeft relseg base old new

-- of a cut of a fork behind as many pages as are to stay, or behind those that files hold
abbrev pub CutsKeepPages : Type 0
CutsKeepPages =
    (relseg to : ℕ) (base : Base) (fork : ForkId) (held : Store) (old new : Option (List Event))
    → 0 < relseg → HasHeldPages held → HasPagesThatStay base held → MayBeCut base fork to
    → Adds (IsForkCut relseg fork (min (length (whole_pages (pages_of held fork))) to)) old new
    → KeepsLeft relseg base old new

-- of the removal of a fork
abbrev pub RemovalsKeepPages : Type 0
RemovalsKeepPages =
    (relseg : ℕ) (base : Base) (fork : ForkId) (old new : Option (List Event)) → 0 < relseg
    → MayBeRemoved base fork → Adds (IsFileRemoval fork 0) old new → KeepsLeft relseg base old new

-- any event
abbrev pub IsAny : Event → Type 0
IsAny event = Unit {0}

-- and what each of two calls leaves so, both leave, one behind the other
abbrev pub CallsKeepInTurn : Type 0
CallsKeepInTurn =
    (relseg : ℕ) (base : Base) (first between last : Option (List Event))
    → Adds IsAny first between → Adds IsAny between last
    → KeepsLeft relseg base first between → KeepsLeft relseg base between last
    → KeepsLeft relseg base first last

-- ---- after a sync, and with more flushed

-- files that hold a store of whole pages that has what stays are left so
abbrev pub HeldIsLeft : Type 0
HeldIsLeft =
    (relseg : ℕ) (base : Base) (held : Store) (files : Files) → 0 < relseg
    → Holds relseg files held → HasWholePages held → HasWhatStays base held
    → IsLeftOf relseg base files

-- and a store of whole pages has what stays, where files hold it that have that: so it is of what a
-- stop left, once its files are neat
abbrev pub LeftIsHeld : Type 0
LeftIsHeld =
    (relseg : ℕ) (base : Base) (held : Store) (files : Files) → 0 < relseg
    → HasNamedForks base.store → HasWholePages base.store
    → Holds relseg files held → HasWholePages held → IsLeftOf relseg base files
    → HasWhatStays base held

-- so a stop leaves it where what a read gives is durable
abbrev pub DurableIsLeft : Type 0
DurableIsLeft =
    (relseg : ℕ) (base : Base) (told : Option Files) (past : Option (List Event))
    → IsDurable told past → IfSome told (IsLeftOf relseg base)
    → IfSome told (λ files. LeavesNow (IsLeftOf relseg base) past)

-- with more entries flushed less stays
abbrev pub MoreIsLeft : Type 0
MoreIsLeft =
    (relseg : ℕ) (base more : Base) (past : Option (List Event)) → ChangesMore base more
    → LeavesNow (IsLeftOf relseg base) past → LeavesNow (IsLeftOf relseg more) past
