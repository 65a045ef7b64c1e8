-- Laws of what a stop leaves of a partition that follows a history.
use Rattle.std.specs.Prelude.{◌≡◌, ℕ, ◌<◌, Bool, false, List, [], ◌++◌, IsSome, IfSome}
use Rattle.std.specs.List.{list_any}
use Rattle.lsn_core.specs.declared.ids.ForkId.{ForkId}
use Rattle.lsn_core.specs.Files.{Files}
use Rattle.lsn_core.specs.Laws.{HasNamedForks}
use Rattle.lsn_core.specs.Store.{Store}
use Rattle.vault.specs.Frame.{LeavesNow, LeavesOnly}
use Rattle.rel_files.specs.Forks.{Holds, HasWholePages}
use Rattle.history.specs.Entry.{Entry}
use Rattle.history.specs.partitions.Parts.{concerns}
use Rattle.history.specs.fuzzy_copies.Sound.{entries_before}
use Rattle.history.specs.fuzzy_copies.Covers.{AgreesUnlessChanged}
use Rattle.history.specs.fuzzy_copies.CoverLaws.{MakesTidily}
use Rattle.stop_areas.specs.Left.{ChangesMore, IsLeftOf}
use Rattle.page_pool.specs.Part.{Part}
use Rattle.page_pool.specs.Calls.{AreWholePages, HoldsFrames}
use Rattle.page_pool.specs.Facts.{Follows}
use Rattle.page_pool.specs.Stops.{Allows, RawKeeps, KeepsWindow}
use Rattle.stop_laws.specs.Window.{ArePartedBy, IsWindow, IsFramed, base_of, window_base}

-- a history that makes this store has its window at a place, by its entries that are flushed
pub record HasWindow (from : ℕ) (known later : List Entry) (now : Store) : Type 0 where
  pub store : Store
  pub mid : Store
  pub window : IsWindow from known later store mid now

-- so it has, wherever none of the later entries starts before the place
abbrev pub HistoriesHaveWindows : Type 0
HistoriesHaveWindows =
    (from : ℕ) (known later : List Entry) (now : Store)
    → MakesTidily (known ++ later) from now → entries_before later from ≡ []
    → HasWindow from known later now

-- a partition, of this number, that tells its files and follows a history, where this is flushed up
-- to a place
pub record IsFlushedTo (q flushed : ℕ) (known later : List Entry) (store mid now : Store)
    (part : Part) : Type 0 where
  pub parted : ArePartedBy flushed known later
  pub window : IsWindow part.point known later store mid now
  pub told : IsSome part.disk
  pub framed : IsFramed part
  pub follows : Follows q (known ++ later) part

-- what is dirty or pending by flushed entries may be written
abbrev pub FlushedWritesMayBeDone : Type 0
FlushedWritesMayBeDone =
    (q flushed : ℕ) (known later : List Entry) (store mid now : Store) (part : Part)
    → IsFlushedTo q flushed known later store mid now part
    → Allows flushed (window_base q part.point known store) part

-- files hold what stays, and a stop leaves it
abbrev pub KeepsBase : ℕ → ℕ → List Entry → Store → Part → Type 0
KeepsBase q from known store part =
    RawKeeps (window_base q from known store) part
    × LeavesNow (IsLeftOf part.relseg (window_base q from known store)) part.past

-- so a stop at each moment of a call that keeps windows leaves what stays, where it did before
abbrev pub CallsKeepWindows : Type 0
CallsKeepWindows =
    (q flushed : ℕ) (known later : List Entry) (store mid now : Store) (old new : Part)
    → IsFlushedTo q flushed known later store mid now old → KeepsWindow flushed old new
    → KeepsBase q old.point known store old
    → RawKeeps (window_base q old.point known store) new
    × LeavesOnly (IsLeftOf old.relseg (window_base q old.point known store)) old.past new.past

-- where a partition's files hold its pages, durably, a stop leaves what stays of the store at its
-- point, whatever entries of others aren't flushed
abbrev pub CleanPartitionsBeginWindows : Type 0
CleanPartitionsBeginWindows =
    (q : ℕ) (known later : List Entry) (store mid now : Store) (part : Part)
    → 0 < part.relseg → IsWindow part.point known later store mid now
    → list_any (concerns q) later ≡ false → Follows q (known ++ later) part → IsSome part.disk
    → AreWholePages part.frames → HoldsFrames part
    → IfSome part.disk (λ files. LeavesNow (λ left. left ≡ files) part.past)
    → KeepsBase q part.point known store part

-- with more entries flushed, more changes
abbrev pub WindowsGrow : Type 0
WindowsGrow =
    (ours : ForkId → Bool) (store : Store) (entries more : List Entry)
    → ChangesMore (base_of ours store entries) (base_of ours store (entries ++ more))

-- what files hold that have what stays agrees with the store at the place, but for what the entries
-- change
abbrev pub LeftStoresAgree : Type 0
LeftStoresAgree =
    (ours : ForkId → Bool) (relseg : ℕ) (store copy : Store) (entries : List Entry) (files : Files)
    → 0 < relseg → HasNamedForks store → HasWholePages store → Holds relseg files copy
    → HasWholePages copy → IsLeftOf relseg (base_of ours store entries) files
    → AgreesUnlessChanged ours copy store entries
