-- The window of a history from a place on: the entries from there on whose WAL is flushed.
use Rattle.std.specs.Prelude.{◌≡◌, ℕ, ◌<◌, ◌≤◌, Bool, List, [], ◌++◌, Some}
use Rattle.std.specs.List.{All, list_any}
use Rattle.std.specs.FinMap.{empty}
use Rattle.lsn_core.specs.declared.ids.ForkId.{ForkId}
use Rattle.lsn_core.specs.declared.ids.BlockId.{BlockId}
use Rattle.lsn_core.specs.Store.{Store}
use Rattle.history.specs.Entry.{Entry}
use Rattle.history.specs.Apply.{apply_all}
use Rattle.history.specs.partitions.Parts.{is_of}
use Rattle.history.specs.fuzzy_copies.Touches.{resets, settles}
use Rattle.history.specs.fuzzy_copies.Sound.{entries_before, state_before}
use Rattle.history.specs.fuzzy_copies.Taken.{since}
use Rattle.history.specs.fuzzy_copies.Covers.{AreTidy}
use Rattle.page_frames.specs.Overlay.{pages_over, marks_over}
use Rattle.stop_areas.specs.Left.{Base}
use Rattle.page_pool.specs.Part.{Part}

-- entries of a history that end at a place or before it, up to which the WAL is flushed, and those
-- behind them, which end past it
pub record ArePartedBy (flushed : ℕ) (known later : List Entry) : Type 0 where
  pub known_end : All (λ e. e.end ≤ flushed) known
  pub later_end : All (λ e. flushed < e.end) later

-- a history of flushed entries and later ones, which makes the store of now: the store at a place,
-- and what the flushed entries make of it from there on. The later ones start there or past it, and
-- all that do are tidy
pub record IsWindow (from : ℕ) (known later : List Entry) (store mid now : Store) : Type 0 where
  pub made : apply_all empty (known ++ later) ≡ Some now
  pub defined : state_before known from ≡ Some store
  pub done : apply_all store (since from known) ≡ Some mid
  pub tidy : AreTidy store (since from known)
  pub late : entries_before later from ≡ []
  pub rest : apply_all mid later ≡ Some now
  pub tidy_rest : AreTidy mid later

-- of some forks, what entries change of a store
abbrev pub base_of : (ForkId → Bool) → Store → List Entry → Base
base_of ours store entries = record {
  ours = ours;
  store = store;
  changed = λ fork block. list_any (resets fork block) entries;
  settled = λ fork. list_any (settles fork) entries;
}

-- what the window's entries change of a partition's forks
abbrev pub window_base : ℕ → ℕ → List Entry → Store → Base
window_base q from known store = base_of (is_of q) store (since from known)

-- a partition's pages are those in its frames over what stands behind these, and what is dirty is
-- marked there
pub record IsFramed (part : Part) : Type 0 where
  pub behind : BlockId → List ℕ
  pub frames : part.frames ≡ pages_over behind part.framed
  pub marks : part.marks ≡ marks_over part.framed
