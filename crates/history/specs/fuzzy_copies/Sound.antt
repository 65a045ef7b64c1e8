-- A copy that was taken while pages changed, and that replay completes.
use Rattle.std.specs.Prelude.{◌≡◌, ◌<◌, ℕ, ◌==◌, ◌&&◌, ◌||◌, Bool, true, false, not, List, ◌∷◌, ◌++◌, Option, Some, None, nat_lt, nat_le}
use Rattle.std.specs.List.{list_any, filter}
use Rattle.std.specs.FinMap.{contains_key, empty}
use Rattle.lsn_core.specs.byte_words.Numbers.{◌>>=◌}
use Rattle.lsn_core.specs.declared.ids.ForkId.{ForkId}
use Rattle.lsn_core.specs.Store.{Store}
use Rattle.lsn_core.specs.Blocks.{block_of}
use Rattle.lsn_core.specs.Tip.{tip_with}
use Rattle.pg_page.specs.Header.{lsn_of}
use Rattle.history.specs.Entry.{Entry, is_of_run}
use Rattle.history.specs.Apply.{apply_all}
use Rattle.history.specs.Written.{tip_over}
use Rattle.history.specs.fuzzy_copies.Touches.{patches, resets, settles}

-- the entries that start below a place, and the store that they make from nothing
abbrev pub entries_before : List Entry → ℕ → List Entry
entries_before history place = filter (λ e. nat_lt e.start place) history

abbrev pub state_before : List Entry → ℕ → Option Store
state_before history place = apply_all empty (entries_before history place)

-- an entry starts at a place or past it, and below another; the entries that do
abbrev pub is_in : ℕ → ℕ → Entry → Bool
is_in from to e = nat_le from e.start && nat_lt e.start to

abbrev pub window : List Entry → ℕ → ℕ → List Entry
window history from to = filter (is_in from to) history

-- two stores agree on a block: neither has it, or both have it with the same bytes
abbrev pub Agree : Store → Store → ForkId → ℕ → Type 0
Agree copy store fork block = block_of copy fork block ≡ block_of store fork block

-- the latest redo point of a history: where the latest entry starts that is the start of a
-- checkpoint, or else the first entry
abbrev pub redo_point : List Entry → ℕ
redo_point history = (tip_over (tip_with 0 0 0 0) history).redo

-- the LSN of a block; a block that isn't there has 0
abbrev pub block_lsn : Option (List ℕ) → ℕ
block_lsn None = 0
block_lsn (Some page) = lsn_of page

-- the LSN of a block after entries
abbrev pub lsn_after : List Entry → ForkId → ℕ → ℕ
lsn_after entries fork block =
    block_lsn (apply_all empty entries >>= λ store. block_of store fork block)

-- an entry's patch of a block is written as a delta, behind the entries before it: a patch that was
-- read was a delta; a patch of this run is one where the page's LSN is above the latest redo point
abbrev pub is_logged_as_delta : List Entry → Entry → ForkId → ℕ → Bool
is_logged_as_delta before e fork block =
    not (is_of_run e) || nat_lt (redo_point before) (lsn_after before fork block)

-- an entry is written with a delta of the block
abbrev pub IsWrittenAsDelta : List Entry → Entry → ForkId → ℕ → Type 0
IsWrittenAsDelta before e fork block =
    (patches fork block e ≡ true) × (is_logged_as_delta before e fork block ≡ true)

-- a copy that was taken from one place to another, while entries were written, and that replay from
-- the first place completes
pub record IsSoundCopy (copy : Store) (history : List Entry) (from to : ℕ) : Type 0 where
  -- the store at the first place
  pub base : Store
  pub defined : state_before history from ≡ Some base
  -- a block that no entry in between touches or cuts is as it was then
  pub blocks : (fork : ForkId) (block : ℕ)
      → list_any (resets fork block) (window history from to) ≡ false
      → Agree copy base fork block
  -- a fork that no entry in between creates is there where it was then
  pub forks : (fork : ForkId) → list_any (settles fork) (window history from to) ≡ false
      → contains_key copy fork ≡ contains_key base fork
  -- an entry in between that is written with a delta of a block follows another one in between that
  -- touches or cuts the block
  pub deltas : (fork : ForkId) (block : ℕ) (before : List Entry) (e : Entry) (later : List Entry)
      → history ≡ before ++ (e ∷ later) → is_in from to e ≡ true
      → IsWrittenAsDelta before e fork block
      → list_any (resets fork block) (window before from to) ≡ true
  -- the first place is an entry's start, the other an entry's end above it
  pub starts : list_any (λ e. e.start == from) history ≡ true
  pub ends : list_any (λ e. e.end == to) history ≡ true
  pub above : from < to
