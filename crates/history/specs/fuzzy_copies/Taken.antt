-- How a copy is taken, of a store that changes meanwhile.
use Rattle.std.specs.Prelude.{◌≡◌, ℕ, ◌==◌, ◌&&◌, true, false, List, ◌++◌, Option, Some, nat_lt, nat_le}
use Rattle.std.specs.List.{list_any, filter}
use Rattle.std.specs.Option.{unwrap_or, is_some}
use Rattle.std.specs.FinMap.{contains_key, empty}
use Rattle.lsn_core.specs.declared.ids.ForkId.{ForkId}
use Rattle.lsn_core.specs.Store.{Store}
use Rattle.lsn_core.specs.Blocks.{block_of, block_count}
use Rattle.pg_page.specs.Header.{zero_page}
use Rattle.history.specs.Entry.{Entry}
use Rattle.history.specs.Apply.{apply_all}
use Rattle.history.specs.Written.{is_redo}
use Rattle.history.specs.fuzzy_copies.Touches.{resets, settles}
use Rattle.history.specs.fuzzy_copies.Orderly.{IsOrderly, AreOwnFrom}
use Rattle.history.specs.fuzzy_copies.Sound.{state_before}

-- the entries that start at a place or past it
abbrev pub since : ℕ → List Entry → List Entry
since from entries = filter (λ e. nat_le from e.start) entries

-- what a copier that has seen these entries may be answered when it asks for a block as of a place:
-- where no entry since then touches or cuts the block, the block as it was
abbrev pub IsBlockCopied : List Entry → ℕ → ForkId → ℕ → Option (List ℕ) → Type 0
IsBlockCopied seen from fork block answer =
    list_any (resets fork block) (since from seen) ≡ false
    → (base : Store) → state_before seen from ≡ Some base → answer ≡ block_of base fork block

-- what it may be answered when it asks for a fork's length
pub record IsListed (seen : List Entry) (from : ℕ) (fork : ForkId) (found : Option ℕ) : Type 0 where
  -- where no entry since then creates the fork, it is there where it was
  pub there : list_any (settles fork) (since from seen) ≡ false
      → (base : Store) → state_before seen from ≡ Some base
      → is_some found ≡ contains_key base fork
  -- where no entry since then touches or cuts a block, the fork has the block where it had it
  pub reached : (block : ℕ) → list_any (resets fork block) (since from seen) ≡ false
      → (base : Store) → state_before seen from ≡ Some base
      → nat_lt block (unwrap_or found 0) ≡ is_some (block_of base fork block)

-- what a copier has seen: a beginning of the history that holds the entry at a place, and behind
-- which an entry ends at another place
pub record IsSeen (seen history : List Entry) (from to : ℕ) : Type 0 where
  pub behind : List Entry
  pub all : history ≡ seen ++ behind
  pub holds : list_any (λ e. e.start == from) seen ≡ true
  pub ends : list_any (λ e. e.end == to) behind ≡ true

-- a fork of the copy, or its want: as it was listed at some moment
pub record Listing (copy : Store) (history : List Entry) (from to : ℕ)
    (fork : ForkId) : Type 0 where
  pub seen : List Entry
  pub prefix : IsSeen seen history from to
  pub listed : IsListed seen from fork (block_count copy fork)

-- a page of the copy: the answer at some moment, or zeros where the block was gone then
pub record Copying (history : List Entry) (from to : ℕ) (fork : ForkId) (block : ℕ)
    (page : List ℕ) : Type 0 where
  pub seen : List Entry
  pub prefix : IsSeen seen history from to
  pub answer : Option (List ℕ)
  pub copied : IsBlockCopied seen from fork block answer
  pub written : page ≡ unwrap_or answer zero_page

-- a copy that was taken between two places, while entries were written: each fork was listed at a
-- moment of its own, each of its blocks copied at another
pub record IsTaken (copy : Store) (history : List Entry) (from to : ℕ) : Type 0 where
  pub forks : (fork : ForkId) → Listing copy history from to fork
  pub blocks : (fork : ForkId) (block : ℕ) (page : List ℕ)
      → block_of copy fork block ≡ Some page → Copying history from to fork block page

-- the history of a store that runs while a copy is taken: it can be applied, the start of a
-- checkpoint starts at the place, and the entries from there on are this run's own
pub record IsRunning (history : List Entry) (from : ℕ) : Type 0 where
  pub orderly : IsOrderly 0 history
  pub store : Store
  pub defined : apply_all empty history ≡ Some store
  pub redo : list_any (λ e. (e.start == from) && is_redo e.act) history ≡ true
  pub own : AreOwnFrom from history
