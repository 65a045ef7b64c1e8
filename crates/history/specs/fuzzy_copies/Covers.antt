-- A disk that is behind its store, and the entries from a place on that tell the rest.
use Rattle.std.specs.Prelude.{◌≡◌, ℕ, true, false, List, [], ◌∷◌, Bool, Some, ◌⊎◌}
use Rattle.std.specs.List.{list_any}
use Rattle.std.specs.FinMap.{contains_key}
use Rattle.lsn_core.specs.declared.ids.ForkId.{ForkId}
use Rattle.lsn_core.specs.Store.{Store}
use Rattle.history.specs.Entry.{Entry}
use Rattle.history.specs.Apply.{apply}
use Rattle.history.specs.Op.{IsTidy}
use Rattle.history.specs.fuzzy_copies.Touches.{resets, settles}
use Rattle.history.specs.fuzzy_copies.Sound.{state_before, Agree}
use Rattle.history.specs.fuzzy_copies.Taken.{since}

-- entries that are tidy, each on the store after those before it
abbrev pub AreTidy : Store → List Entry → Type 0
AreTidy store [] = Unit
AreTidy store (e ∷ es) =
    IsTidy store e.act × ((next : Store) → apply store e ≡ Some next → AreTidy next es)

-- the entries of a history that start at a place or past it are tidy
abbrev pub AreTidyFrom : ℕ → List Entry → Type 0
AreTidyFrom from history =
    (base : Store) → state_before history from ≡ Some base → AreTidy base (since from history)

-- of some forks, such as a partition's, two stores agree unless entries change what they have
pub record AgreesUnlessChanged (ours : ForkId → Bool) (disk store : Store) (entries : List Entry)
    : Type 0 where
  -- on each block that no entry touches or cuts
  pub blocks : (fork : ForkId) (block : ℕ) → ours fork ≡ true
      → list_any (resets fork block) entries ≡ false → Agree disk store fork block
  -- on whether a fork is there that no entry creates
  pub forks : (fork : ForkId) → ours fork ≡ true → list_any (settles fork) entries ≡ false
      → contains_key disk fork ≡ contains_key store fork

-- a disk of these forks covers a history from a place on: it has what the store had at the place,
-- unless an entry since then changes it
pub record Covers (ours : ForkId → Bool) (disk : Store) (history : List Entry) (from : ℕ)
    : Type 0 where
  pub base : Store
  pub defined : state_before history from ≡ Some base
  pub agrees : AgreesUnlessChanged ours disk base (since from history)

-- a disk of these forks that is behind a store: it has what the store has now, unless an entry from
-- a place on changes it
abbrev pub Lags : (ForkId → Bool) → Store → Store → List Entry → ℕ → Type 0
Lags ours disk now history from = AgreesUnlessChanged ours disk now (since from history)

-- a disk after some of it was written: unless an entry changes it, each block and fork is as on the
-- disk before or as in the store now. What an entry changes may be anything, as after a torn write
pub record IsRewritten (ours : ForkId → Bool) (old new now : Store) (entries : List Entry)
    : Type 0 where
  pub blocks : (fork : ForkId) (block : ℕ) → ours fork ≡ true
      → list_any (resets fork block) entries ≡ false
      → Agree new old fork block ⊎ Agree new now fork block
  pub forks : (fork : ForkId) → ours fork ≡ true → list_any (settles fork) entries ≡ false
      → (contains_key new fork ≡ contains_key old fork)
      ⊎ (contains_key new fork ≡ contains_key now fork)
