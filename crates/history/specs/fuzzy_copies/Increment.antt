-- How an incremental copy is taken, and what the copy has that it makes over an earlier one.
use Rattle.std.specs.Prelude.{◌≡◌, ◌<◌, ◌≤◌, ℕ, false, List, Option, Some, None}
use Rattle.std.specs.Option.{unwrap_or, is_some}
use Rattle.std.specs.FinMap.{contains_key}
use Rattle.lsn_core.specs.declared.ids.ForkId.{ForkId}
use Rattle.lsn_core.specs.Store.{Store}
use Rattle.lsn_core.specs.Blocks.{block_of}
use Rattle.history.specs.Entry.{Entry}
use Rattle.history.specs.fuzzy_copies.Taken.{IsListed, IsSeen, Copying}
use Rattle.history.specs.fuzzy_copies.Summary.{summary_of}

-- the block is below the limit that the summary of a range has for the fork
pub record IsBelowLimit (history : List Entry) (first from : ℕ) (fork : ForkId) (block : ℕ)
    : Type 0 where
  pub limit : ℕ
  pub is : (summary_of history first from).limit fork ≡ Some limit
  pub below : block < limit

-- a block that may be taken over from the earlier copy: the summary of a range doesn't list it
abbrev pub MayBeKept : List Entry → ℕ → ℕ → ForkId → ℕ → Type 0
MayBeKept history first from fork block =
    (summary_of history first from).listed fork block ≡ false

-- where the earlier copy has the block, the new copy has it with the same bytes; where the earlier
-- one hasn't, the new one may have anything there
abbrev pub TakesOver : Store → Store → ForkId → ℕ → Type 0
TakesOver copy prior fork block =
    (page : List ℕ) → block_of prior fork block ≡ Some page → block_of copy fork block ≡ Some page

-- where a block comes from in a fork that was listed with so many blocks. It was copied; it may be
-- kept, and was taken over from the earlier copy; its file was made longer, up to the fork's limit,
-- and it may be anything; it isn't there. A block that may be kept and that the earlier copy hasn't
-- wasn't there at the new copy's start, so that an entry since then touches or cuts it
pub data BlockOrigin (copy prior : Store) (history : List Entry) (first from to : ℕ) (fork : ForkId)
    (block count : ℕ) : Type 0 where
  Copied : (page : List ℕ) → block < count → block_of copy fork block ≡ Some page
      → Copying history from to fork block page
      → BlockOrigin copy prior history first from to fork block count
  Kept : block < count → MayBeKept history first from fork block
      → TakesOver copy prior fork block
      → BlockOrigin copy prior history first from to fork block count
  Raised : count ≤ block → IsBelowLimit history first from fork block
      → BlockOrigin copy prior history first from to fork block count
  Missing : count ≤ block → block_of copy fork block ≡ None
      → BlockOrigin copy prior history first from to fork block count

-- a fork of the new copy: it was listed at some moment, and is there as it was listed; and each of
-- its blocks
pub record ForkOrigin (copy prior : Store) (history : List Entry) (first from to : ℕ)
    (fork : ForkId) : Type 0 where
  pub seen : List Entry
  pub prefix : IsSeen seen history from to
  pub found : Option ℕ
  pub listed : IsListed seen from fork found
  pub there : contains_key copy fork ≡ is_some found
  pub blocks : (block : ℕ)
      → BlockOrigin copy prior history first from to fork block (unwrap_or found 0)
