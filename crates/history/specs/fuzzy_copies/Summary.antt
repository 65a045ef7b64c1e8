-- What a summary says of a range of entries.
use Rattle.std.specs.Prelude.{◌≡◌, ℕ, min, ◌&&◌, ◌||◌, Bool, false, not, List, [], ◌∷◌, map, Option, Some, None, nat_le}
use Rattle.std.specs.List.{list_any}
use Rattle.lsn_core.specs.declared.ids.ForkId.{ForkId}
use Rattle.history.specs.Entry.{Entry}
use Rattle.history.specs.fuzzy_copies.Touches.{limit_of, touches}
use Rattle.history.specs.fuzzy_copies.Sound.{window}

-- a block reference table, which an entry or a summary says: the limit of a fork, where it has one,
-- and the blocks that are listed of it
pub record BlockRefTable : Type 0 where
  pub limit : ForkId → Option ℕ
  pub listed : ForkId → ℕ → Bool

-- an entry's: it lists the blocks that it touches, and has the limits that its act sets
abbrev pub table_of : Entry → BlockRefTable
table_of e = record {
  limit = λ fork. limit_of fork e.act;
  listed = λ fork block. touches fork block e;
}

-- the less of two limits; where there is one alone, that one
abbrev pub least : Option ℕ → Option ℕ → Option ℕ
least None m = m
least (Some n) None = Some n
least (Some n) (Some m) = Some (min n m)

-- there is a limit, and the block is at it or past it
abbrev pub is_at_most : ℕ → Option ℕ → Bool
is_at_most block None = false
is_at_most block (Some limit) = nat_le limit block

-- a table has a limit of the fork at or below the block
abbrev pub limits : ForkId → ℕ → BlockRefTable → Bool
limits fork block table = is_at_most block (table.limit fork)

-- the least limit that tables have of a fork
abbrev pub limit_in : ForkId → List BlockRefTable → Option ℕ
limit_in fork [] = None
limit_in fork (t ∷ ts) = least (t.limit fork) (limit_in fork ts)

-- one of the tables lists the block, and no later one has a limit at or below it
abbrev pub is_listed : ForkId → ℕ → List BlockRefTable → Bool
is_listed fork block [] = false
is_listed fork block (t ∷ ts) =
    (t.listed fork block && not (list_any (limits fork block) ts)) || is_listed fork block ts

-- the summary of tables, in order of time
abbrev pub summed : List BlockRefTable → BlockRefTable
summed ts = record {
  limit = λ fork. limit_in fork ts;
  listed = λ fork block. is_listed fork block ts;
}

-- the summary of entries: the least limit that one sets. A block is listed where an entry touches
-- it and no later one sets a limit at or below it
abbrev pub summed_up : List Entry → BlockRefTable
summed_up entries = summed (map table_of entries)

-- the summary of a range: of the entries that start at a place or past it, and below another one.
-- Limits and blocks are pg_walsummary's; that a later limit takes off blocks is our profile
abbrev pub summary_of : List Entry → ℕ → ℕ → BlockRefTable
summary_of history from to = summed_up (window history from to)

-- the summary of two adjoining ranges: the first one's blocks but for those at or past the next
-- one's limit, the next one's blocks, and the least limit
abbrev pub both_summed : BlockRefTable → BlockRefTable → BlockRefTable
both_summed first next = record {
  limit = λ fork. least (first.limit fork) (next.limit fork);
  listed = λ fork block.
      (first.listed fork block && not (limits fork block next)) || next.listed fork block;
}

-- two summaries say the same
pub record SayTheSame (a b : BlockRefTable) : Type 0 where
  pub limit : (fork : ForkId) → a.limit fork ≡ b.limit fork
  pub listed : (fork : ForkId) (block : ℕ) → a.listed fork block ≡ b.listed fork block
