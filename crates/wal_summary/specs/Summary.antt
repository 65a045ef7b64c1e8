-- What the forks of a summary say, and which forks are the summary that a table says.
use Rattle.std.specs.Prelude.{◌≡◌, ℕ, ◌==◌, Bool, true, false, List, [], ◌∷◌, map, Option, Some, None, if◌then◌else◌}
use Rattle.std.specs.List.{list_any, AllByRecursion}
use Rattle.std.specs.List.Sorted.{IsStrictlySortedBy}
use Rattle.std.specs.Ordering.{nat_cmp}
use Rattle.lsn_core.specs.Store.{fork_cmp}
use Rattle.lsn_core.specs.declared.ids.ForkId.{ForkId}
use Rattle.history.specs.Apply.{is_same_fork}
use Rattle.history.specs.fuzzy_copies.Summary.{BlockRefTable}
use Rattle.wal_summary.specs.declared.summary.ForkSummary.{ForkSummary}
use Rattle.wal_summary.specs.declared.summary.Summary.{Summary}

-- the limit that a list of forks has of a fork
abbrev pub limit_at : ForkId → List ForkSummary → Option ℕ
limit_at fork [] = None
limit_at fork (s ∷ ss) = if is_same_fork fork s.fork then s.limit else limit_at fork ss

-- it lists a block of a fork
abbrev pub lists_at : ForkId → ℕ → List ForkSummary → Bool
lists_at fork block [] = false
lists_at fork block (s ∷ ss) =
    if is_same_fork fork s.fork then list_any (λ b. block == b) s.blocks
    else lists_at fork block ss

-- the block reference table that a list of forks says, and that a summary says
abbrev pub table_of_forks : List ForkSummary → BlockRefTable
table_of_forks forks = record {
  limit = λ fork. limit_at fork forks;
  listed = λ fork block. lists_at fork block forks;
}

abbrev pub table_of_summary : Summary → BlockRefTable
table_of_summary sum = table_of_forks sum.forks

-- there is a limit or a block
abbrev pub is_told : Option ℕ → List ℕ → Bool
is_told None [] = false
is_told None (b ∷ bs) = true
is_told (Some limit) bs = true

-- a fork's blocks rise, and it has a limit or a block
pub record IsForkSummary (s : ForkSummary) : Type 0 where
  pub blocks : IsStrictlySortedBy nat_cmp s.blocks
  pub told : is_told s.limit s.blocks ≡ true

-- forks in order, each one once, and each in order
pub record AreSorted (sums : List ForkSummary) : Type 0 where
  pub forks : IsStrictlySortedBy fork_cmp (map (λ s. s.fork) sums)
  pub each : AllByRecursion IsForkSummary sums

-- forks in order that say what a table says: of a range of entries the table is `summary_of` it
pub record IsSummary (table : BlockRefTable) (forks : List ForkSummary) : Type 0 where
  pub sorted : AreSorted forks
  pub says : table_of_forks forks ≡ table
