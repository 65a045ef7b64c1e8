-- What is marked of the forks in a map.
use Rattle.std.specs.Prelude.{ℕ, Bool, false, Option, Some, None}
use Rattle.std.specs.Ordering.{nat_cmp}
use Rattle.std.specs.BTreeMap.{BTreeMap}
use Rattle.std.specs.BTreeMap as tree
use Rattle.std.specs.BTreeSet as sorted
use Rattle.lsn_core.specs.Store.{fork_cmp}
use Rattle.lsn_core.specs.declared.ids.ForkId.{ForkId}
use Rattle.history.specs.fuzzy_copies.Summary.{BlockRefTable}
use Rattle.wal_summary.specs.declared.fork_marks.ForkMarks.{ForkMarks}
use Rattle.wal_summary.specs.declared.mark_map.MarkMap.{MarkMap}

-- a block of the fork is marked
abbrev pub has_block : ForkMarks → ℕ → Bool
has_block marks block = sorted.contains nat_cmp marks.blocks block

-- the limit and the blocks of a fork of which something may be marked
abbrev pub limit_found : Option ForkMarks → Option ℕ
limit_found None = None
limit_found (Some marks) = marks.limit

abbrev pub has_block_found : Option ForkMarks → ℕ → Bool
has_block_found None block = false
has_block_found (Some marks) block = has_block marks block

-- the block reference table that the marks of forks say
unfoldable pub table_in : BTreeMap ForkId ForkMarks → BlockRefTable
table_in forks = record {
  limit = λ fork. limit_found (tree.get fork_cmp forks fork);
  listed = λ fork block. has_block_found (tree.get fork_cmp forks fork) block;
}

abbrev pub table_of_marks : MarkMap → BlockRefTable
table_of_marks marks = table_in marks.forks
